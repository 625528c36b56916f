-- When what is kept can be trusted.
use Rattle.std.specs.Prelude.{◌≡◌, ◌⊎◌, ℕ, List, Option, Err, All, IfOk, MatchResult}
use Rattle.child_ports.specs.declared.git.GitRow.{GitRow}
use Rattle.child_ports.specs.declared.sig.SigRow.{SigRow}
use Rattle.child_ports.specs.KeySet.{Keys}
use Rattle.authorizations.specs.declared.scope.Scope.{Scope}
use Rattle.auth_rules.specs.declared.cause.What.TheVariants.{Missing}
use Rattle.auth_rules.specs.World.{World, Id}
use Rattle.auth_engine.specs.declared.task.Task.{Task}
use Rattle.auth_engine.specs.Authentic.{IsAuthentic}
use Rattle.auth_engine.specs.Starting.{ring_of, world_in, scope_of, entries_of}

-- an entry is sound: its commit is missing, or it is authentic
abbrev pub IsSoundEntry : World → Scope → Keys → Id → Type 0
IsSoundEntry w s keys entry = (w.commit entry ≡ Err Missing) ⊎ IsAuthentic w s keys entry

-- what is kept is a cache text, and each entry that it has for the scope is sound. A cache in which nothing is
-- kept is sound as well.
abbrev pub IsSoundValue : World → Scope → Keys → Option (List ℕ) → Type 0
IsSoundValue w s keys kept = MatchResult (entries_of s kept) (All (IsSoundEntry w s keys)) (λ _. ⊥)

-- if what is kept is a cache text, each entry that it has for the scope is sound
abbrev pub HasSoundEntries : World → Scope → Keys → Option (List ℕ) → Type 0
HasSoundEntries w s keys kept = IfOk (entries_of s kept) (All (IsSoundEntry w s keys))

-- What is kept for a task is sound. Where the keyring can't be had, it isn't read, and is always so.
abbrev pub IsSoundCache : List GitRow → List SigRow → Task → Option (List ℕ) → Type 0
IsSoundCache rows sigs task kept = IfOk (ring_of rows task) (λ ring. IsSoundValue (world_in rows sigs task ring) (scope_of task ring) ring.keys kept)

-- What is kept for a task is sound, or no cache text.
abbrev pub IsSoundOrNone : List GitRow → List SigRow → Task → Option (List ℕ) → Type 0
IsSoundOrNone rows sigs task kept = IfOk (ring_of rows task) (λ ring. HasSoundEntries (world_in rows sigs task ring) (scope_of task ring) ring.keys kept)
