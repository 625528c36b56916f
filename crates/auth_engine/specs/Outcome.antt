-- What a task comes to: the first refusal that applies, or the verdict.
use Rattle.std.specs.Prelude.{◌≡◌, ◌≢◌, ◌↔◌, ℕ, List, [], length, Option, Some, None, Result, Ok, Err, IsTrue, IfSome, MatchResult, map}
use Rattle.child_ports.specs.declared.fingerprint.Fingerprint.{Fingerprint}
use Rattle.child_ports.specs.declared.git.GitRow.{GitRow}
use Rattle.child_ports.specs.declared.sig.SigRow.{SigRow}
use Rattle.child_ports.specs.declared.keeper.Pair.{Pair}
use Rattle.authorizations.specs.declared.scope.Scope.{Scope}
use Rattle.auth_cache.specs.Entries.{with_id}
use Rattle.auth_cache.specs.Found.{CanBeRecorded}
use Rattle.auth_cache.specs.Text.{text_of}
use Rattle.commit_graph.specs.Chains.{Reaches}
use Rattle.commit_graph.specs.History.{IsLeast}
use Rattle.commit_graph.specs.Covers.{IsRelated, IsCovered, IsUncovered, AreUncovered}
use Rattle.auth_rules.specs.World.{World, Id}
use Rattle.auth_rules.specs.Rules.{signer, cause, intro_cause}
use Rattle.commit_history.specs.Members.{history, IsMember, IsSound, IsWhole, AtMost, MoreThan}
use Rattle.commit_history.specs.Answers.{IsUnsoundMember, IsEndlessMember}
use Rattle.auth_engine.specs.declared.task.Task.{Task}
use Rattle.auth_engine.specs.declared.task.Verdict.{Verdict}
use Rattle.auth_engine.specs.declared.engine_fail.EngineFail.{EngineFail}
use Rattle.auth_engine.specs.declared.engine_fail.EngineFail.TheVariants.{Name, Keyring, Cache, TooMany, Object as OfObject, Cycle, Intro, Unrelated, Commit, GitFault, SigFault, KeepFault, Memory}
use Rattle.auth_engine.specs.declared.starting.Start.{Start}
use Rattle.auth_engine.specs.Starting.{start_of, world_in, scope_of, entries_of}
use Rattle.auth_engine.specs.Authentic.{IsAuthentic, IsFirstRefused}
use Rattle.auth_engine.specs.Tally.{IsTally}

-- Target, introduction and keyring can be had, and the target is authentic. No cache is spoken of.
pub record HasAuthenticTarget (rows : List GitRow) (sigs : List SigRow) (task : Task) : Type 0 where
  pub start : Start
  pub begins : start_of rows task ≡ Ok start
  pub authentic : IsAuthentic (world_in rows sigs task start.ring) (scope_of task start.ring) start.ring.keys start.target

-- ---- the verdict

-- what is to be kept: the target before the entries that were read
abbrev pub pair_of : Task → Scope → Id → List Id → Pair
pair_of task s target entries = record { key = task.cache_key; value = text_of s (with_id target entries) }

pub record IsVerdict (w : World) (task : Task) (start : Start) (entries : List Id) (verdict : Verdict) : Type 0 where
  pub target : verdict.target ≡ start.target
  pub older : IsTrue verdict.older ↔ (Reaches (history w) task.intro start.target × (start.target ≢ task.intro))
  pub commits : List Id
  pub signers : List Fingerprint
  pub judged : AreUncovered (history w) start.target task.intro entries commits
  pub number : verdict.judged ≡ length commits
  pub signed : map (signer w) commits ≡ map (λ (key : Fingerprint). Some key) signers
  pub tally : IsTally signers verdict.signers
  pub covered : IsCovered (history w) start.target task.intro entries start.target → verdict.store ≡ None
  pub stored : ¬ IsCovered (history w) start.target task.intro entries start.target → verdict.store ≡ Some (pair_of task (scope_of task start.ring) start.target entries)
  pub recorded : IfSome verdict.store (λ _. CanBeRecorded (scope_of task start.ring) (with_id start.target entries))

-- ---- what is found in the history: the first that applies

abbrev pub IsFinding : World → Task → Start → List Id → Result Verdict EngineFail → Type 0
IsFinding w task start entries (Err TooMany) = MoreThan 1000000 (IsMember w start.target task.intro)
IsFinding w task start entries (Err (OfObject id why)) =
    AtMost 1000000 (IsMember w start.target task.intro)
    × IsLeast (IsUnsoundMember w start.target task.intro) id × (w.commit id ≡ Err why)
IsFinding w task start entries (Err (Cycle id)) =
    AtMost 1000000 (IsMember w start.target task.intro)
    × ((c : Id) → IsMember w start.target task.intro c → IsSound w c)
    × IsLeast (IsEndlessMember w start.target task.intro) id
IsFinding w task start entries (Err (Intro id why)) =
    IsWhole w start.target task.intro
    × (id ≡ task.intro) × (intro_cause w (scope_of task start.ring) start.ring.keys ≡ Some why)
IsFinding w task start entries (Err (Unrelated target intro)) =
    IsWhole w start.target task.intro
    × (intro_cause w (scope_of task start.ring) start.ring.keys ≡ None)
    × (target ≡ start.target) × (intro ≡ task.intro) × (¬ IsRelated (history w) start.target task.intro)
IsFinding w task start entries (Err (Commit id why)) =
    IsWhole w start.target task.intro
    × (intro_cause w (scope_of task start.ring) start.ring.keys ≡ None)
    × IsRelated (history w) start.target task.intro
    × IsFirstRefused w (scope_of task start.ring) start.ring.keys start.target id why
IsFinding w task start entries (Ok verdict) =
    IsAuthentic w (scope_of task start.ring) start.ring.keys start.target
    × IsVerdict w task start entries verdict
IsFinding w task start entries (Err (Name which why)) = ⊥
IsFinding w task start entries (Err (Keyring why)) = ⊥
IsFinding w task start entries (Err (Cache why)) = ⊥
IsFinding w task start entries (Err GitFault) = ⊥
IsFinding w task start entries (Err SigFault) = ⊥
IsFinding w task start entries (Err KeepFault) = ⊥
IsFinding w task start entries (Err Memory) = ⊥

-- what a task comes to over git's answers, gpgv's verdicts and what is kept under its cache key
abbrev pub IsOutcome : List GitRow → List SigRow → Task → Option (List ℕ) → Result Verdict EngineFail → Type 0
IsOutcome rows sigs task kept result = MatchResult (start_of rows task)
    (λ start. MatchResult (entries_of (scope_of task start.ring) kept)
    (λ entries. IsFinding (world_in rows sigs task start.ring) task start entries result)
    (λ fail. result ≡ Err (Cache fail)))
    (λ fail. result ≡ Err fail)

-- ---- the verdict, whatever is kept

-- What was judged over these entries, sound or not: a whole history, an introduction and a target that are related, and each commit
-- that the entries don't cover.
pub record IsJudgedOver (w : World) (task : Task) (start : Start) (entries : List Id) : Type 0 where
  pub whole : IsWhole w start.target task.intro
  pub introduced : intro_cause w (scope_of task start.ring) start.ring.keys ≡ None
  pub related : IsRelated (history w) start.target task.intro
  pub authorised : (c : Id) → IsUncovered (history w) start.target task.intro entries c → cause w (scope_of task start.ring) start.ring.keys c ≡ None

-- the verdict over these entries, and what was judged for it
abbrev pub IsJudgedVerdict : World → Task → Start → List Id → Verdict → Type 0
IsJudgedVerdict w task start entries verdict = IsJudgedOver w task start entries × IsVerdict w task start entries verdict

-- the verdict on a task over what is kept for it, sound or not
abbrev pub IsVerdictOver : List GitRow → List SigRow → Task → Option (List ℕ) → Verdict → Type 0
IsVerdictOver rows sigs task kept verdict = MatchResult (start_of rows task)
    (λ start. MatchResult (entries_of (scope_of task start.ring) kept)
    (λ entries. IsJudgedVerdict (world_in rows sigs task start.ring) task start entries verdict)
    (λ _. ⊥))
    (λ _. ⊥)
