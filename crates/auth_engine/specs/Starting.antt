-- What a task needs before its history is read.
use Rattle.std.specs.Prelude.{ℕ, List, [], Option, Some, None, Result, Ok}
use Rattle.std.specs.Result.{result_map_both}
use Rattle.hex.specs.Hex.{encode_lower}
use Rattle.child_ports.specs.declared.git.GitRow.{GitRow}
use Rattle.child_ports.specs.declared.sig.SigRow.{SigRow}
use Rattle.object_frames.specs.declared.object.Object.{Object}
use Rattle.authorizations.specs.declared.scope.Scope.{Scope}
use Rattle.auth_cache.specs.declared.fail.CacheFail.{CacheFail}
use Rattle.auth_cache.specs.Reading.{cache_of}
use Rattle.keyring_branch.specs.declared.keyring.Keyring.{Keyring as Ring}
use Rattle.keyring_branch.specs.KeyringReading.{keyring_of}
use Rattle.auth_rules.specs.World.{World, Id, onward, world_of}
use Rattle.auth_engine.specs.declared.task.Task.{Task}
use Rattle.auth_engine.specs.declared.starting.Start.{Start}
use Rattle.auth_engine.specs.declared.engine_fail.Which.TheVariants.{Target, Introduction}
use Rattle.auth_engine.specs.declared.engine_fail.EngineFail.{EngineFail}
use Rattle.auth_engine.specs.declared.engine_fail.EngineFail.TheVariants.{Name, Keyring, Cache}
use Rattle.auth_engine.specs.Reading.{commit_named, first_named}

-- the target: the commit of its names
abbrev pub target_of : List GitRow → Task → Result Object EngineFail
target_of rows task = result_map_both (λ object. object) (Name Target) (first_named rows task.dir task.target)

-- the introduction: the commit of its id
abbrev pub intro_of : List GitRow → Task → Result Object EngineFail
intro_of rows task = result_map_both (λ object. object) (Name Introduction) (commit_named rows task.dir (encode_lower task.intro))

-- the keyring of its branch
abbrev pub ring_of : List GitRow → Task → Result Ring EngineFail
ring_of rows task = result_map_both (λ ring. ring) Keyring (keyring_of rows task.dir task.keyring)

-- target, introduction and keyring: the first that can't be had is the answer
abbrev pub start_of : List GitRow → Task → Result Start EngineFail
start_of rows task =
    onward (target_of rows task) (λ target.
    onward (intro_of rows task) (λ intro.
    onward (ring_of rows task) (λ ring.
    Ok (record { target = target.id; ring = ring }))))

-- ---- under a keyring

-- what git's answers and gpgv's verdicts stand for
abbrev pub world_in : List GitRow → List SigRow → Task → Ring → World
world_in rows sigs task ring = world_of rows task.dir sigs ring.bytes

-- what the history is checked against
abbrev pub scope_of : Task → Ring → Scope
scope_of task ring = record { intro = task.intro; signer = task.signer; keyring_tree = ring.tree; historical = task.historical }

-- the entries that a kept value has for a scope: none where nothing is kept
abbrev pub entries_of : Scope → Option (List ℕ) → Result (List Id) CacheFail
entries_of s None = Ok []
entries_of s (Some bytes) = cache_of bytes s

-- these, or the refusal of what is no cache text
abbrev pub cached_of : Scope → Option (List ℕ) → Result (List Id) EngineFail
cached_of s kept = result_map_both (λ entries. entries) Cache (entries_of s kept)
