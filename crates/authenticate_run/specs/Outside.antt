-- The task of a plan, and what is kept for it.
use Rattle.std.specs.Prelude.{ℕ, List, [], ◌∷◌, ◌++◌, codes, Option, Some, None, Result, Ok, IfOk}
use Rattle.std.specs.FinMap as map
use Rattle.std.specs.FinSet as set
use Rattle.child_ports.specs.Keeper.{Kept}
use Rattle.child_ports.specs.KeySet.{Keys}
use Rattle.auth_engine.specs.declared.task.Task.{Task}
use Rattle.auth_engine.specs.SoundCache.{IsSoundCache, IsSoundOrNone}
use Rattle.auth_report.specs.declared.files.FileFail.{FileFail}
use Rattle.auth_words.specs.declared.plan.Plan.{Plan}
use Rattle.channel_deps.specs.Outside.{Outside}
use Rattle.authenticate_run.specs.Historical.{keys_at}

-- The task of a plan, with these historical keys. The keyring branch is looked for here, and then where a clone has it.
abbrev pub task_for : Plan → Keys → Task
task_for plan historical = record {
  dir = plan.repository;
  target = (plan.end ++ codes "^{commit}") ∷ [];
  intro = plan.intro;
  signer = plan.signer;
  historical = historical;
  keyring = (plan.keyring ++ codes "^{tree}") ∷ (codes "refs/remotes/origin/" ++ (plan.keyring ++ codes "^{tree}")) ∷ [];
  cache_key = plan.cache_key;
}

-- the keys of the file that is named, if one is
abbrev pub keys_named : Kept → Option (List ℕ) → Result Keys FileFail
keys_named files None = Ok set.empty
keys_named files (Some path) = keys_at files path

-- the historical keys of a plan
abbrev pub historical_of : Kept → Plan → Result Keys FileFail
historical_of files plan = keys_named files plan.historical

-- what is kept under a plan's key
abbrev pub cache_in : Kept → Plan → Option (List ℕ)
cache_in kept plan = map.get kept plan.cache_key

-- what is kept under the plan's key is sound for its task
abbrev pub HasSoundCache : Outside → Plan → Keys → Type 0
HasSoundCache o plan keys = IsSoundCache o.answers o.verdicts (task_for plan keys) (cache_in o.kept plan)

-- it is so, or no cache text
abbrev pub HasSoundOrNone : Outside → Plan → Keys → Type 0
HasSoundOrNone o plan keys = IsSoundOrNone o.answers o.verdicts (task_for plan keys) (cache_in o.kept plan)

-- a fact of a plan's historical keys, once its file has given them
abbrev pub OfKeys : Kept → Plan → (Keys → Type 0) → Type 0
OfKeys files plan fact = IfOk (historical_of files plan) fact
