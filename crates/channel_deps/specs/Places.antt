-- Where a channel stands, and under which names and keys.
use Rattle.std.specs.Prelude.{ℕ, List, [], ◌∷◌, ◌++◌, codes, unwrap_or, Option, Some, None}
use Rattle.std.specs.FinSet as set
use Rattle.hex.specs.Hex.{encode_lower}
use Rattle.channel_file.specs.declared.channel.Channel.{Channel}
use Rattle.channel_file.specs.declared.channel.Introduction.{Introduction}
use Rattle.auth_rules.specs.World.{Id}
use Rattle.auth_engine.specs.declared.task.Task.{Task}

-- the clone of a channel: `CLONES/NAME`
abbrev pub clone_of : List ℕ → Channel → List ℕ
clone_of clones channel = clones ++ (codes "/" ++ channel.name)

-- a branch, as the clone knows it of its origin, and then its own
abbrev pub branch_names : List ℕ → List ℕ → List (List ℕ)
branch_names branch kind = (codes "refs/remotes/origin/" ++ (branch ++ kind)) ∷ (codes "refs/heads/" ++ (branch ++ kind)) ∷ []

-- the names of a commit, or else of a branch's last one
abbrev pub names_for : Option Id → List ℕ → List (List ℕ)
names_for (Some id) branch = (encode_lower id ++ codes "^{commit}") ∷ []
names_for None branch = branch_names branch (codes "^{commit}")

-- the names of a channel's target
abbrev pub target_names : Channel → List (List ℕ)
target_names channel = names_for channel.commit channel.branch

-- the keys of a channel's records
abbrev pub cache_key : Channel → List ℕ
cache_key channel = codes "channels/" ++ channel.name

abbrev pub deployed_key : Channel → List ℕ
deployed_key channel = codes "deployed/" ++ channel.name

-- the task of a channel: its target by its id, and the keys of the branch that its metadata names
abbrev pub task_of : List ℕ → Channel → Introduction → Option (List ℕ) → Id → Task
task_of clones channel introduction reference target = record {
  dir = clone_of clones channel;
  target = encode_lower target ∷ [];
  intro = introduction.commit;
  signer = introduction.signer;
  historical = set.empty;
  keyring = branch_names (unwrap_or reference (codes "keyring")) (codes "^{tree}");
  cache_key = cache_key channel;
}
