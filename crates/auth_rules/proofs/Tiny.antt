-- Small worlds given by hand.
use Rattle.std.proofs.Common.{◌≡◌, ℕ, ◌+◌, Bool, List, [], ◌∷◌, map}
use Rattle.std.specs.Prelude.{bytes_eq, unwrap_or, Option, Some, None, option_map, Result, Ok, Err}
use Rattle.std.specs.FinSet as set
use Rattle.std.specs.List.{find, list_any}
use Rattle.std.specs.Ordering.{eq_by_cmp}
use Rattle.child_ports.specs.KeySet.{Keys, key_cmp}
use Rattle.child_ports.specs.declared.fingerprint.Fingerprint.{Fingerprint}
use Rattle.child_ports.proofs.KeySetLemmas.{key_cmp_total}
use Rattle.commit_objects.specs.declared.commit.Commit.{Commit}
use Rattle.authorizations.specs.declared.scope.Scope.{Scope}
use Rattle.authorizations.specs.declared.fail.AuthFail.{AuthFail}
use Rattle.openpgp_status.specs.declared.judged.Judged.TheVariants.{Valid}
use Rattle.auth_rules.specs.declared.cause.What.{What}
use Rattle.auth_rules.specs.declared.cause.What.TheVariants as what
use Rattle.auth_rules.specs.World.{World, Id}

-- a commit: its name, its parents, its signer, the hash number, and the keys of its file
pub record TinyCommit : Type 0 where
  pub name : ℕ
  pub parents : List ℕ
  pub key : ℕ
  pub hash : ℕ
  pub file : Option (List ℕ)

abbrev pub tiny_id : ℕ → Id
tiny_id n = n ∷ []

abbrev pub tiny_key : ℕ → Fingerprint
tiny_key k = record { 0 = k ∷ [] }

abbrev pub tiny_keys : List ℕ → Keys
tiny_keys keys = set.from_list (map tiny_key keys)

-- the tree of commit n has the id 100 + n, and its file 200 + n
abbrev pub tiny_commit : Option TinyCommit → Result Commit What
tiny_commit (Some c) = Ok (record { tree = tiny_id (100 + c.name); parents = map tiny_id c.parents; signature = Some (c.key ∷ []); payload = c.hash ∷ [] })
tiny_commit None = Err what.Missing

abbrev pub tiny_file : Option TinyCommit → Result (Option Id) What
tiny_file (Some c) = Ok (option_map (λ keys. tiny_id (200 + c.name)) c.file)
tiny_file None = Err what.Missing

abbrev pub tiny_listing : Option TinyCommit → Result (Result Keys AuthFail) What
tiny_listing (Some c) = Ok (Ok (tiny_keys (unwrap_or c.file [])))
tiny_listing None = Err what.Missing

-- a signature is its key, and a payload its hash number
abbrev pub first_byte : List ℕ → ℕ
first_byte [] = 8
first_byte (b ∷ bytes) = b

abbrev pub tiny : List TinyCommit → World
tiny commits = record {
  commit = λ id. tiny_commit (find (λ c. bytes_eq (tiny_id c.name) id) commits);
  file = λ tree. tiny_file (find (λ c. bytes_eq (tiny_id (100 + c.name)) tree) commits);
  listing = λ blob. tiny_listing (find (λ c. bytes_eq (tiny_id (200 + c.name)) blob) commits);
  judged = λ signature payload. Valid (record { 0 = signature }) (first_byte payload);
}

-- the scope of these worlds: introduction 1, signed by key 1
abbrev pub tiny_scope : List ℕ → Scope
tiny_scope historical = record { intro = tiny_id 1; signer = tiny_key 1; keyring_tree = []; historical = tiny_keys historical }

-- commits with the hash number 8
abbrev pub with_file : ℕ → List ℕ → ℕ → List ℕ → TinyCommit
with_file name parents key file = record { name = name; parents = parents; key = key; hash = 8; file = Some file }

abbrev pub without_file : ℕ → List ℕ → ℕ → TinyCommit
without_file name parents key = record { name = name; parents = parents; key = key; hash = 8; file = None }

-- whether a key is in such a set
abbrev pub is_listed : ℕ → List ℕ → Bool
is_listed key keys = list_any (eq_by_cmp key_cmp (tiny_key key)) (map tiny_key keys)

pub is_in : (key : ℕ) (keys : List ℕ) → set.contains (tiny_keys keys) (tiny_key key) ≡ is_listed key keys
is_in key keys = set.contains-from_list key_cmp_total (map tiny_key keys) (tiny_key key)
