-- The rules at small worlds, worked out: whose keys count for a commit, and which cause comes first.
use Rattle.std.proofs.Common.{◌≡◌, ℕ, List, [], ◌∷◌, Option, Some, None, Ok, Err, refl}
use Rattle.authorizations.specs.declared.fail.AuthFail.TheVariants.{Shape}
use Rattle.openpgp_status.specs.declared.judged.Judged.TheVariants.{NoKey}
use Rattle.auth_rules.specs.declared.cause.Cause.{Cause}
use Rattle.auth_rules.specs.declared.cause.Cause.TheVariants.{Unreadable, Signature, WeakHash, KeyNotInKeyring, RemovesFile, ParentRemovedFile, ParentFile, NotAuthorised, WrongSigner}
use Rattle.auth_rules.specs.declared.cause.What.TheVariants.{Missing}
use Rattle.auth_rules.specs.Rules.{cause, intro_cause, gives}
use Rattle.auth_rules.specs.World.{World}
use Rattle.auth_rules.proofs.Tiny.{tiny, tiny_scope, tiny_id, tiny_key, tiny_keys, with_file, without_file, is_in}

-- the keyring of all rows
abbrev ring : List ℕ
ring = 1 ∷ 2 ∷ 3 ∷ []

-- why a commit of the world is refused, where these are the historical keys
abbrev cause_in : World → List ℕ → ℕ → Option Cause
cause_in w historical c = cause w (tiny_scope historical) (tiny_keys ring) (tiny_id c)

-- ---- a commit's own file doesn't authorise it

-- the introduction lists key 1; commit 2 is signed by key 2, which only its own file lists
abbrev own_file : World
own_file = tiny (with_file 1 [] 1 (1 ∷ []) ∷ with_file 2 (1 ∷ []) 2 (1 ∷ 2 ∷ []) ∷ [])

own_file_is_not_enough : cause_in own_file [] 2 ≡ Some (NotAuthorised (tiny_key 2))
own_file_is_not_enough = rw (is_in 2 ring, is_in 2 (1 ∷ [])) refl

it_gives_its_keys : gives own_file (tiny_scope []) (tiny_id 2) ≡ tiny_keys (1 ∷ 2 ∷ [])
it_gives_its_keys = refl

introduction_is_accepted : intro_cause own_file (tiny_scope []) (tiny_keys ring) ≡ None
introduction_is_accepted = rw (is_in 1 ring) refl

-- ---- every parent has to give the key

-- a merge, 4, of 2 (keys 1 and 2) and 3 (keys 2 and 3), with these parents and this signer
abbrev merge : List ℕ → ℕ → World
merge parents key = tiny (
    with_file 1 [] 1 (1 ∷ 2 ∷ 3 ∷ []) ∷ with_file 2 (1 ∷ []) 1 (1 ∷ 2 ∷ []) ∷ with_file 3 (1 ∷ []) 1 (2 ∷ 3 ∷ [])
    ∷ with_file 4 parents key (2 ∷ []) ∷ [])

both_parents_give_it : cause_in (merge (2 ∷ 3 ∷ []) 2) [] 4 ≡ None
both_parents_give_it = rw (is_in 2 ring, is_in 2 (1 ∷ 2 ∷ []), is_in 2 (2 ∷ 3 ∷ [])) refl

one_parent_is_not_enough : cause_in (merge (2 ∷ 3 ∷ []) 1) [] 4 ≡ Some (NotAuthorised (tiny_key 1))
one_parent_is_not_enough = rw (is_in 1 ring, is_in 1 (1 ∷ 2 ∷ []), is_in 1 (2 ∷ 3 ∷ [])) refl

a_parent_may_come_twice : cause_in (merge (2 ∷ 3 ∷ 3 ∷ []) 2) [] 4 ≡ None
a_parent_may_come_twice = rw (is_in 2 ring, is_in 2 (1 ∷ 2 ∷ []), is_in 2 (2 ∷ 3 ∷ [])) refl

key_has_to_be_at_hand : cause (merge (2 ∷ 3 ∷ []) 2) (tiny_scope []) (tiny_keys (1 ∷ [])) (tiny_id 4) ≡ Some (KeyNotInKeyring (tiny_key 2))
key_has_to_be_at_hand = rw (is_in 2 (1 ∷ [])) refl

-- ---- a file isn't dropped again

-- commit 2 has no file, where its parent has one
abbrev dropped : World
dropped = tiny (with_file 1 [] 1 (1 ∷ []) ∷ without_file 2 (1 ∷ []) 1 ∷ without_file 3 (2 ∷ []) 1 ∷ [])

file_is_removed : cause_in dropped (1 ∷ []) 2 ≡ Some RemovesFile
file_is_removed = rw (is_in 1 ring) refl

parent_removed_it : cause_in dropped (1 ∷ []) 3 ≡ Some (ParentRemovedFile (tiny_id 2))
parent_removed_it = rw (is_in 1 ring) refl

-- ---- historical keys

-- a root 5 without a file, below the introduction and a commit 2 without a file; 3 merges these two
abbrev rooted : World
rooted = tiny (without_file 5 [] 1 ∷ with_file 1 (5 ∷ []) 1 (1 ∷ []) ∷ without_file 2 (5 ∷ []) 1 ∷ with_file 3 (1 ∷ 2 ∷ []) 1 (1 ∷ []) ∷ [])

no_historical_key : cause_in rooted [] 2 ≡ Some (NotAuthorised (tiny_key 1))
no_historical_key = rw (is_in 1 ring, is_in 1 []) refl

historical_key : cause_in rooted (1 ∷ []) 2 ≡ None
historical_key = rw (is_in 1 ring, is_in 1 (1 ∷ [])) refl

historical_key_beside_a_file : cause_in rooted (1 ∷ []) 3 ≡ None
historical_key_beside_a_file = rw (is_in 1 ring, is_in 1 (1 ∷ [])) refl

root_takes_historical_keys : cause_in rooted (1 ∷ []) 5 ≡ None
root_takes_historical_keys = rw (is_in 1 ring, is_in 1 (1 ∷ [])) refl

root_without_them : cause_in rooted [] 5 ≡ Some (NotAuthorised (tiny_key 1))
root_without_them = rw (is_in 1 ring, is_in 1 []) refl

-- ---- weak hashes

-- commit 2 is signed over this hash, with a file or without
abbrev hashed : ℕ → Option (List ℕ) → World
hashed hash file = tiny (record { name = 1; parents = []; key = 1; hash = 8; file = file } ∷ record { name = 2; parents = 1 ∷ []; key = 1; hash = hash; file = file } ∷ [])

sha1_with_the_file : cause_in (hashed 2 (Some (1 ∷ []))) [] 2 ≡ Some (WeakHash 2)
sha1_with_the_file = refl

sha1_without_it : cause_in (hashed 2 None) (1 ∷ []) 2 ≡ None
sha1_without_it = rw (is_in 1 ring, is_in 1 (1 ∷ [])) refl

md5_anywhere : cause_in (hashed 1 None) (1 ∷ []) 2 ≡ Some (WeakHash 1)
md5_anywhere = refl

-- ---- the order of the causes

lost_blob : cause_in (record (merge (2 ∷ 3 ∷ []) 1) { listing = λ blob. Err Missing }) [] 4 ≡ Some (Unreadable (tiny_id 202) Missing)
lost_blob = refl

lost_parent : cause_in (merge (2 ∷ 9 ∷ []) 1) [] 4 ≡ Some (Unreadable (tiny_id 9) Missing)
lost_parent = refl

-- what can't be read comes before the signature, and the signature before the files
bad_signature : cause_in (record dropped { judged = λ signature payload. NoKey }) (1 ∷ []) 2 ≡ Some (Signature NoKey)
bad_signature = refl

bad_file : cause_in (record (merge (2 ∷ 3 ∷ []) 2) { listing = λ blob. Ok (Err Shape) }) [] 4 ≡ Some (ParentFile (tiny_id 2) Shape)
bad_file = rw (is_in 2 ring) refl

-- ---- the introduction

another_signer : intro_cause (tiny (with_file 1 (7 ∷ []) 2 (2 ∷ []) ∷ [])) (tiny_scope []) (tiny_keys ring) ≡ Some (WrongSigner (tiny_key 2) (tiny_key 1))
another_signer = rw (is_in 2 ring) refl

its_parents_are_not_looked_at : intro_cause (tiny (with_file 1 (7 ∷ []) 1 [] ∷ [])) (tiny_scope []) (tiny_keys ring) ≡ None
its_parents_are_not_looked_at = rw (is_in 1 ring) refl
