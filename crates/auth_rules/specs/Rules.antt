-- Why a commit is refused, and the introduction: the first cause that applies. The rules are those of Guix's manual,
-- "Channels"; what a commit without parents is held to, the order of the causes, and the rules on weak hashes and on removed
-- files are this project's own.
use Rattle.std.specs.Prelude.{ℕ, List, [], ◌∷◌, nat_eq, bytes_eq, ◌&&◌, Bool, false, if◌then◌else◌, is_some, is_none, Option, Some, None, option_map, option_and_then, Result, Ok, Err, flat_map, map}
use Rattle.std.specs.FinSet as set
use Rattle.std.specs.List.{list_all, list_any, find}
use Rattle.std.specs.Result.{result_ok, result_err, result_map_both}
use Rattle.child_ports.specs.KeySet.{Keys}
use Rattle.child_ports.specs.declared.fingerprint.Fingerprint.{Fingerprint}
use Rattle.commit_objects.specs.declared.commit.Commit.{Commit}
use Rattle.authorizations.specs.declared.scope.Scope.{Scope}
use Rattle.authorizations.specs.declared.fail.AuthFail.{AuthFail}
use Rattle.openpgp_status.specs.declared.judged.Judged.{Judged}
use Rattle.openpgp_status.specs.declared.judged.Judged.TheVariants.{Valid}
use Rattle.auth_rules.specs.declared.cause.What.{What}
use Rattle.auth_rules.specs.declared.cause.Cause.{Cause}
use Rattle.auth_rules.specs.declared.cause.Cause.TheVariants.{Unreadable, Unsigned, Signature, WeakHash, KeyNotInKeyring, RemovesFile, ParentRemovedFile, ParentFile, NotAuthorised, WrongSigner}
use Rattle.auth_rules.specs.declared.root.Root.{Root}
use Rattle.auth_rules.specs.World.{World, Id, onward}

-- a value where a test holds
abbrev pub when : {A : Type 0} → Bool → A → Option A
when test x = if test then Some x else None

-- a value where it doesn't
abbrev pub unless : {A : Type 0} → Bool → A → Option A
unless test x = if test then None else Some x

-- the first that is there
abbrev pub first : {A : Type 0} → List (Option A) → Option A
first [] = None
first (Some x ∷ rest) = Some x
first (None ∷ rest) = first rest

-- ---- commits and their files

-- what was read of an object, or that it is unreadable
abbrev pub read_as : {A : Type 0} → Id → Result A What → Result A Cause
read_as id read = result_map_both (λ x. x) (Unreadable id) read

-- a commit, and the file in the tree that it names; or the first of the two that can't be read
abbrev pub root_of : World → Id → Result Root Cause
root_of w c =
    onward (read_as c (w.commit c)) (λ commit.
    onward (read_as commit.tree (w.file commit.tree)) (λ file.
    Ok (record { commit = commit; file = file })))

abbrev pub root_fault : World → Id → Option Cause
root_fault w c = result_err (root_of w c)

abbrev pub list_parents : Option Commit → List Id
list_parents (Some commit) = commit.parents
list_parents None = []

-- the parents of a commit: none where it can't be read
abbrev pub parents_of : World → Id → List Id
parents_of w c = list_parents (result_ok (w.commit c))

abbrev pub has : Result Root Cause → Bool
has (Ok root) = is_some root.file
has (Err cause) = false

abbrev pub lacks : Result Root Cause → Bool
lacks (Ok root) = is_none root.file
lacks (Err cause) = false

abbrev pub has_file : World → Id → Bool
has_file w c = has (root_of w c)

abbrev pub lacks_file : World → Id → Bool
lacks_file w c = lacks (root_of w c)

-- ---- keys

-- the keys of a file: none where they can't be told
abbrev pub listed : Result (Result Keys AuthFail) What → Keys
listed (Ok (Ok keys)) = keys
listed (Ok (Err fail)) = set.empty
listed (Err what) = set.empty

abbrev pub given_by : World → Scope → Option Id → Keys
given_by w s (Some blob) = listed (w.listing blob)
given_by w s None = s.historical

abbrev pub given : World → Scope → Result Root Cause → Keys
given w s (Ok root) = given_by w s root.file
given w s (Err cause) = set.empty

-- the keys that a commit gives its children: those of its file, or the historical keys where it has no file; none where that
-- can't be told
abbrev pub gives : World → Scope → Id → Keys
gives w s c = given w s (root_of w c)

abbrev pub allowed_by : World → Scope → List Id → Fingerprint → Bool
allowed_by w s [] key = set.contains s.historical key
allowed_by w s (p ∷ parents) key = list_all (λ parent. set.contains (gives w s parent) key) (p ∷ parents)

-- a key is allowed for a commit where every parent gives it; for a commit without parents, where it is a historical key
abbrev pub allows : World → Scope → Id → Fingerprint → Bool
allows w s c key = allowed_by w s (parents_of w c) key

-- ---- signatures

-- what is judged of a commit's signature, if it is signed
abbrev pub judgement : World → Commit → Option Judged
judgement w commit = option_map (λ signature. w.judged signature commit.payload) commit.signature

-- the same by the commit's id: nothing where the commit can't be read
abbrev pub judged_of : World → Id → Option Judged
judged_of w c = option_and_then (judgement w) (result_ok (w.commit c))

abbrev pub valid_key : Judged → Option Fingerprint
valid_key (Valid key hash) = Some key
valid_key _ = None

abbrev pub hash_number : Judged → Option ℕ
hash_number (Valid key hash) = Some hash
hash_number _ = None

-- the key that signed a commit
abbrev pub signer : World → Id → Option Fingerprint
signer w c = option_and_then valid_key (judged_of w c)

-- ---- what is consulted

abbrev pub blob_fault : World → Id → Option Cause
blob_fault w blob = result_err (read_as blob (w.listing blob))

-- beside a parent's root tree: its file; where it has none, the root trees of the parent's own parents
abbrev pub beside_by : World → Id → Option Id → List (Option Cause)
beside_by w p (Some blob) = blob_fault w blob ∷ []
beside_by w p None = map (root_fault w) (parents_of w p)

abbrev pub beside : World → Id → Result Root Cause → List (Option Cause)
beside w p (Ok root) = beside_by w p root.file
beside w p (Err cause) = []

-- what is consulted of a parent: its root tree, and what stands beside that
abbrev pub parent_consulted : World → Id → List (Option Cause)
parent_consulted w p = root_fault w p ∷ beside w p (root_of w p)

-- what is consulted for a commit, in order: its root tree, and then each parent. Of each object it is said why it can't be
-- read, if it can't.
abbrev pub consulted : World → Id → List (Option Cause)
consulted w c = root_fault w c ∷ flat_map (parent_consulted w) (parents_of w c)

-- ---- causes

-- something that is consulted can't be read
abbrev pub unreadable : World → Id → Option Cause
unreadable w c = first (consulted w c)

abbrev pub unsigned : Option Judged → Option Cause
unsigned j = unless (is_some j) Unsigned

-- the verdict isn't one valid signature
abbrev pub not_valid : Judged → Option Cause
not_valid j = unless (is_some (valid_key j)) (Signature j)

-- MD5 is weak, and SHA-1 where the commit has the file
abbrev pub weak : Bool → ℕ → Option Cause
weak filed hash = first (when (nat_eq hash 1) (WeakHash 1) ∷ when (nat_eq hash 2 && filed) (WeakHash 2) ∷ [])

abbrev pub not_in : Keys → Fingerprint → Option Cause
not_in keys key = unless (set.contains keys key) (KeyNotInKeyring key)

-- why a signature is refused: by what is judged of it, by whether the commit has the file, and by the keys of the keyring
abbrev pub signature_cause : Option Judged → Bool → Keys → Option Cause
signature_cause j filed keys = first (
    unsigned j
    ∷ option_and_then not_valid j
    ∷ option_and_then (weak filed) (option_and_then hash_number j)
    ∷ option_and_then (not_in keys) (option_and_then valid_key j)
    ∷ [])

-- a commit that has no file, and a parent of which has one
abbrev pub has_removed : World → Id → Bool
has_removed w c = lacks_file w c && list_any (has_file w) (parents_of w c)

abbrev pub removes_file : World → Id → Option Cause
removes_file w c = when (has_removed w c) RemovesFile

-- the first parent that has no file where a parent of it has one
abbrev pub parent_removed_file : World → Id → Option Cause
parent_removed_file w c = option_map ParentRemovedFile (find (has_removed w) (parents_of w c))

abbrev pub bad_listing : Id → Result (Result Keys AuthFail) What → Option Cause
bad_listing p (Ok (Ok keys)) = None
bad_listing p (Ok (Err fail)) = Some (ParentFile p fail)
bad_listing p (Err what) = None

abbrev pub bad_file : World → Id → Result Root Cause → Option Cause
bad_file w p (Ok root) = option_and_then (λ blob. bad_listing p (w.listing blob)) root.file
bad_file w p (Err cause) = None

-- the first parent whose file is no file of authorisations
abbrev pub parent_file : World → Id → Option Cause
parent_file w c = first (map (λ p. bad_file w p (root_of w p)) (parents_of w c))

abbrev pub not_authorised : World → Scope → Id → Option Cause
not_authorised w s c = option_and_then (λ key. unless (allows w s c key) (NotAuthorised key)) (signer w c)

-- why a commit is refused: the first of these that applies, or none
abbrev pub cause : World → Scope → Keys → Id → Option Cause
cause w s keys c = first (
    unreadable w c
    ∷ signature_cause (judged_of w c) (has_file w c) keys
    ∷ removes_file w c
    ∷ parent_removed_file w c
    ∷ parent_file w c
    ∷ not_authorised w s c
    ∷ [])

abbrev pub other_signer : Scope → Fingerprint → Option Cause
other_signer s key = unless (bytes_eq key.0 s.signer.0) (WrongSigner key s.signer)

-- why the introduction is refused: its parents aren't looked at
abbrev pub intro_cause : World → Scope → Keys → Option Cause
intro_cause w s keys = first (
    root_fault w s.intro
    ∷ signature_cause (judged_of w s.intro) (has_file w s.intro) keys
    ∷ option_and_then (other_signer s) (signer w s.intro)
    ∷ [])
