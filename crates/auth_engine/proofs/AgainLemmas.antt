-- The keyring of a tree is the same, whenever it is read.
use Rattle.std.proofs.Common.{◌≡◌, ℕ, ◌++◌, nat_lt, Bool, true, false, cond, List, [], ◌∷◌, length, codes, Result, Ok, Err, refl, sym, ap, ap₂, ◌∙◌}
use Rattle.std.specs.FinSet.{empty, union}
use Rattle.hex.specs.Hex.{encode_lower}
use Rattle.child_ports.specs.declared.git.GitRow.{GitRow}
use Rattle.child_ports.specs.Git.{answer}
use Rattle.object_frames.specs.declared.frame_fail.FrameFail.{FrameFail}
use Rattle.object_frames.specs.declared.object.Fetched.{Fetched}
use Rattle.object_frames.specs.declared.object.Fetched.TheVariants as fetched
use Rattle.object_frames.specs.declared.object.Object.{Object}
use Rattle.object_frames.specs.Fetched.{fetched_of}
use Rattle.tree_entries.specs.declared.entry.Entry.{Entry}
use Rattle.tree_entries.specs.Reading.{files_of}
use Rattle.keyring_branch.specs.declared.key_file.KeyPart.{KeyPart}
use Rattle.keyring_branch.specs.declared.keyring.Keyring.{Keyring}
use Rattle.keyring_branch.specs.declared.keyring_fail.FileBad.{FileBad}
use Rattle.keyring_branch.specs.declared.keyring_fail.KeyringFail.{KeyringFail}
use Rattle.keyring_branch.specs.declared.keyring_fail.KeyringFail.TheVariants as unread
use Rattle.keyring_branch.specs.Fail.{onward}
use Rattle.keyring_branch.specs.Keyring.{IsRoot}
use Rattle.keyring_branch.specs.KeyringReading.{root_of, part_found, file_of, named, with_part, with_files, key_files, keyring_of}
use Rattle.keyring_branch.proofs.BranchLemmas.{root_read}

-- ---- steps

-- what went on to a value came from one
onward_from : {A B E : Type 0} (r : Result A E) (f : A → Result B E) (y : B) → onward r f ≡ Ok y → (x : A) × (r ≡ Ok x) × (f x ≡ Ok y)
onward_from (Ok x) f y e = (x, refl, e)
onward_from (Err fault) f y e = cc

ok_same : {A E : Type 0} {x y : A} → ◌≡◌ {A = Result A E} (Ok x) (Ok y) → x ≡ y
ok_same e = cc

-- ---- key files

-- each object of at most 4,194,304 bytes that was found by its id is found again, as the same
abbrev pub KeepsFiles : List ℕ → List GitRow → List GitRow → Type 0
KeepsFiles dir old new = (id : List ℕ) (object : Object) → fetched_of 4194304 (encode_lower id) (answer old dir (encode_lower id)) ≡ Ok (fetched.Found object)
    → fetched_of 4194304 (encode_lower id) (answer new dir (encode_lower id)) ≡ Ok (fetched.Found object)

-- a keyring with more keys is of the same tree
part_tree : (ring more : Keyring) (part : KeyPart) → with_part ring part ≡ Ok more → more.tree ≡ ring.tree
part_tree ring more part e = by_size (nat_lt 67108864 (length (ring.bytes ++ part.bytes))) e
  where
    by_size : (b : Bool) → ◌≡◌ {A = Result Keyring KeyringFail} (cond b (Err unread.TooLarge) (Ok (record { tree = ring.tree; bytes = ring.bytes ++ part.bytes; keys = union ring.keys part.keys }))) (Ok more)
        → more.tree ≡ ring.tree
    by_size true e = cc
    by_size false e = sym (ap (λ (r : Keyring). r.tree) (ok_same e))

files_tree : (rows : List GitRow) (dir : List ℕ) (files : List Entry) (ring last : Keyring) → with_files rows dir ring files ≡ Ok last → last.tree ≡ ring.tree
files_tree rows dir [] ring last e = sym (ap (λ (r : Keyring). r.tree) (ok_same e))
files_tree rows dir (file ∷ files) ring last e =
    let part = onward_from (named file.name (file_of rows dir file.id)) (λ part. onward (with_part ring part) (λ more. with_files rows dir more files)) last e in
    let more = onward_from (with_part ring part.0) (λ more. with_files rows dir more files) last part.2 in
    files_tree rows dir files more.0 last more.2 ∙ part_tree ring more.0 part.0 more.1

module _ (dir : List ℕ) (rows rows' : List GitRow) (blobs : KeepsFiles dir rows rows') where
  file_stays : (id : List ℕ) (part : KeyPart) → file_of rows dir id ≡ Ok part → file_of rows' dir id ≡ Ok part
  file_stays id part e = by_found (fetched_of 4194304 (encode_lower id) (answer rows dir (encode_lower id))) refl e
    where
      by_found : (v : Result Fetched FrameFail) → fetched_of 4194304 (encode_lower id) (answer rows dir (encode_lower id)) ≡ v → part_found v ≡ Ok part → file_of rows' dir id ≡ Ok part
      by_found (Ok (fetched.Found object)) is e = ap part_found (blobs id object is) ∙ e
      by_found (Ok fetched.Missing) is e = cc
      by_found (Err fail) is e = cc

  named_stays : (name id : List ℕ) (part : KeyPart) → named name (file_of rows dir id) ≡ Ok part → named name (file_of rows' dir id) ≡ Ok part
  named_stays name id part e = by_file (file_of rows dir id) refl e
    where
      by_file : (v : Result KeyPart FileBad) → file_of rows dir id ≡ v → named name v ≡ Ok part → named name (file_of rows' dir id) ≡ Ok part
      by_file (Ok found) is e = ap (named name) (file_stays id found is) ∙ e
      by_file (Err fail) is e = cc

  files_stay : (files : List Entry) (ring last : Keyring) → with_files rows dir ring files ≡ Ok last → with_files rows' dir ring files ≡ Ok last
  files_stay [] ring last e = e
  files_stay (file ∷ files) ring last e =
      let part = onward_from (named file.name (file_of rows dir file.id)) (λ part. onward (with_part ring part) (λ more. with_files rows dir more files)) last e in
      let more = onward_from (with_part ring part.0) (λ more. with_files rows dir more files) last part.2 in
      ap (λ v. onward v (λ part. onward (with_part ring part) (λ more. with_files rows' dir more files))) (named_stays file.name file.id part.0 part.1)
      ∙ ap (λ v. onward v (λ more. with_files rows' dir more files)) more.1
      ∙ files_stay files more.0 last more.2

-- ---- keyrings

abbrev started : Object → Keyring
started root = record { tree = root.id; bytes = []; keys = empty }

-- the root tree of a keyring that was read, and its key files
record Reads (rows : List GitRow) (dir : List ℕ) (names : List (List ℕ)) (ring : Keyring) : Type 0 where
  pub root : Object
  pub is_root : IsRoot rows dir names root
  pub files : List Entry
  pub listed : key_files (files_of root.content (codes ".key")) ≡ Ok files
  pub read : with_files rows dir (started root) files ≡ Ok ring
  pub tree_is : ring.tree ≡ root.id

reads : (rows : List GitRow) (dir : List ℕ) (names : List (List ℕ)) (ring : Keyring) → keyring_of rows dir names ≡ Ok ring → Reads rows dir names ring
unfolding keyring_of
reads rows dir names ring e =
    let root = onward_from (root_of rows dir names) (λ root. onward (key_files (files_of root.content (codes ".key"))) (λ files. with_files rows dir (started root) files)) ring e in
    let files = onward_from (key_files (files_of root.0.content (codes ".key"))) (λ files. with_files rows dir (started root.0) files) ring root.2 in
    record {
      root = root.0;
      is_root = root_read rows dir names root.0 root.1;
      files = files.0;
      listed = files.1;
      read = files.2;
      tree_is = files_tree rows dir files.0 (started root.0) ring files.2;
    }

-- two keyrings of one tree are the same, where what was found by its id is found again, and the two root trees are one object if
-- they have one id
pub same_keyring : (dir : List ℕ) (rows rows' : List GitRow) (names names' : List (List ℕ)) (ring ring' : Keyring) → KeepsFiles dir rows rows'
    → ((a b : Object) (name name' : List ℕ) → fetched_of 16777216 name (answer rows dir name) ≡ Ok (fetched.Found a) → fetched_of 16777216 name' (answer rows' dir name') ≡ Ok (fetched.Found b) → a.id ≡ b.id → a ≡ b)
    → keyring_of rows dir names ≡ Ok ring → keyring_of rows' dir names' ≡ Ok ring' → ring.tree ≡ ring'.tree → ring ≡ ring'
same_keyring dir rows rows' names names' ring ring' blobs own read read' tree =
    let a = reads rows dir names ring read in
    let b = reads rows' dir names' ring' read' in
    let roots : a.root ≡ b.root = own a.root b.root a.is_root.name b.is_root.name a.is_root.there b.is_root.there (sym a.tree_is ∙ tree ∙ b.tree_is) in
    let files : a.files ≡ b.files = ok_same (sym a.listed ∙ ap (λ (root : Object). key_files (files_of root.content (codes ".key"))) roots ∙ b.listed) in
    let again = files_stay dir rows rows' blobs a.files (started a.root) ring a.read in
    ok_same (sym again ∙ ap₂ (λ (root : Object) (fs : List Entry). with_files rows' dir (started root) fs) roots files ∙ b.read)
