-- The reading of a branch, name by name and file by file: the keyring, or the first fault.
use Rattle.std.specs.Prelude.{◌≡◌, ℕ, nat_lt, if◌then◌else◌, Result, Ok, Err, List, [], ◌∷◌, ◌++◌, length, codes}
use Rattle.std.specs.FinSet.{empty, union}
use Rattle.hex.specs.Hex.{encode_lower}
use Rattle.child_ports.specs.Git.{answer}
use Rattle.child_ports.specs.declared.git.GitRow.{GitRow}
use Rattle.object_frames.specs.Fetched.{fetched_of}
use Rattle.object_frames.specs.declared.frame_fail.FrameFail.{FrameFail}
use Rattle.object_frames.specs.declared.kind.Kind.{Kind}
use Rattle.object_frames.specs.declared.kind.Kind.TheVariants as kind
use Rattle.object_frames.specs.declared.object.Fetched.{Fetched}
use Rattle.object_frames.specs.declared.object.Fetched.TheVariants as fetched
use Rattle.object_frames.specs.declared.object.Object.{Object}
use Rattle.tree_entries.specs.Reading.{files_of}
use Rattle.tree_entries.specs.declared.entry.Entry.{Entry}
use Rattle.tree_entries.specs.declared.fail.TreeFail.{TreeFail}
use Rattle.keyring_branch.specs.Fail.{onward}
use Rattle.keyring_branch.specs.KeyFile.{part_of}
use Rattle.keyring_branch.specs.declared.key_fail.KeyFail.{KeyFail}
use Rattle.keyring_branch.specs.declared.key_file.KeyPart.{KeyPart}
use Rattle.keyring_branch.specs.declared.keyring.Keyring.{Keyring}
use Rattle.keyring_branch.specs.declared.keyring_fail.FileBad.{FileBad}
use Rattle.keyring_branch.specs.declared.keyring_fail.FileBad.TheVariants as bad
use Rattle.keyring_branch.specs.declared.keyring_fail.KeyringFail.{KeyringFail}
use Rattle.keyring_branch.specs.declared.keyring_fail.KeyringFail.TheVariants as fail

-- ---- the branch's root tree

-- the object, if it is a tree
abbrev pub tree_by_kind : Kind → Object → Result Object KeyringFail
tree_by_kind kind.Tree object = Ok object
tree_by_kind kind.Commit object = Err (fail.Kind kind.Commit)
tree_by_kind kind.Blob object = Err (fail.Kind kind.Blob)
tree_by_kind kind.Tag object = Err (fail.Kind kind.Tag)

-- the tree that was found, or that of the other names
abbrev pub root_found : Result Fetched FrameFail → Result Object KeyringFail → Result Object KeyringFail
root_found (Ok fetched.Missing) others = others
root_found (Ok (fetched.Found object)) others = tree_by_kind object.kind object
root_found (Err fault) others = Err (fail.Frame fault)

-- the first of the names that isn't missing, which has to be a tree of at most 16,777,216 bytes
abbrev pub root_of : List GitRow → List ℕ → List (List ℕ) → Result Object KeyringFail
root_of rows dir [] = Err fail.NoBranch
root_of rows dir (name ∷ names) = root_found (fetched_of 16777216 name (answer rows dir name)) (root_of rows dir names)

-- ---- a key file

abbrev pub key_part : Result KeyPart KeyFail → Result KeyPart FileBad
key_part (Ok part) = Ok part
key_part (Err fault) = Err (bad.Key fault)

-- what the object gives, if it is a blob
abbrev pub part_by_kind : Kind → Object → Result KeyPart FileBad
part_by_kind kind.Blob object = key_part (part_of object.content)
part_by_kind kind.Commit object = Err (bad.Kind kind.Commit)
part_by_kind kind.Tree object = Err (bad.Kind kind.Tree)
part_by_kind kind.Tag object = Err (bad.Kind kind.Tag)

abbrev pub part_found : Result Fetched FrameFail → Result KeyPart FileBad
part_found (Ok fetched.Missing) = Err bad.Missing
part_found (Ok (fetched.Found object)) = part_by_kind object.kind object
part_found (Err fault) = Err (bad.Frame fault)

-- what the key file with this id gives: it has at most 4,194,304 bytes
abbrev pub file_of : List GitRow → List ℕ → List ℕ → Result KeyPart FileBad
file_of rows dir id = part_found (fetched_of 4194304 (encode_lower id) (answer rows dir (encode_lower id)))

-- ---- the key files, one after another

-- what a file gives, or its fault with the file's name
abbrev pub named : List ℕ → Result KeyPart FileBad → Result KeyPart KeyringFail
named name (Ok part) = Ok part
named name (Err fault) = Err (fail.File name fault)

-- the keyring with one file more, which may not pass 67,108,864 bytes
abbrev pub with_part : Keyring → KeyPart → Result Keyring KeyringFail
with_part keyring part = if nat_lt 67108864 (length (keyring.bytes ++ part.bytes))
    then Err fail.TooLarge
    else Ok (record { tree = keyring.tree; bytes = keyring.bytes ++ part.bytes; keys = union keyring.keys part.keys })

-- the keyring with these files more, or the first fault
abbrev pub with_files : List GitRow → List ℕ → Keyring → List Entry → Result Keyring KeyringFail
with_files rows dir keyring [] = Ok keyring
with_files rows dir keyring (file ∷ files) =
    onward (named file.name (file_of rows dir file.id)) (λ part.
    onward (with_part keyring part) (λ more.
    with_files rows dir more files))

-- ---- the keyring

-- the tree's files whose names end so, in the tree's order
abbrev pub key_files : Result (List Entry) TreeFail → Result (List Entry) KeyringFail
key_files (Ok files) = Ok files
key_files (Err fault) = Err (fail.Tree fault)

-- The keyring that names stand for in a directory: the id of the branch's root tree, the packets of its key files in the
-- tree's order, and the keys among them; or the first fault. It is never a port's fault, and never want of memory.
unfoldable pub keyring_of : List GitRow → List ℕ → List (List ℕ) → Result Keyring KeyringFail
keyring_of rows dir names =
    onward (root_of rows dir names) (λ root.
    onward (key_files (files_of root.content (codes ".key"))) (λ files.
    with_files rows dir (record { tree = root.id; bytes = []; keys = empty }) files))

-- What a call answered is this, unless a call on the port failed or memory is wanting.
abbrev pub Gives : {A : Type 0} → Result A KeyringFail → Result A KeyringFail → Type 0
Gives (Ok answer) value = value ≡ Ok answer
Gives (Err fail.GitFault) value = Unit {0}
Gives (Err fail.Memory) value = Unit {0}
Gives (Err fault) value = value ≡ Err fault
