-- The keyring of a branch, by git's answers.
use Rattle.std.specs.Prelude.{◌≡◌, ◌≤◌, ℕ, Ok, List, [], ◌∷◌, ◌++◌, length, codes}
use Rattle.std.specs.FinSet.{empty, union}
use Rattle.std.specs.List.{AllByRecursion, flat_map}
use Rattle.hex.specs.Hex.{encode_lower}
use Rattle.child_ports.specs.Git.{answer}
use Rattle.child_ports.specs.KeySet.{Keys}
use Rattle.child_ports.specs.declared.git.GitRow.{GitRow}
use Rattle.object_frames.specs.Fetched.{fetched_of}
use Rattle.object_frames.specs.declared.kind.Kind.TheVariants as kind
use Rattle.object_frames.specs.declared.object.Fetched.TheVariants as fetched
use Rattle.object_frames.specs.declared.object.Object.{Object}
use Rattle.tree_entries.specs.Asked.{AreFiles}
use Rattle.tree_entries.specs.declared.entry.Entry.{Entry}
use Rattle.keyring_branch.specs.Armour.{IsDearmored}
use Rattle.keyring_branch.specs.KeyFile.{IsKeyFile}
use Rattle.keyring_branch.specs.declared.key_file.KeyPart.{KeyPart}
use Rattle.keyring_branch.specs.declared.keyring.Keyring.{Keyring}

-- the first of the names that isn't missing in the directory stands for this tree, of at most 16,777,216 bytes
pub record IsRoot (rows : List GitRow) (dir : List ℕ) (names : List (List ℕ)) (root : Object) : Type 0 where
  pub before : List (List ℕ)
  pub name : List ℕ
  pub after : List (List ℕ)
  pub ordered : names ≡ before ++ name ∷ after
  pub missing : AllByRecursion (λ earlier. fetched_of 16777216 earlier (answer rows dir earlier) ≡ Ok fetched.Missing) before
  pub there : fetched_of 16777216 name (answer rows dir name) ≡ Ok (fetched.Found root)
  pub is_tree : root.kind ≡ kind.Tree

-- the file is a blob of at most 4,194,304 bytes, which has these packets and keys
pub record IsKeyPart (rows : List GitRow) (dir : List ℕ) (file : Entry) (part : KeyPart) : Type 0 where
  pub blob : Object
  pub there : fetched_of 4194304 (encode_lower file.id) (answer rows dir (encode_lower file.id)) ≡ Ok (fetched.Found blob)
  pub is_blob : blob.kind ≡ kind.Blob
  pub dearmored : IsDearmored blob.content part.bytes
  pub key_file : IsKeyFile blob.content part.keys

-- files and what they have, in order
abbrev pub AreKeyParts : List GitRow → List ℕ → List Entry → List KeyPart → Type 0
AreKeyParts rows dir [] [] = Unit {0}
AreKeyParts rows dir [] (part ∷ parts) = ⊥
AreKeyParts rows dir (file ∷ files) [] = ⊥
AreKeyParts rows dir (file ∷ files) (part ∷ parts) = IsKeyPart rows dir file part × AreKeyParts rows dir files parts

abbrev pub all_bytes : List KeyPart → List ℕ
all_bytes parts = flat_map (λ (part : KeyPart). part.bytes) parts

abbrev pub all_keys : List KeyPart → Keys
all_keys [] = empty
all_keys (part ∷ parts) = union part.keys (all_keys parts)

-- The names stand for a tree, whose files that end in `.key` have these packets, of at most 67,108,864 bytes, and these keys.
pub record IsKeyring (rows : List GitRow) (dir : List ℕ) (names : List (List ℕ)) (keyring : Keyring) : Type 0 where
  pub root : Object
  pub files : List Entry
  pub parts : List KeyPart
  pub is_root : IsRoot rows dir names root
  pub are_files : AreFiles 20 root.content (codes ".key") files
  pub are_parts : AreKeyParts rows dir files parts
  pub small : length keyring.bytes ≤ 67108864
  pub tree_is : keyring.tree ≡ root.id
  pub bytes_are : keyring.bytes ≡ all_bytes parts
  pub keys_are : keyring.keys ≡ all_keys parts
