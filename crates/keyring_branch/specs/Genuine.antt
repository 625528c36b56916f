-- What a keyring is whatever git answers: each id is the SHA-1 of what was read for it.
use Rattle.std.specs.Prelude.{◌≡◌, ℕ, List, [], ◌∷◌, ◌++◌, codes}
use Rattle.std.specs.FinSet.{union}
use Rattle.object_frames.specs.Object.{object_id}
use Rattle.object_frames.specs.declared.kind.Kind.TheVariants as kind
use Rattle.object_frames.specs.declared.object.Object.{Object}
use Rattle.tree_entries.specs.Asked.{AreFiles}
use Rattle.tree_entries.specs.declared.entry.Entry.{Entry}
use Rattle.keyring_branch.specs.Armour.{IsDearmored}
use Rattle.keyring_branch.specs.KeyFile.{IsKeyFile}
use Rattle.keyring_branch.specs.Keyring.{all_bytes, all_keys}
use Rattle.keyring_branch.specs.declared.key_file.KeyPart.{KeyPart}
use Rattle.keyring_branch.specs.declared.keyring.Keyring.{Keyring}

-- the object is a tree, and has the id of its content
abbrev pub IsTreeOfItsId : Object → Type 0
IsTreeOfItsId root = (root.kind ≡ kind.Tree) × (root.id ≡ object_id kind.Tree root.content)

-- the blob with this id has these packets and keys
pub record IsPartOf (id : List ℕ) (part : KeyPart) : Type 0 where
  pub content : List ℕ
  pub digest : id ≡ object_id kind.Blob content
  pub dearmored : IsDearmored content part.bytes
  pub key_file : IsKeyFile content part.keys

-- the same of the ids of files, in order
abbrev pub ArePartsOf : List Entry → List KeyPart → Type 0
ArePartsOf [] [] = Unit {0}
ArePartsOf [] (part ∷ parts) = ⊥
ArePartsOf (file ∷ files) [] = ⊥
ArePartsOf (file ∷ files) (part ∷ parts) = IsPartOf file.id part × ArePartsOf files parts

-- the keyring has what the start has, and then what the blobs of these files have
pub record IsAddedTo (start : Keyring) (files : List Entry) (keyring : Keyring) : Type 0 where
  pub parts : List KeyPart
  pub are_parts : ArePartsOf files parts
  pub tree_is : keyring.tree ≡ start.tree
  pub bytes_are : keyring.bytes ≡ start.bytes ++ all_bytes parts
  pub keys_are : keyring.keys ≡ union start.keys (all_keys parts)

-- The keyring has the id of a tree, and the packets and keys of the blobs that the tree's files ending in `.key` name by
-- their ids.
pub record IsOfItsTree (keyring : Keyring) : Type 0 where
  pub content : List ℕ
  pub files : List Entry
  pub parts : List KeyPart
  pub tree_is : keyring.tree ≡ object_id kind.Tree content
  pub are_files : AreFiles 20 content (codes ".key") files
  pub are_parts : ArePartsOf files parts
  pub bytes_are : keyring.bytes ≡ all_bytes parts
  pub keys_are : keyring.keys ≡ all_keys parts
