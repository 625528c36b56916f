-- A keyring whatever git answers: what is read for each id has this id.
use Rattle.std.proofs.Common.{◌≡◌, ℕ, nat_lt, Bool, true, false, List, [], ◌∷◌, ◌++◌, length, codes, refl, sym, ap, ◌∙◌, subst, append_assoc, append-nil}
use Rattle.std.specs.Prelude.{Result, Ok, Err, IfOk, if◌then◌else◌}
use Rattle.std.specs.FinSet.{empty, union}
use Rattle.child_ports.specs.KeySet.{Keys}
use Rattle.child_ports.specs.declared.git.GitRow.{GitRow}
use Rattle.object_frames.specs.Fetched.{IsGenuine, IsOfId}
use Rattle.object_frames.specs.Object.{object_id}
use Rattle.object_frames.specs.declared.kind.Kind.{Kind}
use Rattle.object_frames.specs.declared.kind.Kind.TheVariants as kind
use Rattle.object_frames.specs.declared.object.Fetched.TheVariants.{Found}
use Rattle.object_frames.specs.declared.object.Object.{Object}
use Rattle.tree_entries.specs.Asked.{AreFiles}
use Rattle.tree_entries.specs.declared.entry.Entry.{Entry}
use Rattle.keyring_branch.specs.Fail.{onward}
use Rattle.keyring_branch.specs.Genuine.{IsTreeOfItsId, IsPartOf, ArePartsOf, IsAddedTo, IsOfItsTree}
use Rattle.keyring_branch.specs.KeyFile.{part_of}
use Rattle.keyring_branch.specs.Keyring.{all_bytes, all_keys}
use Rattle.keyring_branch.specs.KeyringReading.{tree_by_kind, key_part, part_by_kind, file_of, named, with_part, with_files}
use Rattle.keyring_branch.specs.declared.key_fail.KeyFail.{KeyFail}
use Rattle.keyring_branch.specs.declared.key_file.KeyPart.{KeyPart}
use Rattle.keyring_branch.specs.declared.keyring.Keyring.{Keyring}
use Rattle.keyring_branch.specs.declared.keyring_fail.FileBad.{FileBad}
use Rattle.keyring_branch.specs.declared.keyring_fail.KeyringFail.{KeyringFail}
use Rattle.keyring_branch.specs.declared.keyring_fail.KeyringFail.TheVariants as fail
use Rattle.keyring_branch.proofs.FileLemmas.{part_read}
use Rattle.keyring_branch.proofs.UnionLemmas.{union-none, union-union, union-empty}

-- ---- the root tree

tree_of_kind : (k : Kind) (root : Object) → root.kind ≡ k → root.id ≡ object_id root.kind root.content → IfOk (tree_by_kind k root) IsTreeOfItsId
tree_of_kind kind.Commit root is digest = tt
tree_of_kind kind.Tree root is digest = (is, digest ∙ ap (λ (k : Kind). object_id k root.content) is)
tree_of_kind kind.Blob root is digest = tt
tree_of_kind kind.Tag root is digest = tt

pub tree_of : (limit : ℕ) (name : List ℕ) (root : Object) (result : Result Object KeyringFail) → IsGenuine limit name (Found root) → result ≡ tree_by_kind root.kind root → IfOk result IsTreeOfItsId
tree_of limit name root result genuine is = subst (λ (r : Result Object KeyringFail). IfOk r IsTreeOfItsId) (sym is) (tree_of_kind root.kind root refl genuine.digest)

-- ---- a key file

blob_part : (id : List ℕ) (blob : Object) → blob.kind ≡ kind.Blob → id ≡ object_id blob.kind blob.content
    → (read : Result KeyPart KeyFail) → part_of blob.content ≡ read → IfOk (key_part read) (IsPartOf id)
blob_part id blob is digest (Ok part) e =
    let holds = part_read blob.content part e in record {
      content = blob.content;
      digest = digest ∙ ap (λ (k : Kind). object_id k blob.content) is;
      dearmored = holds.0;
      key_file = holds.1;
    }
blob_part id blob is digest (Err fault) e = tt

part_of_kind : (k : Kind) (id : List ℕ) (blob : Object) → blob.kind ≡ k → id ≡ object_id blob.kind blob.content → IfOk (part_by_kind k blob) (IsPartOf id)
part_of_kind kind.Commit id blob is digest = tt
part_of_kind kind.Tree id blob is digest = tt
part_of_kind kind.Blob id blob is digest = blob_part id blob is digest (part_of blob.content) refl
part_of_kind kind.Tag id blob is digest = tt

pub part_of_id : (limit : ℕ) (id : List ℕ) (blob : Object) (part : Result KeyPart FileBad) → IsOfId limit id (Found blob) → part ≡ part_by_kind blob.kind blob → IfOk part (IsPartOf id)
part_of_id limit id blob part genuine is = subst (λ (p : Result KeyPart FileBad). IfOk p (IsPartOf id)) (sym is) (part_of_kind blob.kind id blob refl genuine.digest)

-- ---- the files, one after another

abbrev more : Keyring → KeyPart → Keyring
more keyring part = record { tree = keyring.tree; bytes = keyring.bytes ++ part.bytes; keys = union keyring.keys part.keys }

more_is : (keyring : Keyring) (part : KeyPart) (next : Keyring) → with_part keyring part ≡ Ok next → next ≡ more keyring part
more_is keyring part next e =
    elim (nat_lt 67108864 (length (keyring.bytes ++ part.bytes))) as (λ (t : Bool). (if t then Err fail.TooLarge else Ok (more keyring part)) ≡ Ok next → next ≡ more keyring part) [
      | true ↦ λ h. cc
      | false ↦ λ h. cc
    ] e

pub none_added : (keyring : Keyring) → IsAddedTo keyring [] keyring
none_added keyring = record { parts = []; are_parts = tt; tree_is = refl; bytes_are = sym (append-nil keyring.bytes); keys_are = sym (union-empty keyring.keys) }

one_added : (start : Keyring) (file : Entry) (files : List Entry) (part : KeyPart) (next end : Keyring) → IsPartOf file.id part → with_part start part ≡ Ok next → IsAddedTo next files end → IsAddedTo start (file ∷ files) end
one_added start file files part next end is made rest =
    let m = more_is start part next made in record {
      parts = part ∷ rest.parts;
      are_parts = (is, rest.are_parts);
      tree_is = rest.tree_is ∙ ap (λ (k : Keyring). k.tree) m;
      bytes_are = rest.bytes_are ∙ ap (λ (k : Keyring). k.bytes ++ all_bytes rest.parts) m ∙ append_assoc start.bytes part.bytes (all_bytes rest.parts);
      keys_are = rest.keys_are ∙ ap (λ (k : Keyring). union k.keys (all_keys rest.parts)) m ∙ union-union start.keys part.keys (all_keys rest.parts);
    }

-- what the files from a place on add is what the next one and those after it add
pub later_added : (start keyring next : Keyring) (files rest more_rest : List Entry) (file : Entry) (part : KeyPart) → rest ≡ file ∷ more_rest → IsPartOf file.id part → with_part keyring part ≡ Ok next
    → ((end : Keyring) → IsAddedTo keyring rest end → IsAddedTo start files end) → (end : Keyring) → IsAddedTo next more_rest end → IsAddedTo start files end
later_added start keyring next files rest more_rest file part cut is made later end added = later end (subst (λ (l : List Entry). IsAddedTo keyring l end) (sym cut) (one_added keyring file more_rest part next end is made added))

-- the same of what the reading of the files gives
pub with_next : (rows : List GitRow) (dir : List ℕ) (start keyring next : Keyring) (files rest more_rest : List Entry) (file : Entry) (part : KeyPart) → rest ≡ file ∷ more_rest → Ok part ≡ file_of rows dir file.id
    → with_part keyring part ≡ Ok next → with_files rows dir start files ≡ with_files rows dir keyring rest → with_files rows dir start files ≡ with_files rows dir next more_rest
with_next rows dir start keyring next files rest more_rest file part cut read made so_far =
    so_far
    ∙ ap (with_files rows dir keyring) cut
    ∙ ap (λ (r : Result KeyPart FileBad). onward (named file.name r) (λ one. onward (with_part keyring one) (λ after. with_files rows dir after more_rest))) (sym read)
    ∙ ap (λ (r : Result Keyring KeyringFail). onward r (λ after. with_files rows dir after more_rest)) made

-- behind the last file nothing is added
pub all_added : (start keyring : Keyring) (files rest : List Entry) → rest ≡ [] → ((end : Keyring) → IsAddedTo keyring rest end → IsAddedTo start files end) → IsAddedTo start files keyring
all_added start keyring files rest none later = later keyring (subst (λ (l : List Entry). IsAddedTo keyring l keyring) (sym none) (none_added keyring))

-- ---- the keyring

pub of_its_tree : (root : Object) (content : List ℕ) (files listed : List Entry) (bytes : List ℕ) (keys : Keys) (result : Result Keyring KeyringFail)
    → IsTreeOfItsId root → content ≡ root.content → AreFiles 20 content (codes ".key") files → listed ≡ files → bytes ≡ [] → keys ≡ empty
    → IfOk result (IsAddedTo (record { tree = root.id; bytes = bytes; keys = keys }) listed) → IfOk result IsOfItsTree
of_its_tree root content files listed bytes keys (Ok keyring) genuine same_content are same_files none no_key added = record {
  content = root.content;
  files = files;
  parts = added.parts;
  tree_is = added.tree_is ∙ genuine.1;
  are_files = subst (λ (l : List ℕ). AreFiles 20 l (codes ".key") files) same_content are;
  are_parts = subst (λ (l : List Entry). ArePartsOf l added.parts) same_files added.are_parts;
  bytes_are = added.bytes_are ∙ ap (λ (b : List ℕ). b ++ all_bytes added.parts) none;
  keys_are = added.keys_are ∙ ap (λ (k : Keys). union k (all_keys added.parts)) no_key ∙ union-none (all_keys added.parts);
}
of_its_tree root content files listed bytes keys (Err fault) genuine same_content are same_files none no_key added = tt
