-- The keyring of a branch: its reading gives what the names stand for.
use Rattle.std.proofs.Common.{◌≡◌, ℕ, ◌+◌, ◌≤◌, nat_lt, Bool, true, false, cond, List, [], ◌∷◌, ◌++◌, length, codes, refl, sym, ap, ◌∙◌, subst, arith, append_assoc, append-nil}
use Rattle.std.specs.Prelude.{Result, Ok, Err, IfOk, IsTrue}
use Rattle.std.specs.FinSet.{empty, union}
use Rattle.std.specs.List.{AllByRecursion}
use Rattle.std.proofs.lemmas.Bool.{ltb-false, le-ltb}
use Rattle.std.proofs.lemmas.List.{length-append}
use Rattle.hex.specs.Hex.{encode_lower}
use Rattle.child_ports.specs.Git.{answer}
use Rattle.child_ports.specs.KeySet.{Keys}
use Rattle.child_ports.specs.declared.git.GitRow.{GitRow}
use Rattle.object_frames.specs.Fetched.{fetched_of}
use Rattle.object_frames.specs.declared.frame_fail.FrameFail.{FrameFail}
use Rattle.object_frames.specs.declared.kind.Kind.{Kind}
use Rattle.object_frames.specs.declared.kind.Kind.TheVariants as kind
use Rattle.object_frames.specs.declared.object.Fetched.{Fetched}
use Rattle.object_frames.specs.declared.object.Fetched.TheVariants as fetched
use Rattle.object_frames.specs.declared.object.Object.{Object}
use Rattle.tree_entries.specs.Asked.{AreFiles}
use Rattle.tree_entries.specs.Reading.{files_of}
use Rattle.tree_entries.specs.declared.entry.Entry.{Entry}
use Rattle.tree_entries.specs.declared.fail.TreeFail.{TreeFail}
use Rattle.tree_entries.proofs.AskedLemmas.{only_files}
use Rattle.keyring_branch.specs.Fail.{onward}
use Rattle.keyring_branch.specs.KeyFile.{part_of}
use Rattle.keyring_branch.specs.Keyring.{IsRoot, IsKeyPart, AreKeyParts, all_bytes, all_keys, IsKeyring}
use Rattle.keyring_branch.specs.KeyringReading.{tree_by_kind, root_found, root_of, key_part, part_by_kind, part_found, file_of, named, with_part, with_files, key_files, keyring_of, Gives}
use Rattle.keyring_branch.specs.declared.key_fail.KeyFail.{KeyFail}
use Rattle.keyring_branch.specs.declared.key_file.KeyPart.{KeyPart}
use Rattle.keyring_branch.specs.declared.keyring.Keyring.{Keyring}
use Rattle.keyring_branch.specs.declared.keyring_fail.FileBad.{FileBad}
use Rattle.keyring_branch.specs.declared.keyring_fail.KeyringFail.{KeyringFail}
use Rattle.keyring_branch.specs.declared.keyring_fail.KeyringFail.TheVariants as fail
use Rattle.keyring_branch.proofs.FileLemmas.{part_read, part_written}
use Rattle.keyring_branch.proofs.UnionLemmas.{union-none, union-union, union-empty}

-- ---- the root tree

tree_kind : (k : Kind) (object root : Object) → tree_by_kind k object ≡ Ok root → (k ≡ kind.Tree) × (object ≡ root)
tree_kind kind.Commit object root e = cc
tree_kind kind.Tree object root e = (refl, cc)
tree_kind kind.Blob object root e = cc
tree_kind kind.Tag object root e = cc

module _ (rows : List GitRow) (dir : List ℕ) where
  abbrev at : List ℕ → Result Fetched FrameFail
  at name = fetched_of 16777216 name (answer rows dir name)

  root_there : (name : List ℕ) (names : List (List ℕ)) (object root : Object) → at name ≡ Ok (fetched.Found object) → (object.kind ≡ kind.Tree) × (object ≡ root) → IsRoot rows dir (name ∷ names) root
  root_there name names object root is found = record {
    before = [];
    name = name;
    after = names;
    ordered = refl;
    missing = tt;
    there = is ∙ ap (λ (o : Object). Ok (fetched.Found o)) found.1;
    is_tree = ap (λ (o : Object). o.kind) (sym found.1) ∙ found.0;
  }

  root_later : (name : List ℕ) (names : List (List ℕ)) (root : Object) → at name ≡ Ok fetched.Missing → IsRoot rows dir names root → IsRoot rows dir (name ∷ names) root
  root_later name names root is later = record {
    before = name ∷ later.before;
    name = later.name;
    after = later.after;
    ordered = ap (λ (l : List (List ℕ)). name ∷ l) later.ordered;
    missing = (is, later.missing);
    there = later.there;
    is_tree = later.is_tree;
  }

  root_step : (name : List ℕ) (names : List (List ℕ)) (root : Object) (r : Result Fetched FrameFail) → at name ≡ r → root_found r (root_of rows dir names) ≡ Ok root → (root_of rows dir names ≡ Ok root → IsRoot rows dir names root) → IsRoot rows dir (name ∷ names) root
  root_step name names root (Ok fetched.Missing) is e later = root_later name names root is (later e)
  root_step name names root (Ok (fetched.Found object)) is e later = root_there name names object root is (tree_kind object.kind object root e)
  root_step name names root (Err fault) is e later = cc

  pub root_read : (names : List (List ℕ)) (root : Object) → root_of rows dir names ≡ Ok root → IsRoot rows dir names root
  root_read [] root e = cc
  root_read (name ∷ names) root e = root_step name names root (at name) refl e (root_read names root)

  roots_written : (before : List (List ℕ)) (name : List ℕ) (after : List (List ℕ)) (root : Object) → AllByRecursion (λ earlier. fetched_of 16777216 earlier (answer rows dir earlier) ≡ Ok fetched.Missing) before
      → at name ≡ Ok (fetched.Found root) → root.kind ≡ kind.Tree → root_of rows dir (before ++ name ∷ after) ≡ Ok root
  roots_written [] name after root missing there is_tree = ap (λ (r : Result Fetched FrameFail). root_found r (root_of rows dir after)) there ∙ ap (λ (k : Kind). tree_by_kind k root) is_tree
  roots_written (earlier ∷ before) name after root missing there is_tree =
      ap (λ (r : Result Fetched FrameFail). root_found r (root_of rows dir (before ++ name ∷ after))) missing.0 ∙ roots_written before name after root missing.1 there is_tree

  root_written : (names : List (List ℕ)) (root : Object) → IsRoot rows dir names root → root_of rows dir names ≡ Ok root
  root_written names root is = ap (root_of rows dir) is.ordered ∙ roots_written is.before is.name is.after root is.missing is.there is.is_tree

  -- ---- a key file

  part_kept : (r : Result KeyPart KeyFail) (part : KeyPart) → key_part r ≡ Ok part → r ≡ Ok part
  part_kept (Ok found) part e = let same : found ≡ part = cc in ap (λ (p : KeyPart). Ok p) same
  part_kept (Err fault) part e = cc

  blob_kind : (k : Kind) (object : Object) (part : KeyPart) → part_by_kind k object ≡ Ok part → (k ≡ kind.Blob) × (part_of object.content ≡ Ok part)
  blob_kind kind.Commit object part e = cc
  blob_kind kind.Tree object part e = cc
  blob_kind kind.Blob object part e = (refl, part_kept (part_of object.content) part e)
  blob_kind kind.Tag object part e = cc

  abbrev blob_at : Entry → Result Fetched FrameFail
  blob_at file = fetched_of 4194304 (encode_lower file.id) (answer rows dir (encode_lower file.id))

  blob_there : (file : Entry) (part : KeyPart) (blob : Object) → blob_at file ≡ Ok (fetched.Found blob) → (blob.kind ≡ kind.Blob) × (part_of blob.content ≡ Ok part) → IsKeyPart rows dir file part
  blob_there file part blob is found =
      let holds = part_read blob.content part found.1 in record { blob = blob; there = is; is_blob = found.0; dearmored = holds.0; key_file = holds.1 }

  file_step : (file : Entry) (part : KeyPart) (r : Result Fetched FrameFail) → blob_at file ≡ r → part_found r ≡ Ok part → IsKeyPart rows dir file part
  file_step file part (Ok fetched.Missing) is e = cc
  file_step file part (Ok (fetched.Found blob)) is e = blob_there file part blob is (blob_kind blob.kind blob part e)
  file_step file part (Err fault) is e = cc

  file_read : (file : Entry) (part : KeyPart) → file_of rows dir file.id ≡ Ok part → IsKeyPart rows dir file part
  file_read file part e = file_step file part (blob_at file) refl e

  file_written : (file : Entry) (part : KeyPart) → IsKeyPart rows dir file part → file_of rows dir file.id ≡ Ok part
  file_written file part is =
      ap part_found is.there ∙ ap (λ (k : Kind). part_by_kind k is.blob) is.is_blob ∙ ap key_part (part_written is.blob.content part is.dearmored is.key_file)

  -- ---- the files

  abbrev more : Keyring → KeyPart → Keyring
  more keyring part = record { tree = keyring.tree; bytes = keyring.bytes ++ part.bytes; keys = union keyring.keys part.keys }

  -- the keyring has the start and what the files have
  record Added (start : Keyring) (files : List Entry) (keyring : Keyring) : Type 0 where
    parts : List KeyPart
    are_parts : AreKeyParts rows dir files parts
    small : length keyring.bytes ≤ 67108864
    tree_is : keyring.tree ≡ start.tree
    bytes_are : keyring.bytes ≡ start.bytes ++ all_bytes parts
    keys_are : keyring.keys ≡ union start.keys (all_keys parts)

  none_added : (start keyring : Keyring) → start ≡ keyring → length start.bytes ≤ 67108864 → Added start [] keyring
  none_added start keyring is small = record {
    parts = [];
    are_parts = tt;
    small = omega (arith, ap (λ (k : Keyring). length k.bytes) is, small);
    tree_is = ap (λ (k : Keyring). k.tree) (sym is);
    bytes_are = ap (λ (k : Keyring). k.bytes) (sym is) ∙ sym (append-nil start.bytes);
    keys_are = ap (λ (k : Keyring). k.keys) (sym is) ∙ sym (union-empty start.keys);
  }

  one_added : (start : Keyring) (file : Entry) (files : List Entry) (part : KeyPart) (keyring : Keyring) → IsKeyPart rows dir file part → Added (more start part) files keyring → Added start (file ∷ files) keyring
  one_added start file files part keyring is rest = record {
    parts = part ∷ rest.parts;
    are_parts = (is, rest.are_parts);
    small = rest.small;
    tree_is = rest.tree_is;
    bytes_are = rest.bytes_are ∙ append_assoc start.bytes part.bytes (all_bytes rest.parts);
    keys_are = rest.keys_are ∙ union-union start.keys part.keys (all_keys rest.parts);
  }

  files_read : (files : List Entry) (start keyring : Keyring) → length start.bytes ≤ 67108864 → with_files rows dir start files ≡ Ok keyring → Added start files keyring
  files_read [] start keyring small e = none_added start keyring (cc) small
  files_read (file ∷ files) start keyring small e =
      elim (file_of rows dir file.id) as (λ r. file_of rows dir file.id ≡ r → onward (named file.name r) (λ part. onward (with_part start part) (λ next. with_files rows dir next files)) ≡ Ok keyring → Added start (file ∷ files) keyring) [
        | Err fault ↦ λ is h. cc
        | Ok part ↦ λ is h. elim (nat_lt 67108864 (length (start.bytes ++ part.bytes))) as (λ t. nat_lt 67108864 (length (start.bytes ++ part.bytes)) ≡ t → onward (cond t (Err fail.TooLarge) (Ok (more start part))) (λ next. with_files rows dir next files) ≡ Ok keyring → Added start (file ∷ files) keyring) [
          | true ↦ λ over k. cc
          | false ↦ λ fits k. one_added start file files part keyring (file_read file part is) (files_read files (more start part) keyring (ltb-false 67108864 (length (start.bytes ++ part.bytes)) fits) k)
        ] refl h
      ] refl e

  abbrev added : Keyring → List KeyPart → Keyring
  added start parts = record { tree = start.tree; bytes = start.bytes ++ all_bytes parts; keys = union start.keys (all_keys parts) }

  files_written : (files : List Entry) (parts : List KeyPart) (start : Keyring) → AreKeyParts rows dir files parts → length (start.bytes ++ all_bytes parts) ≤ 67108864 → with_files rows dir start files ≡ Ok (added start parts)
  files_written [] [] start are small = ap (λ (b : List ℕ). Ok (record { tree = start.tree; bytes = b; keys = start.keys })) (sym (append-nil start.bytes)) ∙ ap (λ (k : Keys). Ok (record { tree = start.tree; bytes = start.bytes ++ []; keys = k })) (sym (union-empty start.keys))
  files_written [] (part ∷ parts) start are small = absurd are
  files_written (file ∷ files) [] start are small = absurd are
  files_written (file ∷ files) (part ∷ parts) start are small =
      let size : length (start.bytes ++ all_bytes (part ∷ parts)) ≡ length (start.bytes ++ part.bytes) + length (all_bytes parts) = ap length (sym (append_assoc start.bytes part.bytes (all_bytes parts))) ∙ length-append (start.bytes ++ part.bytes) (all_bytes parts) in
      ap (λ (r : Result KeyPart FileBad). onward (named file.name r) (λ part. onward (with_part start part) (λ next. with_files rows dir next files))) (file_written file part are.0)
      ∙ ap (λ t. onward (cond t (Err fail.TooLarge) (Ok (more start part))) (λ next. with_files rows dir next files)) (le-ltb 67108864 (length (start.bytes ++ part.bytes)) (omega (arith, size, small)))
      ∙ files_written files parts (more start part) are.1 (omega (arith, ap length (append_assoc start.bytes part.bytes (all_bytes parts)), small))
      ∙ ap (λ (b : List ℕ). Ok (record { tree = start.tree; bytes = b; keys = union (union start.keys part.keys) (all_keys parts) })) (append_assoc start.bytes part.bytes (all_bytes parts))
      ∙ ap (λ (k : Keys). Ok (record { tree = start.tree; bytes = start.bytes ++ all_bytes (part ∷ parts); keys = k })) (union-union start.keys part.keys (all_keys parts))

  -- ---- the keyring

  abbrev started : Object → Keyring
  started root = record { tree = root.id; bytes = []; keys = empty }

  pub keyring_read : (names : List (List ℕ)) (root : Object) (files : List Entry) (keyring : Keyring) → root_of rows dir names ≡ Ok root → AreFiles 20 root.content (codes ".key") files → with_files rows dir (started root) files ≡ Ok keyring → IsKeyring rows dir names keyring
  keyring_read names root files keyring is_root are e =
      let read = files_read files (started root) keyring (omega arith) e in
      record {
        root = root;
        files = files;
        parts = read.parts;
        is_root = root_read names root is_root;
        are_files = are;
        are_parts = read.are_parts;
        small = read.small;
        tree_is = read.tree_is;
        bytes_are = read.bytes_are;
        keys_are = read.keys_are ∙ union-none (all_keys read.parts);
      }

  same_keyring : (keyring : Keyring) (root : Object) (parts : List KeyPart) → keyring.tree ≡ root.id → keyring.bytes ≡ all_bytes parts → keyring.keys ≡ all_keys parts → added (started root) parts ≡ keyring
  same_keyring keyring root parts tree bytes keys =
      ap (λ (k : Keys). record { tree = root.id; bytes = all_bytes parts; keys = k }) (union-none (all_keys parts) ∙ sym keys)
      ∙ ap (λ (b : List ℕ). record { tree = root.id; bytes = b; keys = keyring.keys }) (sym bytes)
      ∙ ap (λ (t : List ℕ). record { tree = t; bytes = keyring.bytes; keys = keyring.keys }) (sym tree)

  pub keyring_written : (names : List (List ℕ)) (keyring : Keyring) → IsKeyring rows dir names keyring → keyring_of rows dir names ≡ Ok keyring
  unfolding keyring_of
  keyring_written names keyring is =
      ap (λ (r : Result Object KeyringFail). onward r (λ root. onward (key_files (files_of root.content (codes ".key"))) (λ files. with_files rows dir (started root) files))) (root_written names is.root is.is_root)
      ∙ ap (λ (f : Result (List Entry) TreeFail). onward (key_files f) (λ files. with_files rows dir (started is.root) files)) (only_files is.root.content (codes ".key") is.files is.are_files)
      ∙ files_written is.files is.parts (started is.root) is.are_parts (omega (arith, ap length is.bytes_are, is.small))
      ∙ ap (λ (k : Keyring). Ok k) (same_keyring keyring is.root is.parts is.tree_is is.bytes_are is.keys_are)

  -- as the code says it
  begun : (root : Object) (bytes : List ℕ) (keys : Keys) → bytes ≡ [] → keys ≡ empty → ◌≡◌ {A = Keyring} (record { tree = root.id; bytes = bytes; keys = keys }) (started root)
  begun root bytes keys none no_key = ap (λ (b : List ℕ). record { tree = root.id; bytes = b; keys = keys }) none ∙ ap (λ (k : Keys). record { tree = root.id; bytes = []; keys = k }) no_key

  pub found_of : (now : List GitRow) (told told_now : Bool) (names asked : List (List ℕ)) (root : Object) (content : List ℕ) (files listed : List Entry) (bytes : List ℕ) (keys : Keys) (result : Result Keyring KeyringFail)
      → now ≡ rows → told_now ≡ told → asked ≡ names → content ≡ root.content → listed ≡ files → bytes ≡ [] → keys ≡ empty
      → (IsTrue told → root_of rows dir asked ≡ Ok root) → AreFiles 20 content (codes ".key") files → (IsTrue told_now → Gives result (with_files now dir (record { tree = root.id; bytes = bytes; keys = keys }) listed))
      → IfOk result (λ keyring. IsTrue told → IsKeyring rows dir names keyring)
  found_of now told told_now names asked root content files listed bytes keys (Ok keyring) table tells same_names same_content same_files none no_key is_root are exact = λ t.
      keyring_read names root files keyring (ap (root_of rows dir) (sym same_names) ∙ is_root t) (subst (λ (l : List ℕ). AreFiles 20 l (codes ".key") files) same_content are)
      (ap (λ (k : Keyring). with_files rows dir k files) (sym (begun root bytes keys none no_key))
      ∙ ap (λ (l : List Entry). with_files rows dir (record { tree = root.id; bytes = bytes; keys = keys }) l) (sym same_files)
      ∙ ap (λ (r : List GitRow). with_files r dir (record { tree = root.id; bytes = bytes; keys = keys }) listed) (sym table)
      ∙ exact (subst (λ (b : Bool). IsTrue b) (sym tells) t))
  found_of now told told_now names asked root content files listed bytes keys (Err fault) table tells same_names same_content same_files none no_key is_root are exact = tt
