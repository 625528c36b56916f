-- The rows of a world can stand for git's answers.
use Rattle.std.proofs.Common.{◌≡◌, ℕ, zero, suc, ◌+◌, ◌-◌, ◌≤◌, Option, Some, None, List, [], ◌∷◌, ◌++◌, length, refl, sym, subst, arith, codes}
use Rattle.std.specs.Prelude.{slice_get}
use Rattle.std.specs.List.{AllByRecursion, flat_map}
use Rattle.hex.specs.Hex.{encode_lower}
use Rattle.child_ports.specs.Framed.{IsFramed, RowFits}
use Rattle.object_frames.specs.declared.kind.Kind.TheVariants as kind
use Rattle.commit_objects.proofs.LineLemmas.{all_append}
use Rattle.stand_world.specs.World.{branch_name, remote_name, commit_name, row, object_row, file_rows, files_rows, commit_rows, head_rows, last_of, three_rows, branch_rows, key_object, key_rows, keyring_tree, tree_rows, keyring_rows, rows_of}
use Rattle.stand_world.specs.declared.commit.Commit.{Commit}
use Rattle.stand_world.specs.declared.declared.Branch.{Branch}
use Rattle.stand_world.specs.declared.declared.Declared.{Declared}
use Rattle.stand_world.specs.declared.files.Files.{Files}
use Rattle.stand_world.specs.declared.framed.Framed.{Framed}
use Rattle.stand_world.specs.declared.key.Key.{Key}
use Rattle.stand_world.proofs.MadeLemmas.{IsObject, object_id_is, IsFile, AreMade, IsMade}
use Rattle.stand_world.proofs.NameLemmas.{IsPlain, plain_word, plain_id, plain_name, plain_commit, plain_branch, plain_remote}
use Rattle.stand_world.proofs.ObjectLemmas.{is_framed}
use Rattle.stand_world.proofs.SoundLemmas.{IsBranch, IsSound}

all_flat : {X Y : Type 0} (P : X → Type 0) (Q : Y → Type 0) (f : X → List Y) (xs : List X) → AllByRecursion P xs → ((x : X) → P x → AllByRecursion Q (f x)) → AllByRecursion Q (flat_map f xs)
all_flat P Q f [] each next = tt
all_flat P Q f (x ∷ xs) each next = all_append Q (f x) (flat_map f xs) (next x each.0) (all_flat P Q f xs each.1 next)

each_flat : {X Y : Type 0} (Q : Y → Type 0) (f : X → List Y) (xs : List X) → ((x : X) → AllByRecursion Q (f x)) → AllByRecursion Q (flat_map f xs)
each_flat Q f [] next = tt
each_flat Q f (x ∷ xs) next = all_append Q (f x) (flat_map f xs) (next x) (each_flat Q f xs next)

all_at : {X : Type 0} (P : X → Type 0) (xs : List X) (i : ℕ) (x : X) → AllByRecursion P xs → slice_get xs i ≡ Some x → P x
all_at P [] i x each e = cc
all_at P (y ∷ xs) zero x each e = let same : y ≡ x = cc in subst P same each.0
all_at P (y ∷ xs) (suc i) x each e = all_at P xs i x each.1 e

-- ---- one row

-- an object's answer under a plain name
row_fits : (dir name : List ℕ) (most : ℕ) (object : Framed) → IsPlain most name → most ≤ 1024 → IsObject object → RowFits (row dir name object.frame)
row_fits dir name most object plain within o =
    let short : length name ≤ most = plain.short in
    record {
      name = record { short = omega arith; one_line = plain.one_line };
      answer = subst (λ (x : Framed). IsFramed name x.frame) (sym o.is) (is_framed o.kind o.content name plain.one_word);
    }

object_fits : (dir : List ℕ) (object : Framed) → IsObject object → RowFits (object_row dir object)
object_fits dir object o = row_fits dir (encode_lower object.id) 40 object (plain_id object.id (object_id_is object o)) (omega arith) o

-- ---- commits

file_fits : (dir : List ℕ) (file : Option Framed) → IsFile file → AllByRecursion RowFits (file_rows dir file)
file_fits dir None is = tt
file_fits dir (Some file) is = (object_fits dir file is, tt)

files_fit : (dir : List ℕ) (files : Files) → AreMade files → AllByRecursion RowFits (files_rows dir files)
files_fit dir files are =
    all_append RowFits (file_rows dir files.authorizations ++ file_rows dir files.channel) (object_row dir files.root ∷ [])
    (all_append RowFits (file_rows dir files.authorizations) (file_rows dir files.channel) (file_fits dir files.authorizations are.authorizations) (file_fits dir files.channel are.channel))
    (object_fits dir files.root are.root, tt)

commit_fits : (dir : List ℕ) (commit : Commit) → IsMade commit → AllByRecursion RowFits (commit_rows dir commit)
commit_fits dir commit is =
    all_append RowFits (files_rows dir commit.files) (object_row dir commit.object ∷ row dir (commit_name (encode_lower commit.object.id)) commit.object.frame ∷ [])
    (files_fit dir commit.files is.files) (
      object_fits dir commit.object is.object,
      (row_fits dir (commit_name (encode_lower commit.object.id)) 49 commit.object (plain_commit 40 (encode_lower commit.object.id) (plain_id commit.object.id (object_id_is commit.object is.object))) (omega arith) is.object, tt),
    )

head_fits : (dir : List ℕ) (found : Option Commit) → ((commit : Commit) → found ≡ Some commit → IsMade commit) → AllByRecursion RowFits (head_rows dir found)
head_fits dir None each = tt
head_fits dir (Some commit) each =
    (row_fits dir (commit_name (codes "HEAD")) 13 commit.object (plain_commit 4 (codes "HEAD") (plain_word (codes "HEAD") refl refl)) (omega arith) (each commit refl).object, tt)

-- ---- branches and the keyring

three_fit : (dir name : List ℕ) (most : ℕ) (object : Framed) → IsPlain most name → most ≤ 900 → IsObject object → AllByRecursion RowFits (three_rows dir name object.frame)
three_fit dir name most object plain within o = (
  row_fits dir name most object plain (omega arith) o,
  (
    row_fits dir (branch_name name) (11 + most) object (plain_branch most name plain) (omega arith) o,
    (row_fits dir (remote_name name) (20 + most) object (plain_remote most name plain) (omega arith) o, tt),
  ),
)

branch_fits : (dir : List ℕ) (branch : Branch) → IsBranch branch → AllByRecursion RowFits (branch_rows dir branch)
branch_fits dir branch is =
    subst (λ frame. AllByRecursion RowFits (three_rows dir (commit_name branch.name) frame)) (sym is.frame)
    (three_fit dir (commit_name branch.name) 25 is.object (plain_commit 16 branch.name (plain_name branch.name is.name)) (omega arith) is.is)

key_fits : (dir : List ℕ) (key : Key) → AllByRecursion RowFits (key_rows dir key)
key_fits dir key = (object_fits dir (key_object key) (record { kind = kind.Blob; content = key.packet; is = refl }), tt)

tree_fits : (dir : List ℕ) (tree : Framed) → IsObject tree → AllByRecursion RowFits (tree_rows dir tree)
tree_fits dir tree is = (object_fits dir tree is, three_fit dir (codes "keyring^{tree}") 14 tree (plain_word (codes "keyring^{tree}") refl refl) (omega arith) is)

tree_made : (keys : List Key) → IsObject (keyring_tree keys)
unfolding keyring_tree
tree_made keys = record { kind = kind.Tree; content = _; is = refl }

keyring_fits : (dir : List ℕ) (keys : List Key) → AllByRecursion RowFits (keyring_rows dir keys)
keyring_fits dir keys =
    all_append RowFits (flat_map (key_rows dir) keys) (tree_rows dir (keyring_tree keys)) (each_flat RowFits (key_rows dir) keys (key_fits dir)) (tree_fits dir (keyring_tree keys) (tree_made keys))

-- ---- all rows

pub rows_fit : (dir : List ℕ) (declared : Declared) → IsSound declared → AllByRecursion RowFits (rows_of dir declared)
rows_fit dir declared sound =
    all_append RowFits (flat_map (commit_rows dir) declared.commits ++ head_rows dir (last_of declared.commits) ++ flat_map (branch_rows dir) declared.branches) (keyring_rows dir declared.keys)
    (all_append RowFits (flat_map (commit_rows dir) declared.commits ++ head_rows dir (last_of declared.commits)) (flat_map (branch_rows dir) declared.branches)
    (all_append RowFits (flat_map (commit_rows dir) declared.commits) (head_rows dir (last_of declared.commits))
    (all_flat IsMade RowFits (commit_rows dir) declared.commits sound.commits (commit_fits dir))
    (head_fits dir (last_of declared.commits) (λ commit is. all_at IsMade declared.commits (length declared.commits - 1) commit sound.commits is)))
    (all_flat IsBranch RowFits (branch_rows dir) declared.branches sound.branches (branch_fits dir)))
    (keyring_fits dir declared.keys)
