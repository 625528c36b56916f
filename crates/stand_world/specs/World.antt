-- The world of a script, and the rows that git and gpgv answer in it.
use Rattle.std.specs.Prelude.{◌≡◌, ℕ, ◌-◌, Option, Some, None, Result, Ok, Err, List, [], ◌∷◌, ◌++◌, length, codes, option_map, slice_get}
use Rattle.std.specs.List.{flat_map}
use Rattle.hex.specs.Hex.{encode_lower}
use Rattle.child_ports.specs.declared.fingerprint.Fingerprint.{Fingerprint}
use Rattle.child_ports.specs.declared.git.GitRow.{GitRow}
use Rattle.child_ports.specs.declared.sig.SigRow.{SigRow}
use Rattle.object_frames.specs.declared.kind.Kind.TheVariants as kind
use Rattle.tree_entries.specs.Tree.{entry_bytes}
use Rattle.stand_world.specs.Objects.{framed, file_entry}
use Rattle.stand_world.specs.Script.{declared_by, commit_named, key_named}
use Rattle.stand_world.specs.Toy.{status_of}
use Rattle.stand_world.specs.declared.build_fail.BuildFail.{BuildFail}
use Rattle.stand_world.specs.declared.build_fail.BuildFail.TheVariants.{Line, Memory}
use Rattle.stand_world.specs.declared.commit.Commit.{Commit}
use Rattle.stand_world.specs.declared.commit.Signed.{Signed}
use Rattle.stand_world.specs.declared.declared.Branch.{Branch}
use Rattle.stand_world.specs.declared.declared.Declared.{Declared}
use Rattle.stand_world.specs.declared.files.Files.{Files}
use Rattle.stand_world.specs.declared.framed.Framed.{Framed}
use Rattle.stand_world.specs.declared.key.Key.{Key}
use Rattle.stand_world.specs.declared.world.World.{World}

-- ---- the world

abbrev pub world_with : List ℕ → Result Declared BuildFail → Result World BuildFail
world_with dir (Ok declared) = Ok (record { dir = dir; declared = declared })
world_with dir (Err fault) = Err fault

-- the world of a script in a directory, or the first line at fault
abbrev pub world_of : List ℕ → List ℕ → Result World BuildFail
world_of script dir = world_with dir (declared_by script)

-- What a call answered is this, unless memory is wanting.
abbrev pub Gives : {A : Type 0} → Result A BuildFail → Result A BuildFail → Type 0
Gives (Ok answer) reading = reading ≡ Ok answer
Gives (Err (Line number)) reading = reading ≡ Err (Line number)
Gives (Err Memory) reading = Unit {0}

-- the id of the commit of this name, and the fingerprint of the key of this name
abbrev pub id_of : World → List ℕ → Option (List ℕ)
id_of world name = option_map (λ (commit : Commit). commit.object.id) (commit_named world.declared.commits name)

abbrev pub print_of : World → List ℕ → Option Fingerprint
print_of world name = option_map (λ (key : Key). key.print) (key_named world.declared.keys name)

-- ---- git

-- names of branches in full, and of commits (gitrevisions(7))
unfoldable pub branch_name : List ℕ → List ℕ
branch_name name = codes "refs/heads/" ++ name

unfoldable pub remote_name : List ℕ → List ℕ
remote_name name = codes "refs/remotes/origin/" ++ name

unfoldable pub commit_name : List ℕ → List ℕ
commit_name name = name ++ codes "^{commit}"

abbrev pub row : List ℕ → List ℕ → List ℕ → GitRow
row dir name frame = record { dir = dir; name = name; answer = frame }

-- an object under its id
abbrev pub object_row : List ℕ → Framed → GitRow
object_row dir object = row dir (encode_lower object.id) object.frame

abbrev pub file_rows : List ℕ → Option Framed → List GitRow
file_rows dir None = []
file_rows dir (Some file) = object_row dir file ∷ []

-- a commit's files and root tree
abbrev pub files_rows : List ℕ → Files → List GitRow
files_rows dir files = file_rows dir files.authorizations ++ file_rows dir files.channel ++ object_row dir files.root ∷ []

-- the objects of a commit, and the commit under `ID^{commit}` too
abbrev pub commit_rows : List ℕ → Commit → List GitRow
commit_rows dir commit = files_rows dir commit.files ++ object_row dir commit.object ∷ row dir (commit_name (encode_lower commit.object.id)) commit.object.frame ∷ []

-- the last commit is HEAD
abbrev pub head_rows : List ℕ → Option Commit → List GitRow
head_rows dir None = []
head_rows dir (Some commit) = row dir (commit_name (codes "HEAD")) commit.object.frame ∷ []

abbrev pub last_of : List Commit → Option Commit
last_of commits = slice_get commits (length commits - 1)

-- what stands under a name, that of its branch, and that of its branch at the remote
abbrev pub three_rows : List ℕ → List ℕ → List ℕ → List GitRow
three_rows dir name frame = row dir name frame ∷ row dir (branch_name name) frame ∷ row dir (remote_name name) frame ∷ []

abbrev pub branch_rows : List ℕ → Branch → List GitRow
branch_rows dir branch = three_rows dir (commit_name branch.name) branch.frame

-- the file of a key
abbrev pub key_object : Key → Framed
key_object key = framed kind.Blob key.packet

abbrev pub key_rows : List ℕ → Key → List GitRow
key_rows dir key = object_row dir (key_object key) ∷ []

abbrev pub key_entry : Key → List ℕ
key_entry key = entry_bytes (file_entry key.file (key_object key).id)

-- the tree of these files, which are ascending by their names
unfoldable pub keyring_tree : List Key → Framed
keyring_tree keys = framed kind.Tree (flat_map key_entry keys)

abbrev pub tree_rows : List ℕ → Framed → List GitRow
tree_rows dir tree = object_row dir tree ∷ three_rows dir (codes "keyring^{tree}") tree.frame

abbrev pub keyring_rows : List ℕ → List Key → List GitRow
keyring_rows dir keys = flat_map (key_rows dir) keys ++ tree_rows dir (keyring_tree keys)

-- git's answers: the commits and their objects, HEAD, the branches and the keyring
abbrev pub rows_of : List ℕ → Declared → List GitRow
rows_of dir declared =
    flat_map (commit_rows dir) declared.commits
    ++ head_rows dir (last_of declared.commits)
    ++ flat_map (branch_rows dir) declared.branches
    ++ keyring_rows dir declared.keys

abbrev pub git_rows : World → List GitRow
git_rows world = rows_of world.dir world.declared

-- ---- gpgv

-- the files of the keys, joined in the tree's order
abbrev pub keyring_of : List Key → List ℕ
keyring_of keys = flat_map (λ (key : Key). key.packet) keys

abbrev pub sig_row : List ℕ → Signed → SigRow
sig_row keyring signed = record { keyring = keyring; signature = signed.signature; payload = signed.payload; answer = status_of keyring signed.signature signed.payload }

abbrev pub signed_rows : List ℕ → Option Signed → List SigRow
signed_rows keyring None = []
signed_rows keyring (Some signed) = sig_row keyring signed ∷ []

abbrev pub signature_rows : List ℕ → Commit → List SigRow
signature_rows keyring commit = signed_rows keyring commit.signed

-- gpgv's verdicts: what each signature is worth under the script's keyring
abbrev pub sig_rows : World → List SigRow
sig_rows world = flat_map (signature_rows (keyring_of world.declared.keys)) world.declared.commits
