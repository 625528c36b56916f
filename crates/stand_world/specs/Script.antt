-- What the lines of a script declare, one after another.
use Rattle.std.specs.Prelude.{◌==◌, ◌&&◌, ℕ, ◌+◌, Bool, not, is_some, if◌then◌else◌, Option, Some, None, Result, Ok, Err, List, [], ◌∷◌, ◌++◌, length, bytes_eq, option_map}
use Rattle.std.specs.Cmp.Lexicographic.{slice_cmp}
use Rattle.std.specs.Ordering.{nat_cmp, is_lt}
use Rattle.commit_objects.specs.Reading.{lines_of}
use Rattle.stand_world.specs.Line.{statement_of}
use Rattle.stand_world.specs.Objects.{files_of, commit_of}
use Rattle.stand_world.specs.Toy.{◌>>=◌}
use Rattle.stand_world.specs.declared.build_fail.BuildFail.{BuildFail}
use Rattle.stand_world.specs.declared.build_fail.BuildFail.TheVariants as fail
use Rattle.stand_world.specs.declared.commit.Commit.{Commit}
use Rattle.stand_world.specs.declared.commit.SigningKey.{SigningKey}
use Rattle.stand_world.specs.declared.declared.Branch.{Branch}
use Rattle.stand_world.specs.declared.declared.Declared.{Declared}
use Rattle.stand_world.specs.declared.files.Listed.{Listed}
use Rattle.stand_world.specs.declared.key.Key.{Key}
use Rattle.stand_world.specs.declared.line.BranchLine.{BranchLine}
use Rattle.stand_world.specs.declared.line.CommitLine.{CommitLine}
use Rattle.stand_world.specs.declared.line.Signer.{Signer}
use Rattle.stand_world.specs.declared.line.Statement.{Statement}
use Rattle.stand_world.specs.declared.line.Statement.TheVariants as statement

-- ---- what was declared under a name

abbrev pub key_named : List Key → List ℕ → Option Key
key_named [] name = None
key_named (key ∷ keys) name = if bytes_eq key.name name then Some key else key_named keys name

abbrev pub commit_named : List Commit → List ℕ → Option Commit
commit_named [] name = None
commit_named (commit ∷ commits) name = if bytes_eq commit.name name then Some commit else commit_named commits name

abbrev pub branch_named : List Branch → List ℕ → Option Branch
branch_named [] name = None
branch_named (branch ∷ branches) name = if bytes_eq branch.name name then Some branch else branch_named branches name

abbrev pub id_named : List Commit → List ℕ → Option (List ℕ)
id_named commits name = option_map (λ (commit : Commit). commit.object.id) (commit_named commits name)

abbrev pub listed_named : List Key → List ℕ → Option Listed
listed_named keys name = option_map (λ (key : Key). record { name = name; print = key.print }) (key_named keys name)

-- what each of the names stands for, if each stands for something
abbrev pub both : {X : Type 0} → Option X → Option (List X) → Option (List X)
both None more = None
both (Some x) None = None
both (Some x) (Some more) = Some (x ∷ more)

abbrev pub each_of : {X : Type 0} → (List ℕ → Option X) → List (List ℕ) → Option (List X)
each_of found [] = Some []
each_of found (name ∷ names) = both (found name) (each_of found names)

-- the same of a list that may be absent: then there are no parents, or no file
abbrev pub parents_in : List Commit → Option (List (List ℕ)) → Option (List (List ℕ))
parents_in commits None = Some []
parents_in commits (Some names) = each_of (id_named commits) names

abbrev pub listed_in : List Key → Option (List (List ℕ)) → Option (Option (List Listed))
listed_in keys None = Some None
listed_in keys (Some names) = option_map (λ listed. Some listed) (each_of (listed_named keys) names)

-- the key that signs, or none
abbrev pub signing_key : List Key → Option Signer → Option (Option SigningKey)
signing_key keys None = Some None
signing_key keys (Some signer) = option_map (λ (key : Key). Some (record { print = key.print; hash = signer.hash })) (key_named keys signer.key)

-- ---- one line more

-- whether the name of a key's file comes before that of another's, by bytes
abbrev pub precedes : Key → Key → Bool
precedes key other = is_lt (slice_cmp nat_cmp key.file other.file)

-- keys, ascending by the names of their files, with one more
abbrev pub put_key : Key → List Key → List Key
put_key key [] = key ∷ []
put_key key (other ∷ keys) = if precedes key other then key ∷ other ∷ keys else other ∷ put_key key keys

abbrev pub with_key : Declared → Key → Option Declared
with_key before key =
    if is_some (key_named before.keys key.name) then None
    else Some (record { keys = put_key key before.keys; meta = before.meta; commits = before.commits; branches = before.branches })

abbrev pub with_meta : Declared → Option (List ℕ) → Declared
with_meta before text = record { keys = before.keys; meta = text; commits = before.commits; branches = before.branches }

-- the commit of a line, if all that it names was declared before
unfoldable pub commit_in : Declared → CommitLine → Option Commit
commit_in before text = do
  parents ← parents_in before.commits text.parents
  signer ← signing_key before.keys text.signer
  listed ← listed_in before.keys text.file
  Some (commit_of text.name (files_of listed before.meta) parents signer)

abbrev pub add_commit : Declared → Commit → Declared
add_commit before commit = record { keys = before.keys; meta = before.meta; commits = before.commits ++ commit ∷ []; branches = before.branches }

abbrev pub with_commit : Declared → CommitLine → Option Declared
with_commit before text = if is_some (commit_named before.commits text.name) then None else option_map (add_commit before) (commit_in before text)

abbrev pub add_branch : Declared → Branch → Declared
add_branch before branch = record { keys = before.keys; meta = before.meta; commits = before.commits; branches = before.branches ++ branch ∷ [] }

abbrev pub branch_at : List ℕ → Commit → Branch
branch_at name commit = record { name = name; frame = commit.object.frame }

abbrev pub branch_in : Declared → BranchLine → Option Branch
branch_in before text = option_map (branch_at text.name) (commit_named before.commits text.commit)

abbrev pub with_branch : Declared → BranchLine → Option Declared
with_branch before text =
    if is_some (branch_named before.branches text.name) then None
    else option_map (add_branch before) (branch_in before text)

-- what is declared after a statement; none where it declares a name again, or names what isn't declared
abbrev pub after_statement : Declared → Statement → Option Declared
after_statement before statement.Nothing = Some before
after_statement before (statement.Key key) = with_key before key
after_statement before (statement.Meta text) = Some (with_meta before text)
after_statement before (statement.Commit text) = with_commit before text
after_statement before (statement.Branch text) = with_branch before text

unfoldable pub after_line : Declared → List ℕ → Option Declared
after_line before text = statement_of text >>= after_statement before

-- ---- a script

-- what follows a line, or that the line of this number is at fault
abbrev pub next_line : ℕ → Option Declared → (Declared → Result Declared BuildFail) → Result Declared BuildFail
next_line number None next = Err (fail.Line number)
next_line number (Some after) next = next after

-- The end of a script: no line may be left without its line feed, and a commit has to be there. Else the fault is that of
-- the line of this number, which would be the next.
abbrev pub ended : ℕ → List ℕ → Declared → Result Declared BuildFail
ended number left before = if (length left == 0) && not (length before.commits == 0) then Ok before else Err (fail.Line number)

-- what is declared after these lines and what no line feed ends, of which the first has this number
abbrev pub after_lines : Declared → ℕ → List (List ℕ) → List ℕ → Result Declared BuildFail
after_lines before number [] left = ended number left before
after_lines before number (text ∷ texts) left = next_line number (after_line before text) (λ after. after_lines after (number + 1) texts left)

abbrev pub nothing : Declared
nothing = record { keys = []; meta = None; commits = []; branches = [] }

-- what a script declares, or its first line at fault
abbrev pub declared_by : List ℕ → Result Declared BuildFail
declared_by script = after_lines nothing 1 (lines_of script).whole (lines_of script).left
