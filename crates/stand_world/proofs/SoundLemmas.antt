-- What a script declares is sound, line by line.
use Rattle.std.proofs.Common.{◌≡◌, ℕ, ◌+◌, Bool, true, false, cond, ◌&&◌, ◌==◌, Option, Some, None, Result, Ok, Err, List, [], ◌∷◌, length, refl, sym, subst, bytes_eq, is_some, not, option_map, codes}
use Rattle.std.specs.List.{AllByRecursion}
use Rattle.byte_cuts.specs.Cuts.{parts_at}
use Rattle.commit_objects.specs.Form.{sha1_form}
use Rattle.commit_objects.specs.Lines.{IsIdOf}
use Rattle.commit_objects.specs.Reading.{lines_of}
use Rattle.commit_objects.proofs.LineLemmas.{all_append, in_form}
use Rattle.stand_world.specs.Key.{key_of}
use Rattle.stand_world.specs.Line.{is_dash, list_in, signer_in, key_statement, meta_statement, commit_line, commit_words, commit_statement, branch_words, branch_statement, behind_word, or_else, two_of, four_of, statement_of}
use Rattle.stand_world.specs.Names.{is_name}
use Rattle.stand_world.specs.Objects.{files_of, commit_of}
use Rattle.stand_world.specs.Script.{commit_named, branch_named, id_named, both, each_of, parents_in, listed_in, signing_key, key_named, put_key, with_meta, commit_in, add_commit, add_branch, branch_at, branch_in, after_statement, after_line, next_line, after_lines, nothing, declared_by}
use Rattle.stand_world.specs.Written.{IsWritten}
use Rattle.stand_world.specs.declared.build_fail.BuildFail.{BuildFail}
use Rattle.stand_world.specs.declared.build_fail.BuildFail.TheVariants as fail
use Rattle.stand_world.specs.declared.commit.Commit.{Commit}
use Rattle.stand_world.specs.declared.declared.Branch.{Branch}
use Rattle.stand_world.specs.declared.declared.Declared.{Declared}
use Rattle.stand_world.specs.declared.framed.Framed.{Framed}
use Rattle.stand_world.specs.declared.key.Key.{Key}
use Rattle.stand_world.specs.declared.line.CommitLine.{CommitLine}
use Rattle.stand_world.specs.declared.line.Signer.{Signer}
use Rattle.stand_world.specs.declared.line.Statement.{Statement}
use Rattle.stand_world.specs.declared.line.Statement.TheVariants as statement
use Rattle.stand_world.proofs.MadeLemmas.{IsObject, object_id_is, files_made, IsMade, commit_made}
use Rattle.stand_world.proofs.ToyLemmas.{step}

-- a branch has a name, and stands at an object
pub record IsBranch (branch : Branch) : Type 0 where
  pub name : is_name branch.name ≡ true
  pub object : Framed
  pub is : IsObject object
  pub frame : branch.frame ≡ object.frame

pub record IsSound (declared : Declared) : Type 0 where
  pub commits : AllByRecursion IsMade declared.commits
  pub branches : AllByRecursion IsBranch declared.branches

-- ---- what a name stands for

named_made : (commits : List Commit) (name : List ℕ) (commit : Commit) → AllByRecursion IsMade commits → commit_named commits name ≡ Some commit → IsMade commit
named_made [] name commit each e = cc
named_made (first ∷ commits) name commit each e =
    elim (bytes_eq first.name name) as (λ v. cond v (Some first) (commit_named commits name) ≡ Some commit → IsMade commit) [
      | true ↦ λ k. let same : first ≡ commit = cc in subst IsMade same each.0
      | false ↦ λ k. named_made commits name commit each.1 k
    ] e

id_found : (found : Option Commit) (id : List ℕ) → ((commit : Commit) → found ≡ Some commit → IsMade commit) → option_map (λ (commit : Commit). commit.object.id) found ≡ Some id → IsIdOf sha1_form id
id_found None id each e = cc
id_found (Some commit) id each e =
    let same : commit.object.id ≡ id = cc in
    subst (IsIdOf sha1_form) same (in_form commit.object.id (object_id_is commit.object (each commit refl).object))

id_named_is : (commits : List Commit) (name id : List ℕ) → AllByRecursion IsMade commits → id_named commits name ≡ Some id → IsIdOf sha1_form id
id_named_is commits name id each e = id_found (commit_named commits name) id (λ commit is. named_made commits name commit each is) e

both_are : (P : List ℕ → Type 0) (first : Option (List ℕ)) (more : Option (List (List ℕ))) (all : List (List ℕ)) → ((x : List ℕ) → first ≡ Some x → P x) → ((xs : List (List ℕ)) → more ≡ Some xs → AllByRecursion P xs)
    → both first more ≡ Some all → AllByRecursion P all
both_are P None more all one rest e = cc
both_are P (Some x) None all one rest e = cc
both_are P (Some x) (Some xs) all one rest e =
    let same : x ∷ xs ≡ all = cc in subst (AllByRecursion P) same (one x refl, rest xs refl)

ids_are : (commits : List Commit) (names ids : List (List ℕ)) → AllByRecursion IsMade commits → each_of (id_named commits) names ≡ Some ids → AllByRecursion (IsIdOf sha1_form) ids
ids_are commits [] ids each e = let same : [] ≡ ids = cc in subst (AllByRecursion (IsIdOf sha1_form)) same tt
ids_are commits (name ∷ names) ids each e =
    both_are (IsIdOf sha1_form) (id_named commits name) (each_of (id_named commits) names) ids (λ id is. id_named_is commits name id each is) (λ more is. ids_are commits names more each is) e

parents_are : (commits : List Commit) (names : Option (List (List ℕ))) (parents : List (List ℕ)) → AllByRecursion IsMade commits → parents_in commits names ≡ Some parents → AllByRecursion (IsIdOf sha1_form) parents
parents_are commits None parents each e = let same : [] ≡ parents = cc in subst (AllByRecursion (IsIdOf sha1_form)) same tt
parents_are commits (Some names) parents each e = ids_are commits names parents each e

-- ---- statements

-- a branch that a line names has a name
abbrev IsNamed : Option Statement → Type 0
IsNamed (Some (statement.Branch branch)) = is_name branch.name ≡ true
IsNamed _ = Unit {0}

if_named : (b : Bool) (said : Option Statement) → IsNamed said → IsNamed (cond b said None)
if_named true said h = h
if_named false said h = tt

key_is_named : (text : List ℕ) → IsNamed (key_statement text)
key_is_named text = if_named (is_name text) (Some (statement.Key (key_of text))) tt

meta_is_named : (text : List ℕ) → IsNamed (meta_statement text)
meta_is_named text = by_size (length text == 0) (is_dash text)
  where
    by_size : (empty dash : Bool) → IsNamed (cond empty None (cond dash (Some (statement.Meta None)) (Some (statement.Meta (Some text)))))
    by_size true dash = tt
    by_size false true = tt
    by_size false false = tt

line_is_named : (name : List ℕ) (parents : Option (Option (List (List ℕ)))) (signer : Option (Option Signer)) (file : Option (Option (List (List ℕ)))) → IsNamed (commit_line name parents signer file)
line_is_named name None signer file = tt
line_is_named name (Some parents) None file = tt
line_is_named name (Some parents) (Some signer) None = tt
line_is_named name (Some parents) (Some signer) (Some file) = if_named (is_name name) _ tt

words_are_named : (words : Option ((List ℕ × List ℕ) × (List ℕ × List ℕ))) → IsNamed (commit_words words)
words_are_named None = tt
words_are_named (Some words) = line_is_named words.0.0 (list_in words.0.1) (signer_in words.1.0) (list_in words.1.1)

branch_is_named : (words : Option (List ℕ × List ℕ)) → IsNamed (branch_words words)
branch_is_named None = tt
branch_is_named (Some words) = elim (is_name words.0) as (λ v. v ≡ is_name words.0 → IsNamed (cond v (Some (statement.Branch (record { name = words.0; commit = words.1 }))) None)) [
  | true ↦ λ e. sym e
  | false ↦ λ e. tt
] refl

else_named : (found : Option (List ℕ)) (form : List ℕ → Option Statement) (other : Option Statement) → ((text : List ℕ) → IsNamed (form text)) → IsNamed other → IsNamed (or_else found form other)
else_named None form other each rest = rest
else_named (Some text) form other each rest = each text

by_size : (empty : Bool) (other : Option Statement) → IsNamed other → IsNamed (cond empty (Some statement.Nothing) other)
by_size true other h = tt
by_size false other h = h

statement_named : (text : List ℕ) → IsNamed (statement_of text)
unfolding statement_of
statement_named text = by_size (length text == 0) _ (
    else_named (behind_word (codes "key ") text) key_statement _ key_is_named (
    else_named (behind_word (codes "meta ") text) meta_statement _ meta_is_named (
    else_named (behind_word (codes "commit ") text) commit_statement _ (λ words. words_are_named (four_of (parts_at 32 words))) (
    else_named (behind_word (codes "branch ") text) branch_statement None (λ words. branch_is_named (two_of (parts_at 32 words))) tt))))

-- ---- one line more

commit_in_made : (before : Declared) (text : CommitLine) (commit : Commit) → IsSound before → commit_in before text ≡ Some commit → IsMade commit
unfolding commit_in
commit_in_made before text commit sound e =
    let parents = step (parents_in before.commits text.parents) _ commit e in
    let signer = step (signing_key before.keys text.signer) _ commit parents.then in
    let listed = step (listed_in before.keys text.file) _ commit signer.then in
    let same : commit_of text.name (files_of listed.value before.meta) parents.value signer.value ≡ commit = cc in
    subst IsMade same (commit_made text.name (files_of listed.value before.meta) parents.value signer.value (files_made listed.value before.meta)
    (parents_are before.commits text.parents parents.value sound.commits parents.is))

added_commit : (before after : Declared) (found : Option Commit) → IsSound before → ((commit : Commit) → found ≡ Some commit → IsMade commit) → option_map (add_commit before) found ≡ Some after → IsSound after
added_commit before after None sound each e = cc
added_commit before after (Some commit) sound each e =
    let same : add_commit before commit ≡ after = cc in
    subst IsSound same (record { commits = all_append IsMade before.commits (commit ∷ []) sound.commits (each commit refl, tt); branches = sound.branches })

added_branch : (before after : Declared) (found : Option Branch) → IsSound before → ((branch : Branch) → found ≡ Some branch → IsBranch branch) → option_map (add_branch before) found ≡ Some after → IsSound after
added_branch before after None sound each e = cc
added_branch before after (Some branch) sound each e =
    let same : add_branch before branch ≡ after = cc in
    subst IsSound same (record { commits = sound.commits; branches = all_append IsBranch before.branches (branch ∷ []) sound.branches (each branch refl, tt) })

branch_found : (name : List ℕ) (found : Option Commit) (branch : Branch) → is_name name ≡ true → ((commit : Commit) → found ≡ Some commit → IsMade commit) → option_map (branch_at name) found ≡ Some branch → IsBranch branch
branch_found name None branch named each e = cc
branch_found name (Some commit) branch named each e =
    let same : branch_at name commit ≡ branch = cc in
    subst IsBranch same (record { name = named; object = commit.object; is = (each commit refl).object; frame = refl })

-- an answer where a test fails
else_some : {A : Type 0} (P : Type 0) (b : Bool) (found : Option A) (answer : A) → (found ≡ Some answer → P) → cond b None found ≡ Some answer → P
else_some P true found answer next e = cc
else_some P false found answer next e = next e

abbrev with_keys : Declared → List Key → Declared
with_keys before keys = record { keys = keys; meta = before.meta; commits = before.commits; branches = before.branches }

keys_sound : (before after : Declared) (keys : List Key) → IsSound before → Some (with_keys before keys) ≡ Some after → IsSound after
keys_sound before after keys sound e =
    let same : with_keys before keys ≡ after = cc in subst IsSound same (record { commits = sound.commits; branches = sound.branches })

statement_sound : (before after : Declared) (said : Statement) → IsNamed (Some said) → IsSound before → after_statement before said ≡ Some after → IsSound after
statement_sound before after statement.Nothing named sound e = let same : before ≡ after = cc in subst IsSound same sound
statement_sound before after (statement.Key key) named sound e =
    else_some (IsSound after) (is_some (key_named before.keys key.name)) (Some (with_keys before (put_key key before.keys))) after (λ k. keys_sound before after (put_key key before.keys) sound k) e
statement_sound before after (statement.Meta text) named sound e =
    let same : with_meta before text ≡ after = cc in subst IsSound same (record { commits = sound.commits; branches = sound.branches })
statement_sound before after (statement.Commit text) named sound e =
    else_some (IsSound after) (is_some (commit_named before.commits text.name)) (option_map (add_commit before) (commit_in before text)) after
    (λ k. added_commit before after (commit_in before text) sound (λ commit is. commit_in_made before text commit sound is) k) e
statement_sound before after (statement.Branch text) named sound e =
    else_some (IsSound after) (is_some (branch_named before.branches text.name)) (option_map (add_branch before) (branch_in before text)) after
    (λ k. added_branch before after (branch_in before text) sound
    (λ branch is. branch_found text.name (commit_named before.commits text.commit) branch named (λ commit found. named_made before.commits text.commit commit sound.commits found) is) k) e

line_sound : (before after : Declared) (text : List ℕ) → IsSound before → after_line before text ≡ Some after → IsSound after
unfolding after_line
line_sound before after text sound e =
    let said = step (statement_of text) (after_statement before) after e in
    statement_sound before after said.value (subst IsNamed said.is (statement_named text)) sound said.then

-- ---- a script

at_end : (before after : Declared) (b : Bool) (fault : Result Declared BuildFail) → (fault ≡ Ok after → ⊥) → IsSound before → cond b (Ok before) fault ≡ Ok after → IsSound after
at_end before after true fault never sound e = let same : before ≡ after = cc in subst IsSound same sound
at_end before after false fault never sound e = absurd (never e)

over_line : (after : Declared) (number : ℕ) (said : Option Declared) (next : Declared → Result Declared BuildFail)
    → ((now : Declared) → said ≡ Some now → next now ≡ Ok after → IsSound after) → next_line number said next ≡ Ok after → IsSound after
over_line after number None next each e = cc
over_line after number (Some now) next each e = each now refl e

lines_sound : (before after : Declared) (number : ℕ) (texts : List (List ℕ)) (left : List ℕ) → IsSound before → after_lines before number texts left ≡ Ok after → IsSound after
lines_sound before after number [] left sound e =
    at_end before after ((length left == 0) && not (length before.commits == 0)) (Err (fail.Line number)) (λ k. cc) sound e
lines_sound before after number (text ∷ texts) left sound e =
    over_line after number (after_line before text) (λ now. after_lines now (number + 1) texts left)
    (λ now is rest. lines_sound now after (number + 1) texts left (line_sound before now text sound is) rest) e

-- what a script declares is sound
pub declared_sound : (script : List ℕ) (declared : Declared) → declared_by script ≡ Ok declared → IsSound declared
declared_sound script declared e = lines_sound nothing declared 1 (lines_of script).whole (lines_of script).left (record { commits = tt; branches = tt }) e

-- each commit reads as it was written
pub commits_written : (commits : List Commit) → AllByRecursion IsMade commits → AllByRecursion IsWritten commits
commits_written [] each = tt
commits_written (commit ∷ commits) each = (each.0.written, commits_written commits each.1)
