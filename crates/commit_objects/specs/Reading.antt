-- The reading of a content, cut into its lines: the commit, or the first place that doesn't fit.
use Rattle.std.specs.Prelude.{◌≡◌, ◌==◌, ◌&&◌, ◌||◌, ℕ, Bool, true, false, if◌then◌else◌, nat_eq, Option, Some, None, Result, Ok, Err, List, [], ◌∷◌, ◌++◌, length, drop, codes, ok_or, option_map, bytes_eq}
use Rattle.std.specs.List.{flat_map, starts_with}
use Rattle.hex.specs.Hex.{encode_lower, decode_of}
use Rattle.hex.specs.declared.error.FromHexError.{FromHexError}
use Rattle.commit_objects.specs.declared.commit.Commit.{Commit}
use Rattle.commit_objects.specs.declared.commit.CommitFail.{CommitFail}
use Rattle.commit_objects.specs.declared.commit.CommitFail.TheVariants.{NoTree, Line, NoAuthor, NoCommitter, TwoSignatures, ForeignSignature, NoBody, Memory}
use Rattle.commit_objects.specs.Form.{Form, sha1_form}
use Rattle.commit_objects.specs.Lines.{line, tree_line, parent_line, author_line, committer_line, Header, is_signature, is_foreign}
use Rattle.commit_objects.specs.Commit.{Parts, signature_of, payload_of}

-- the lines of a text: those that a line feed ends, and what stands behind the last line feed
pub record Lines : Type 0 where
  pub whole : List (List ℕ)
  pub left : List ℕ

-- a byte before these lines, in the first of them
abbrev pub put_byte : ℕ → List (List ℕ) → List ℕ → Lines
put_byte b [] left = record { whole = []; left = b ∷ left }
put_byte b (l ∷ ls) left = record { whole = (b ∷ l) ∷ ls; left = left }

abbrev pub lines_of : List ℕ → Lines
lines_of [] = record { whole = []; left = [] }
lines_of (b ∷ bytes) = if b == 10
    then record { whole = [] ∷ (lines_of bytes).whole; left = (lines_of bytes).left }
    else put_byte b (lines_of bytes).whole (lines_of bytes).left

-- whether the first line begins with this word, also where nothing ends it
abbrev pub first_text : List (List ℕ) → List ℕ → List ℕ
first_text [] left = left
first_text (l ∷ ls) left = l

abbrev pub begins : List ℕ → Lines → Bool
begins word lines = starts_with nat_eq (first_text lines.whole lines.left) word

-- what stands behind the word in a line
abbrev pub text_in : List ℕ → List ℕ → Option (List ℕ)
text_in word l = if starts_with nat_eq l word then Some (drop (length word) l) else None

-- the id that these are the lower-case digits of
abbrev pub checked_id : Form → List ℕ → Result (List ℕ) FromHexError → Option (List ℕ)
checked_id form digits (Ok id) = if (length id == form.id_size) && bytes_eq digits (encode_lower id) then Some id else None
checked_id form digits (Err e) = None

abbrev pub id_of : Form → List ℕ → Option (List ℕ)
id_of form digits = checked_id form digits (decode_of digits)

-- the id behind the word in a line
abbrev pub id_in : Form → List ℕ → List ℕ → Option (List ℕ)
id_in form word l = if starts_with nat_eq l word then id_of form (drop (length word) l) else None

-- what is found in the first whole line, and the lines behind it
abbrev pub in_first : (List ℕ → Option (List ℕ)) → List (List ℕ) → List ℕ → Option (List ℕ × Lines)
in_first find [] left = None
in_first find (l ∷ ls) left = option_map (λ value. (value, record { whole = ls; left = left })) (find l)

-- the parents that the first lines name, and the lines behind them
abbrev pub with_parent : Option (List ℕ) → List (List ℕ) × Lines → Lines → List (List ℕ) × Lines
with_parent (Some parent) behind here = (parent ∷ behind.0, behind.1)
with_parent None behind here = ([], here)

abbrev pub parents_on : Form → List (List ℕ) → List ℕ → List (List ℕ) × Lines
parents_on form [] left = ([], record { whole = []; left = left })
parents_on form (l ∷ ls) left = with_parent (id_in form (codes "parent ") l) (parents_on form ls left) (record { whole = l ∷ ls; left = left })

-- the lines behind the committer's: continuation lines that follow no header, without their space; the headers; and
-- the lines of the message, if there is the empty line before it
pub record Body : Type 0 where
  pub loose : List (List ℕ)
  pub headers : List Header
  pub message : Option (List (List ℕ))

-- a line before them that isn't empty: a continuation line, or a header's first line
abbrev pub add_line : ℕ → List ℕ → Body → Body
add_line b text body = if b == 32
    then record { loose = text ∷ body.loose; headers = body.headers; message = body.message }
    else record { loose = []; headers = record { first = b ∷ text; more = body.loose } ∷ body.headers; message = body.message }

abbrev pub body_of : List (List ℕ) → Body
body_of [] = record { loose = []; headers = []; message = None }
body_of ([] ∷ ls) = record { loose = []; headers = []; message = Some ls }
body_of ((b ∷ text) ∷ ls) = add_line b text (body_of ls)

-- the first fault among headers, behind a signature or not
abbrev pub header_fault : Form → Bool → List Header → Option CommitFail
header_fault form signed [] = None
header_fault form signed (h ∷ hs) = if is_foreign form h then Some ForeignSignature
    else (if is_signature form h && signed then Some TwoSignatures
    else header_fault form (is_signature form h || signed) hs)

-- the answer is this, unless there is that fault
abbrev pub unless : Option CommitFail → Result (List ℕ) CommitFail → Result (List ℕ) CommitFail
unless (Some fault) answer = Err fault
unless None answer = answer

-- the message behind the headers; a line that nothing ends counts as a header's before its want of an end does
abbrev pub message_of : Form → List Header → Option (List (List ℕ)) → List ℕ → Result (List ℕ) CommitFail
message_of form headers (Some ls) left = unless (header_fault form false headers) (Ok (flat_map line ls ++ left))
message_of form headers None left = unless (header_fault form false (headers ++ record { first = left; more = [] } ∷ [])) (Err NoBody)

-- nothing, or the fault of a line
abbrev pub no_line : Bool → List ℕ → Result (List ℕ) CommitFail
no_line true front = Err (Line (length front))
no_line false front = Ok front

-- what was read goes to the next step, a fault ends the reading
infixl 10 ◌>>=◌
abbrev pub ◌>>=◌ : {A B : Type 0} → Result A CommitFail → (A → Result B CommitFail) → Result B CommitFail
Ok x >>= next = next x
Err fault >>= next = Err fault

-- the parts of a content, line by line
unfoldable pub parts_in : Form → List ℕ → Result Parts CommitFail
parts_in form content = do
  tree ← ok_or (in_first (id_in form (codes "tree ")) (lines_of content).whole (lines_of content).left) NoTree
  parents ← Ok (parents_on form tree.1.whole tree.1.left)
  front ← no_line (begins (codes "parent ") parents.1) (tree_line tree.0 ++ flat_map parent_line parents.0)
  author ← ok_or (in_first (text_in (codes "author ")) parents.1.whole parents.1.left) NoAuthor
  committer ← ok_or (in_first (text_in (codes "committer ")) author.1.whole author.1.left) NoCommitter
  before ← no_line (begins (codes " ") committer.1) (front ++ author_line author.0 ++ committer_line committer.0)
  message ← message_of form (body_of committer.1.whole).headers (body_of committer.1.whole).message committer.1.left
  Ok (record { tree = tree.0; parents = parents.0; author = author.0; committer = committer.0; headers = (body_of committer.1.whole).headers; message = message })

-- the commit of these parts
abbrev pub commit_from : Form → Parts → Commit
commit_from form p = record { tree = p.tree; parents = p.parents; signature = signature_of form p.headers; payload = payload_of form p }

-- the commit of a content, or the first fault
unfoldable pub commit_in : Form → List ℕ → Result Commit CommitFail
commit_in form content = do
  parts ← parts_in form content
  Ok (commit_from form parts)

-- the same in the sha1 format
abbrev pub commit_of : List ℕ → Result Commit CommitFail
commit_of content = commit_in sha1_form content

-- What a call answered is this, unless memory ran out.
abbrev pub Gives : Result Commit CommitFail → Result Commit CommitFail → Type 0
Gives (Ok commit) reading = reading ≡ Ok commit
Gives (Err Memory) reading = Unit {0}
Gives (Err fault) reading = reading ≡ Err fault
