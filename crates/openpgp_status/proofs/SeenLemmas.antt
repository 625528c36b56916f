-- Status lines, one after another.
use Rattle.std.proofs.Common.{◌≡◌, ◌≢◌, ℕ, ◌+◌, Bool, true, false, cond, ◌||◌, Option, Some, None, List, [], ◌∷◌, ◌++◌, drop, length, refl, sym, ap, ◌∙◌, codes}
use Rattle.std.specs.Prelude.{nat_eq, bytes_eq}
use Rattle.std.specs.List.{starts_with, fold}
use Rattle.std.proofs.lemmas.Bool.{false_from_ne_true}
use Rattle.std.proofs.lemmas.Bool.Decides.{Decides-eqb}
use Rattle.std.proofs.lemmas.List.{drop_at}
use Rattle.std.proofs.lemmas.Slice.Eq.{starts_is}
use Rattle.byte_cuts.specs.Cuts.{parts_at}
use Rattle.child_ports.specs.declared.fingerprint.Fingerprint.{Fingerprint}
use Rattle.openpgp_status.specs.declared.judged.Judged.{Judged}
use Rattle.openpgp_status.specs.declared.judged.Judged.TheVariants.{Several, Nothing}
use Rattle.openpgp_status.specs.declared.seen.Seen.{Seen}
use Rattle.openpgp_status.specs.Fields.{key_and_hash}
use Rattle.openpgp_status.specs.Judging.{StatusLine, mark, line_of, status_lines_from, has, valid_lines, reading_by, reading_of, only_reading, judgement}
use Rattle.openpgp_status.specs.Seen.{nothing_seen, with_reading, with_line, with_lines, judged_by}

-- ---- one line

pub no_status : (line : List ℕ) (number : ℕ) → ((rest : List ℕ) → line ≢ mark ++ rest) → status_lines_from number (line ∷ []) ≡ []
no_status line number none =
    let test : starts_with nat_eq line mark ≡ false = false_from_ne_true _ (λ yes. none (drop (length mark) line) ((starts_is Decides-eqb line mark (starts_with nat_eq line mark) refl).0 yes)) in
    rw test refl

pub one_status : (line text : List ℕ) (number : ℕ) → line ≡ mark ++ text → status_lines_from number (line ∷ []) ≡ line_of number (parts_at 32 text) ∷ []
one_status line text number is =
    let test : starts_with nat_eq line mark ≡ true = (starts_is Decides-eqb line mark (starts_with nat_eq line mark) refl).1 text is in
    let rest : drop (length mark) line ≡ text = ap (drop (length mark)) is ∙ drop_at mark text (length mark) refl in
    rw (test, rest) refl

-- ---- a line and those after it

with_line_first : (seen : Seen) (number : ℕ) (line : List ℕ) (lines : List (List ℕ))
    → with_lines seen (status_lines_from number (line ∷ lines)) ≡ with_lines (with_lines seen (status_lines_from number (line ∷ []))) (status_lines_from (number + 1) lines)
with_line_first seen number line lines =
    let one = line_of number (parts_at 32 (drop (length mark) line)) in
    let rest = status_lines_from (number + 1) lines in
    elim (starts_with nat_eq line mark) as (λ v. with_lines seen (cond v (one ∷ rest) rest) ≡ with_lines (with_lines seen (cond v (one ∷ []) [])) rest) [ true ↦ refl | false ↦ refl ]

-- with the next line seen, the rest gives the same
pub next_line : (seen now all : Seen) (number : ℕ) (line : List ℕ) (lines parts : List (List ℕ))
    → now ≡ with_lines seen (status_lines_from number (line ∷ [])) → parts ≡ line ∷ lines
    → with_lines seen (status_lines_from number parts) ≡ all → with_lines now (status_lines_from (number + 1) lines) ≡ all
next_line seen now all number line lines parts is cut was =
    ap (λ s. with_lines s (status_lines_from (number + 1) lines)) is ∙ sym (with_line_first seen number line lines)
    ∙ ap (λ ps. with_lines seen (status_lines_from number ps)) (sym cut) ∙ was

-- ---- what all lines say

or_assoc : (a b c : Bool) → ((a || b) || c) ≡ (a || (b || c))
or_assoc true b c = refl
or_assoc false b c = refl

flag_of_lines : (flag : Seen → Bool) (keyword : List ℕ) → ((seen : Seen) (line : StatusLine) → flag (with_line seen line) ≡ (flag seen || bytes_eq line.keyword keyword))
    → (seen : Seen) (lines : List StatusLine) → flag (with_lines seen lines) ≡ (flag seen || has keyword lines)
flag_of_lines flag keyword one seen [] = or_false (flag seen)
  where
    or_false : (b : Bool) → b ≡ (b || false)
    or_false true = refl
    or_false false = refl
flag_of_lines flag keyword one seen (line ∷ lines) =
    flag_of_lines flag keyword one (with_line seen line) lines ∙ ap (λ b. b || has keyword lines) (one seen line) ∙ or_assoc (flag seen) (bytes_eq line.keyword keyword) (has keyword lines)

-- what VALIDSIG lines say after others, which said this
abbrev with_readings : Judged → List StatusLine → Judged
with_readings judged lines = fold (λ j line. with_reading j (reading_of line)) judged lines

reading_of_lines : (seen : Seen) (lines : List StatusLine) → (with_lines seen lines).valid ≡ with_readings seen.valid (valid_lines lines)
reading_of_lines seen [] = refl
reading_of_lines seen (line ∷ lines) =
    let rest = valid_lines lines in
    reading_of_lines (with_line seen line) lines
    ∙ (elim (bytes_eq line.keyword (codes "VALIDSIG")) as (λ v. with_readings (cond v (with_reading seen.valid (reading_of line)) seen.valid) rest ≡ with_readings seen.valid (cond v (line ∷ rest) rest)) [ true ↦ refl | false ↦ refl ])

several_stays : (lines : List StatusLine) → with_readings Several lines ≡ Several
several_stays [] = refl
several_stays (line ∷ lines) = several_stays lines

two_are_several : (number : ℕ) (found : Option (Fingerprint × ℕ)) (line : StatusLine) (lines : List StatusLine) → with_readings (reading_by number found) (line ∷ lines) ≡ Several
two_are_several number (Some found) line lines = several_stays lines
two_are_several number None line lines = several_stays lines

only_one : (lines : List StatusLine) → with_readings Nothing lines ≡ only_reading lines
only_one [] = refl
only_one (line ∷ []) = refl
only_one (line ∷ other ∷ lines) = two_are_several line.number (key_and_hash line.fields) other lines

pub judged_of_lines : (lines : List StatusLine) → judged_by (with_lines nothing_seen lines) ≡ judgement lines
judged_of_lines lines =
    let bad = flag_of_lines (λ s. s.bad) (codes "BADSIG") (λ s l. refl) nothing_seen lines in
    let unchecked = flag_of_lines (λ s. s.unchecked) (codes "ERRSIG") (λ s l. refl) nothing_seen lines in
    let no_key = flag_of_lines (λ s. s.no_key) (codes "NO_PUBKEY") (λ s l. refl) nothing_seen lines in
    let no_data = flag_of_lines (λ s. s.no_data) (codes "NODATA") (λ s l. refl) nothing_seen lines in
    let valid = reading_of_lines nothing_seen lines ∙ only_one (valid_lines lines) in
    rw (bad, unchecked, no_key, no_data, valid) refl
