-- What a status text says of a signature. The lines and their keywords are those of GnuPG's doc/DETAILS, "Format of
-- the --status-fd output". Which line counts among several is this project's own.
use Rattle.std.specs.Prelude.{ℕ, ◌+◌, Bool, ◌&&◌, ◌||◌, not, if◌then◌else◌, nat_eq, bytes_eq, List, [], ◌∷◌, drop, length, filter, codes, Option, Some, None}
use Rattle.std.specs.List.{list_any, starts_with}
use Rattle.byte_cuts.specs.Cuts.{parts_at}
use Rattle.child_ports.specs.declared.fingerprint.Fingerprint.{Fingerprint}
use Rattle.openpgp_status.specs.Fields.{key_and_hash}
use Rattle.openpgp_status.specs.declared.judged.Judged.{Judged}
use Rattle.openpgp_status.specs.declared.judged.Judged.TheVariants.{Valid, Bad, NoKey, NoData, Several, Nothing, Unreadable}

-- a status line: the number of its line in the whole text, from 1, its keyword and its fields
pub record StatusLine : Type 0 where
  pub number : ℕ
  pub keyword : List ℕ
  pub fields : List (List ℕ)

-- what a status line begins with
abbrev pub mark : List ℕ
mark = codes "[GNUPG:] "

-- the parts of what follows the mark are separated by one space each: the first is the keyword, the others are fields
abbrev pub keyword_of : List (List ℕ) → List ℕ
keyword_of [] = []
keyword_of (keyword ∷ fields) = keyword

abbrev pub line_of : ℕ → List (List ℕ) → StatusLine
line_of number parts = record { number = number; keyword = keyword_of parts; fields = drop 1 parts }

-- the status lines among these lines, of which the first has this number; any other line is passed over
abbrev pub status_lines_from : ℕ → List (List ℕ) → List StatusLine
status_lines_from number [] = []
status_lines_from number (line ∷ lines) =
    if starts_with nat_eq line mark
    then line_of number (parts_at 32 (drop (length mark) line)) ∷ status_lines_from (number + 1) lines
    else status_lines_from (number + 1) lines

-- the status lines of a text. Its lines end at a line feed, and what follows the last one is a line as well.
abbrev pub status_lines : List ℕ → List StatusLine
status_lines text = status_lines_from 1 (parts_at 10 text)

-- a line has this keyword
abbrev pub has : List ℕ → List StatusLine → Bool
has keyword lines = list_any (λ line. bytes_eq line.keyword keyword) lines

-- the lines with the keyword VALIDSIG
abbrev pub valid_lines : List StatusLine → List StatusLine
valid_lines lines = filter (λ line. bytes_eq line.keyword (codes "VALIDSIG")) lines

-- what one VALIDSIG line says, by its number and by what its fields name
abbrev pub reading_by : ℕ → Option (Fingerprint × ℕ) → Judged
reading_by number (Some found) = Valid found.0 found.1
reading_by number None = Unreadable number

abbrev pub reading_of : StatusLine → Judged
reading_of line = reading_by line.number (key_and_hash line.fields)

-- what the VALIDSIG lines say: there has to be one, and one alone
abbrev pub only_reading : List StatusLine → Judged
only_reading [] = Nothing
only_reading (line ∷ []) = reading_of line
only_reading (line ∷ other ∷ lines) = Several

-- what the status lines say: the first of these that applies
abbrev pub judgement : List StatusLine → Judged
judgement lines =
    if has (codes "BADSIG") lines || (has (codes "ERRSIG") lines && not (has (codes "NO_PUBKEY") lines)) then Bad
    else if has (codes "NO_PUBKEY") lines then NoKey
    else if has (codes "NODATA") lines then NoData
    else only_reading (valid_lines lines)

-- what a status text says
abbrev pub judge_of : List ℕ → Judged
judge_of text = judgement (status_lines text)
