-- What is seen of status lines, one after another.
use Rattle.std.specs.Prelude.{false, ◌&&◌, ◌||◌, not, if◌then◌else◌, bytes_eq, List, codes}
use Rattle.std.specs.List.{fold}
use Rattle.openpgp_status.specs.Judging.{StatusLine, reading_of}
use Rattle.openpgp_status.specs.declared.judged.Judged.{Judged}
use Rattle.openpgp_status.specs.declared.judged.Judged.TheVariants.{Bad, NoKey, NoData, Several, Nothing}
use Rattle.openpgp_status.specs.declared.seen.Seen.{Seen}

-- before any line
abbrev pub nothing_seen : Seen
nothing_seen = record { bad = false; unchecked = false; no_key = false; no_data = false; valid = Nothing }

-- what VALIDSIG lines say with one more, which says this
abbrev pub with_reading : Judged → Judged → Judged
with_reading Nothing reading = reading
with_reading _ reading = Several

-- what VALIDSIG lines say with one more line, of any keyword
abbrev pub valid_with : Judged → StatusLine → Judged
valid_with judged line = if bytes_eq line.keyword (codes "VALIDSIG") then with_reading judged (reading_of line) else judged

-- what is seen with one more line
abbrev pub with_line : Seen → StatusLine → Seen
with_line seen line = record {
  bad = seen.bad || bytes_eq line.keyword (codes "BADSIG");
  unchecked = seen.unchecked || bytes_eq line.keyword (codes "ERRSIG");
  no_key = seen.no_key || bytes_eq line.keyword (codes "NO_PUBKEY");
  no_data = seen.no_data || bytes_eq line.keyword (codes "NODATA");
  valid = valid_with seen.valid line;
}

-- what is seen with more lines
abbrev pub with_lines : Seen → List StatusLine → Seen
with_lines seen lines = fold with_line seen lines

-- what is judged of what is seen
abbrev pub judged_by : Seen → Judged
judged_by seen =
    if seen.bad || (seen.unchecked && not seen.no_key) then Bad
    else if seen.no_key then NoKey
    else if seen.no_data then NoData
    else seen.valid
