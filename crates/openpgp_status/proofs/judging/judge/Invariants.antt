use Rattle.std.proofs.Common.{◌≡◌, ◌+◌, ◌≤◌, length}
use Rattle.byte_cuts.specs.Cuts.{parts_at}
use Rattle.openpgp_status.specs.Judging.{status_lines, status_lines_from}
use Rattle.openpgp_status.specs.Seen.{nothing_seen, with_lines}
use Rattle.openpgp_status.proofs.judging.judge.Given as goal

-- what is seen, with the rest, is what is seen of the whole text
abbrev pub invariant-lines : goal.invariant-lines
invariant-lines l = record {
  all : with_lines l.seen (status_lines_from l.number (parts_at 10 l.text)) ≡ with_lines nothing_seen (status_lines l.fn.status);
  count : l.number + length l.text ≤ length l.fn.status + 1;
}

abbrev pub decreases-lines : goal.decreases-lines
decreases-lines l = length l.text
