use Rattle.std.proofs.Common.{◌+◌, ◌*◌, length, map}
use denote.Text.{Utf8}
use denote.Shadow.{shadow}
use Rattle.sexp_reader.specs.Tree.{tree}
use Rattle.sexp_reader.proofs.DescentLemmas.{Listing}
use Rattle.sexp_reader.proofs.reading.+descent.Given as goal

abbrev pub decreases-data : goal.decreases-data
decreases-data l = 3 * length l.text.now + 2

abbrev pub decreases-datum : goal.decreases-datum
decreases-datum l = 3 * length l.text.now

abbrev pub decreases-lone : goal.decreases-lone
decreases-lone l = 3 * length l.text.now + 1

abbrev pub invariant-data-loop-first : goal.invariant-data-loop-first
invariant-data-loop-first l = record {
  utf8 : shadow (Utf8 l.rest);
  listing : Listing l.level l.text (map tree l.items) l.rest;
}

abbrev pub decreases-data-loop-first : goal.decreases-data-loop-first
decreases-data-loop-first l = length l.rest
