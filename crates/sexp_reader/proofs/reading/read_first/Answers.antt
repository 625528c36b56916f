use Rattle.sexp_reader.proofs.FirstLemmas.{first_datum-is_first, first_datum-is_empty, printable-read}
use Rattle.sexp_reader.proofs.reading.read_first.Goals as goal

pub returns-clause-found : goal.returns-clause-found
returns-clause-found c = first_datum-is_first c.args.bytes.now

pub returns-clause-none : goal.returns-clause-none
returns-clause-none c = first_datum-is_empty c.args.bytes.now

pub returns-clause-printable : goal.returns-clause-printable
returns-clause-printable c = printable-read c.first_of.result c.args.bytes.now c.first_of.ensures
