use Rattle.std.proofs.Common.{[], Ok, Err, ap, sym, ◌∙◌}
use Rattle.sexp_reader.specs.declared.fail.SexpFail.TheVariants as fail
use Rattle.sexp_reader.specs.Descent.{Stops}
use Rattle.sexp_reader.specs.Grammar.{StandsFirst}
use Rattle.sexp_reader.specs.Tree.{tree}
use Rattle.sexp_reader.proofs.FirstLemmas.{first_datum-not_utf8, first_datum-first, first_datum-nothing, first_datum-fault, lone-stops, lone-stands, lone-nothing}
use Rattle.sexp_reader.proofs.reading.first_of.Goals as goal
use Rattle.sexp_reader.proofs.reading.first_of.Goals.{In-Err-Fault, In-Ok-Some}

stops : (c : In-Err-Fault) → Stops [] c.args.bytes.now c.in-Err-Fault.cause c.in-Err-Fault.left
stops c = lone-stops c.args.bytes.now c.in-Ok.text.now c.lone.result c.in-Err-Fault.cause c.in-Err-Fault.left c.in-Ok.ensures.cases.0 c.lone.ensures (c.in-Err-Fault.is ∙ ap Err c.in-Err-Fault.field-0-is)

stands : (c : In-Ok-Some) → StandsFirst c.args.bytes.now (tree c.in-Ok-Some.datum) c.in-Ok-Some.field-0-0-1.now
stands c = lone-stands c.args.bytes.now c.in-Ok.text.now c.lone.result c.in-Ok-Some.datum c.in-Ok-Some.field-0-0-1 c.in-Ok.ensures.cases.0 c.lone.ensures (c.in-Ok-Some.is ∙ ap Ok c.in-Ok-Some.field-0-is)

pub returns-in-Err : goal.returns-in-Err
returns-in-Err c = λ other. first_datum-not_utf8 c.args.bytes.now c.in-Err.ensures.cases.0 ∙ ap (λ n. Err (fail.NotUtf8 n)) (sym (c.valid_up_to.ensures ∙ c.in-Err.ensures.valid_len))

pub overflow_sub-bytes : goal.overflow_sub-bytes
overflow_sub-bytes c = (stops c).3

pub returns-in-Ok-None : goal.returns-in-Ok-None
returns-in-Ok-None c = first_datum-nothing c.args.bytes.now c.in-Ok.ensures.cases.1 (lone-nothing c.args.bytes.now c.in-Ok.text.now c.lone.result c.in-Ok.ensures.cases.0 c.lone.ensures (c.in-Ok-None.is ∙ ap Ok c.in-Ok-None.field-0-is))

pub returns-in-Ok-Some : goal.returns-in-Ok-Some
returns-in-Ok-Some c = first_datum-first c.args.bytes.now c.in-Ok-Some.field-0-0-1.now (tree c.in-Ok-Some.datum) c.in-Ok.ensures.cases.1 (stands c)

pub returns-in-Err-Fault : goal.returns-in-Err-Fault
returns-in-Err-Fault c =
    rw c.at.ensures (λ other. first_datum-fault c.args.bytes.now c.in-Err-Fault.cause c.in-Err-Fault.left c.in-Ok.ensures.cases.1 (stops (goal.at.returns-in-Err-Fault c).In-Err-Fault))
