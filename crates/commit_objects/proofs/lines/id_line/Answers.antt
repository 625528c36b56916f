use Rattle.std.proofs.Common.{sym, ◌∙◌, arith}
use Rattle.commit_objects.proofs.LineLemmas.{id_cut, id_line_is, of_form, in_form}
use Rattle.commit_objects.proofs.lines.id_line.Goals as goal

pub returns-in_err-digits-clause-none : goal.returns-in_err-digits-clause-none
returns-in_err-digits-clause-none c = rw c.from_residual-in_err-digits.ensures (λ id rest is whole.
    let cut = id_cut c.args.text.now c.args.word.now c.in_ok-after.field-0.now id rest c.in_ok-after.ensures is whole in
    absurd (omega (arith, cut.long, c.in_err-digits.ensures.cases)))

pub returns-in_err-id-clause-none : goal.returns-in_err-id-clause-none
returns-in_err-id-clause-none c = rw c.from_residual-in_err-id.ensures (λ id rest is whole.
    let cut = id_cut c.args.text.now c.args.word.now c.in_ok-after.field-0.now id rest c.in_ok-after.ensures is whole in
    c.in_err-id.ensures.none id (of_form id is) (c.in_ok-digits.ensures.cases.1 ∙ cut.front))

pub returns-in_err-rest-clause-none : goal.returns-in_err-rest-clause-none
returns-in_err-rest-clause-none c = rw c.from_residual-in_err-rest.ensures (λ id rest is whole.
    let cut = id_cut c.args.text.now c.args.word.now c.in_ok-after.field-0.now id rest c.in_ok-after.ensures is whole in
    c.in_err-rest.ensures rest (c.in_ok-digits.ensures.cases.2 ∙ cut.back))

pub returns-clause-some : goal.returns-clause-some
returns-clause-some c = (
  in_form c.in_ok-id.id c.in_ok-id.ensures.some.0,
  id_line_is c.args.text.now c.args.word.now c.in_ok-after.field-0.now c.in_ok-id.id c.in_ok-rest.rest.now c.in_ok-after.ensures
      (sym c.in_ok-digits.ensures.cases.1 ∙ c.in_ok-id.ensures.some.1) (sym c.in_ok-digits.ensures.cases.2 ∙ c.in_ok-rest.ensures),
)
