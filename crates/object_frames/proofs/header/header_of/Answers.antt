use Rattle.std.proofs.Common.{sym, ap, ◌∙◌, arith, decimal, drop}
use Rattle.object_frames.proofs.HeaderLemmas.{id_part, rest_part, short_line, same_rest}
use Rattle.object_frames.proofs.header.header_of.Goals as goal

pub returns-then-line-lt40-clause-none : goal.returns-then-line-lt40-clause-none
returns-then-line-lt40-clause-none c = λ id kind size is small whole. absurd (omega (arith, short_line c.args.line.now id kind size is whole))

pub returns-in_err-id-clause-none : goal.returns-in_err-id-clause-none
returns-in_err-id-clause-none c = rw c.from_residual.ensures (λ id kind size is small whole.
    c.in_err-id.ensures.none id is (c.split_at.ensures.front ∙ id_part c.args.line.now id kind size is whole))

pub returns-in_err-kind-clause-none : goal.returns-in_err-kind-clause-none
returns-in_err-kind-clause-none c = rw c.from_residual-in_err-kind.ensures (λ id kind size is small whole.
    c.in_err-kind.ensures.none kind (decimal size) (c.split_at.ensures.back ∙ rest_part c.args.line.now id kind size is whole))

pub returns-in_err-size-clause-none : goal.returns-in_err-size-clause-none
returns-in_err-size-clause-none c = rw c.from_residual-in_err-size.ensures (λ id kind size is small whole.
    let rest = c.split_at.ensures.back ∙ rest_part c.args.line.now id kind size is whole in
    let both = sym c.in_ok-kind.ensures.some ∙ rest in
    c.in_err-size.ensures.none size small (same_rest c.in_ok-kind.kind kind c.in_ok-kind.rest.now (decimal size) (ap (drop 1) both)).1)
