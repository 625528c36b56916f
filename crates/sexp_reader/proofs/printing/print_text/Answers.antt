use Rattle.std.proofs.Common.{◌∷◌, ◌++◌, ap, sym, ◌∙◌}
use Rattle.sexp_reader.proofs.PrintedLemmas.{printed-end, printed-step}
use Rattle.sexp_reader.proofs.printing.print_text.Goals as goal

pub loop-first-preserved : goal.loop-first-preserved
loop-first-preserved c = record {
  utf8 = c.past_first-rest.utf8;
  same = printed-step c.args.out.now c.loop-first.out c.push-in-loop-first.new.self c.push-in-loop-first-2.new.self c.loop-first.rest.now c.cut_literal.result.0.now c.cut_literal.result.1.now c.past_first-rest.result.now c.args.text.now c.in-Some.first
      c.loop-first.invariant.same c.cut_literal.ensures (c.in-Some.ensures ∙ ap (λ r. c.in-Some.first ∷ r) (sym c.past_first-rest.ensures)) c.in_ok-push-2.ensures.ok (c.in_ok-push-4.ensures.ok ∙ ap (λ w. c.push-in-loop-first.new.self ++ w) c.escape_of.ensures);
}

pub returns-in_default : goal.returns-in_default
returns-in_default c =
    printed-end c.args.out.now c.loop-first.out c.push-in-loop-first.new.self c.push-in_default.new.self c.loop-first.rest.now c.cut_literal.result.0.now c.cut_literal.result.1.now c.args.text.now
    c.loop-first.invariant.same c.cut_literal.ensures c.in_default.ensures c.in_ok-push-2.ensures.ok c.in_ok-push-3.ensures.ok
