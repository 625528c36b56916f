use Rattle.std.proofs.Common.{sym, ◌∙◌, ap}
use Rattle.std.proofs.lemmas.Iterator.{YieldsList-from_slice}
use Rattle.std.proofs.lemmas.Iterator.Search.{position_from_yields_List}
use Rattle.std.proofs.Common.{rules, tests, eqb}
use Rattle.byte_cuts.specs.Cuts.{parts_at}
use Rattle.byte_cuts.proofs.CutLemmas.{parts_none, parts_cut, cut_there, lacks_it}
use Rattle.byte_cuts.proofs.cut_at.Goals as goal

pub returns-in_err-at-clause-cut : goal.returns-in_err-at-clause-cut
returns-in_err-at-clause-cut c =
    let is = position_from_yields_List (λ b. eqb b c.args.end) _ _ c.position.result c.position.ensures.ran (YieldsList-from_slice c.args.bytes.now cc) (λ x b q k. search (rules, tests)) in
    rw c.from_residual.ensures (lacks_it c.args.end c.args.bytes.now (sym is ∙ c.in_err-at.was))

pub returns-in_err-at-clause-parts : goal.returns-in_err-at-clause-parts
returns-in_err-at-clause-parts c =
    let is = position_from_yields_List (λ b. eqb b c.args.end) _ _ c.position.result c.position.ensures.ran (YieldsList-from_slice c.args.bytes.now cc) (λ x b q k. search (rules, tests)) in
    rw c.from_residual.ensures (parts_none c.args.end c.args.bytes.now (lacks_it c.args.end c.args.bytes.now (sym is ∙ c.in_err-at.was)))

pub returns-clause-cut : goal.returns-clause-cut
returns-clause-cut c =
    let is = position_from_yields_List (λ b. eqb b c.args.end) _ _ c.position.result c.position.ensures.ran (YieldsList-from_slice c.args.bytes.now cc) (λ x b q k. search (rules, tests)) in
    cut_there c.args.end c.args.bytes.now c.in_ok-at.at (sym is ∙ c.in_ok-at.was)

pub returns-clause-parts : goal.returns-clause-parts
returns-clause-parts c =
    let is = position_from_yields_List (λ b. eqb b c.args.end) _ _ c.position.result c.position.ensures.ran (YieldsList-from_slice c.args.bytes.now cc) (λ x b q k. search (rules, tests)) in
    let cut = cut_there c.args.end c.args.bytes.now c.in_ok-at.at (sym is ∙ c.in_ok-at.was) in
    ap (parts_at c.args.end) cut.1 ∙ parts_cut c.args.end _ _ cut.0
