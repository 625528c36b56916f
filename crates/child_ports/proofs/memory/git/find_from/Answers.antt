use Rattle.std.proofs.Common.{bytes_eq, sym, ◌∙◌, ap}
use Rattle.child_ports.proofs.RowLemmas.{row_found}
use Rattle.child_ports.proofs.memory.git.find_from.Goals as goal

pub returns-then-eq-2 : goal.returns-then-eq-2
returns-then-eq-2 c =
    let row = c.index-rows-i.result in
    let same_dir = ap (λ d. bytes_eq d c.args.dir.now) (sym c.as_str.ensures) ∙ sym c.eq.ensures ∙ c.if-eq.true in
    let same_name = ap (λ n. bytes_eq n c.args.name.now) (sym c.as_slice.ensures) ∙ sym c.eq-then-eq.ensures ∙ c.if-eq-2.true in
    (c.loop-i-test.true, row_found c.args.rows.now c.args.dir.now c.args.name.now c.loop-i.i row _ c.loop-i-test.true c.index-rows-i.is same_dir same_name c.loop-i.invariant)
