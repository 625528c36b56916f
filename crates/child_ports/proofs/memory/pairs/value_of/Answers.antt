use Rattle.std.proofs.Common.{◌≡◌, ◌+◌, Bool, cond, drop, sym, ap, ◌∙◌, arith, bytes_eq, Some}
use Rattle.std.specs.FinMap as map
use Rattle.std.specs.FinMap.{get-empty}
use Rattle.std.specs.Ordering.{nat_cmp}
use Rattle.std.specs.Cmp.Lexicographic.{slice_cmp}
use Rattle.std.proofs.lemmas.List.{drop_all}
use Rattle.child_ports.specs.Keeper.{first_pairs}
use Rattle.child_ports.proofs.PairLemmas.{pair_at}
use Rattle.child_ports.proofs.memory.pairs.value_of.Goals as goal

pub returns-then-eq : goal.returns-then-eq
returns-then-eq c =
    let pairs = c.args.pairs.now in
    let key = c.args.key.now in
    let pair = c.pair-item.result in
    let i = c.loop-pair.pair-index in
    let step = pair_at pairs key i pair c.loop-pair-test.true c.pair-item.is in
    let test : bytes_eq key pair.key ≡ _ = ap (bytes_eq key) (sym c.as_str.ensures) ∙ sym c.eq.ensures ∙ c.if-eq.true in
    sym c.loop-pair.invariant ∙ step ∙ ap (λ (b : Bool). cond b (Some pair.value) (map.get (first_pairs (drop (i + 1) pairs)) key)) test ∙ ap (λ v. Some v) (sym c.as_slice.ensures)

pub loop-pair-preserved : goal.loop-pair-preserved
loop-pair-preserved c =
    let pairs = c.args.pairs.now in
    let key = c.args.key.now in
    let pair = c.pair-item.result in
    let i = c.loop-pair.pair-index in
    let step = pair_at pairs key i pair c.loop-pair-test.true c.pair-item.is in
    let test : bytes_eq key pair.key ≡ _ = ap (bytes_eq key) (sym c.as_str.ensures) ∙ sym c.eq.ensures ∙ c.if-eq.false in
    sym (step ∙ ap (λ (b : Bool). cond b (Some pair.value) (map.get (first_pairs (drop (i + 1) pairs)) key)) test) ∙ c.loop-pair.invariant

pub returns : goal.returns
returns c = sym c.loop-pair.invariant ∙ ap (λ l. map.get (first_pairs l) c.args.key.now) (drop_all c.loop-pair.pair-index c.args.pairs.now (omega arith)) ∙ get-empty (slice_cmp nat_cmp) c.args.key.now
