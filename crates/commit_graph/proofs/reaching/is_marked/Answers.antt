use Rattle.std.proofs.Common.{◌≡◌, sym, ap, ◌∙◌, arith, rules, false, nat_lt}
use Rattle.std.specs.Ordering.{is_eq}
use Rattle.commit_graph.proofs.PlaceLemmas.{marked_absent, marked_past, marked_here}
use Rattle.commit_graph.proofs.reaching.is_marked.Goals as goal

pub returns-then-node-len : goal.returns-then-node-len
returns-then-node-len c =
    c.is_eq.ensures ∙ ap is_eq c.cmp.ensures
    ∙ marked_here c.args.nodes.now.entries c.args.work.now.items c.args.id c.index.result.now c.in-Some.node.now c.requires (sym c.in-Some.ensures.value) (omega (arith, c.args.work.now.ok.0, c.len.ensures, c.if-node-len.true)) c.index.ensures

pub returns-else-node-len : goal.returns-else-node-len
returns-else-node-len c =
    let test : nat_lt c.in-Some.node.now.place c.len.result ≡ false = search rules in
    test ∙ marked_past c.args.nodes.now.entries c.args.work.now.items c.args.id c.in-Some.node.now c.requires (sym c.in-Some.ensures.value) (omega (arith, c.args.work.now.ok.0, c.len.ensures, c.if-node-len.false))

pub returns-in-None : goal.returns-in-None
returns-in-None c = marked_absent c.args.nodes.now.entries c.args.work.now.items c.args.id c.requires (sym c.in-None.ensures.value)
