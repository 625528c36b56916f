use Rattle.std.proofs.Common.{◌≡◌, Some, true, false, Bool, cond, ap, sym, ◌∙◌, is_some, Option, List}
use Rattle.std.specs.Ordering.{is_gt}
use Rattle.commit_graph.specs.History.{Name, name_cmp}
use Rattle.commit_graph.specs.declared.node.Node.{Node}
use Rattle.commit_graph.specs.Level.{node_at, lower, lesser_of}
use Rattle.commit_graph.proofs.node.lesser.Goals as goal

lowered : (nodes : List (Name × Node)) (least : Option Name) (other id : Name) (b : Bool) → is_some (node_at nodes id) ≡ false → least ≡ Some other → is_gt (name_cmp other id) ≡ b → cond b (Some id) (Some other) ≡ lower nodes least id
lowered nodes least other id b gone is gt = sym (ap (λ o. lower nodes o id) is ∙ ap (λ x. cond x (Some other) (lesser_of (Some other) id)) gone ∙ ap (λ x. cond x (Some id) (Some other)) gt)

pub returns-then-is_gt : goal.returns-then-is_gt
returns-then-is_gt c = lowered c.args.nodes.now.entries c.args.least c.in-Some.other c.args.id true (sym c.contains_key.ensures ∙ c.if-contains_key.false) c.in-Some.is (ap is_gt (sym c.cmp.ensures) ∙ sym c.is_gt.ensures ∙ c.if-is_gt.true)

pub returns-else-is_gt : goal.returns-else-is_gt
returns-else-is_gt c = lowered c.args.nodes.now.entries c.args.least c.in-Some.other c.args.id false (sym c.contains_key.ensures ∙ c.if-contains_key.false) c.in-Some.is (ap is_gt (sym c.cmp.ensures) ∙ sym c.is_gt.ensures ∙ c.if-is_gt.false)
