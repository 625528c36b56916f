use Rattle.std.proofs.Common.{◌≡◌, ℕ, ap, sym, subst, ◌∙◌, true, Some, None, Option, is_some}
use Rattle.std.specs.Option.{option_map}
use Rattle.std.specs.FinMap as map
use Rattle.commit_graph.specs.declared.node.Node.{Node}
use Rattle.commit_graph.specs.declared.level.Level.{Level}
use Rattle.commit_graph.specs.declared.level.Level.TheVariants.{Known}
use Rattle.commit_graph.specs.Chains.{IsGeneration}
use Rattle.commit_graph.specs.History.{IsParent}
use Rattle.commit_graph.specs.Level.{node_at, level_at, level_of}
use Rattle.commit_graph.proofs.HeldLemmas.{is_some-held}
use Rattle.commit_graph.proofs.graph.Graph.generation.Goals as goal

level_held : (o : Option Node) (l : Level) → option_map level_of o ≡ Some l → is_some o ≡ true
level_held None l e = cc
level_held (Some n) l e = ap is_some (sym e)

same_known : (n m : ℕ) → Some (Known n) ≡ Some (Known m) → m ≡ n
same_known n m e = cc

pub returns-in-Some-Known : goal.returns-in-Some-Known
returns-in-Some-Known c =
    let nodes = c.self.inside.nodes.entries in
    let at : level_at nodes c.args.id ≡ Some (Known c.in-Some-Known.n) = sym c.in-Some-Known.ensures ∙ ap Some c.in-Some-Known.field-0-is in
    let holds = is_some-held nodes c.args.id ∙ level_held (node_at nodes c.args.id) (Known c.in-Some-Known.n) at in
    let known = (c.self.invariant.ranks c.if-not-self.false).known c.args.id holds in record {
      generation = (
        sym (ap (λ h. h.ranked) c.self.view_is) ∙ c.if-not-self.false,
        ap (λ h. map.contains_key h.held c.args.id) (sym c.self.view_is) ∙ holds,
        subst (λ h. IsGeneration (IsParent h.held) c.args.id c.in-Some-Known.n) c.self.view_is (subst (IsGeneration (IsParent _) c.args.id) (same_known c.in-Some-Known.n known.0 (sym at ∙ known.1)) known.2),
      );
    }
