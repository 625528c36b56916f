use Rattle.std.proofs.Common.{◌≡◌, ◌≢◌, ℕ, ◌+◌, ◌<◌, rules, Some, [], length, ap, sym, subst, ◌∙◌, arith, vec_len}
use Rattle.commit_graph.specs.declared.level.Level.TheVariants.{Unknown, Entered, Known}
use Rattle.commit_graph.specs.History.{Name, IsParent, IsWhole}
use Rattle.std.specs.List.{slice_index_or}
use Rattle.commit_graph.specs.Node.{held_of}
use Rattle.commit_graph.specs.Walk.{is_in}
use Rattle.commit_graph.specs.Level.{level_at, steps_left}
use Rattle.commit_graph.proofs.SettlingLemmas.{IsDescent, descent_start, descent_enter, descent_settle, descent_give_up, set_there, set_stays, gives_stays, last_is, split_last, in_middle}
use Rattle.commit_graph.proofs.ranking.settle.Goals as goal

not_unknown : Entered ≢ Unknown
not_unknown e = cc

known_not_unknown : (n : ℕ) → Known n ≢ Unknown
known_not_unknown n e = cc

some_not : Some Entered ≢ Some Unknown
some_not e = cc

pub loop-trail-init : goal.loop-trail-init
loop-trail-init c =
    let at : level_at c.args.nodes.now.entries c.args.id ≡ Some Unknown = search rules in
    let start : IsDescent c.args.nodes.now.entries c.args.nodes.now.entries c.args.trail.now.items = subst (IsDescent c.args.nodes.now.entries c.args.nodes.now.entries) (sym c.requires.empty) (descent_start c.args.nodes.now.entries c.requires.levels c.requires.rest) in
    let none : length c.args.trail.now.items ≡ 0 = ap length c.requires.empty in (
      descent_enter c.args.nodes.now.entries c.args.nodes.now.entries c.enter.new.nodes.entries c.args.trail.now.items c.enter.new.trail.items c.args.id start (λ k d last. absurd (omega (arith, none, last))) at c.in_ok-enter.ensures.nodes c.in_ok-enter.ensures.trail,
      λ e. some_not (sym (set_there c.args.nodes.now.entries c.enter.new.nodes.entries c.args.id Entered Unknown c.in_ok-enter.ensures.nodes at) ∙ e),
    )

pub loop-trail-preserved-in-Enter : goal.loop-trail-preserved-in-Enter
loop-trail-preserved-in-Enter c =
    let nodes = c.loop-trail.nodes.entries in
    let trail = c.loop-trail.trail.items in
    let last : (j : ℕ) (e : Name) → j + 1 ≡ length trail → slice_index_or trail j e ≡ c.index-top.result.now = last_is trail c.len-in-loop-trail.result c.index-top.result.now (omega (arith, c.loop-trail.trail.ok.0, c.len-in-loop-trail.ensures)) (omega (arith, c.loop-trail-test.true, c.len.ensures, c.len-in-loop-trail.ensures)) c.index-top.ensures in (
      descent_enter c.args.nodes.now.entries nodes c.enter-in-Enter.new.nodes.entries trail c.enter-in-Enter.new.trail.items c.in-Enter.parent c.loop-trail.invariant.0
          (λ k d at. subst (λ x. IsParent (held_of nodes) x c.in-Enter.parent) (sym (last k d at)) c.in-Enter.ensures.0)
          c.in-Enter.ensures.1 c.in_ok-enter-in-Enter.ensures.nodes c.in_ok-enter-in-Enter.ensures.trail,
      set_stays nodes c.enter-in-Enter.new.nodes.entries c.in-Enter.parent Entered c.in_ok-enter-in-Enter.ensures.nodes not_unknown c.args.id c.loop-trail.invariant.1,
    )

pub loop-trail-smaller-in-Settle : goal.loop-trail-smaller-in-Settle
loop-trail-smaller-in-Settle c =
    let nodes = c.loop-trail.nodes.entries in
    let trail = c.loop-trail.trail.items in
    let some : 0 < c.len-in-loop-trail.result = omega (arith, c.loop-trail-test.true, c.len.ensures, c.len-in-loop-trail.ensures) in
    let split = split_last trail c.pop.new.self.items c.len-in-loop-trail.result (vec_len c.loop-trail.trail) c.index-top.result.now (omega (arith, c.loop-trail.trail.ok.0, c.len-in-loop-trail.ensures)) (sym c.len-in-loop-trail.ensures) some c.index-top.ensures c.pop.ensures.rest in
    let entered : level_at nodes c.index-top.result.now ≡ Some Entered = c.loop-trail.invariant.0.is_trail.listed c.index-top.result.now (ap (λ ids. is_in ids c.index-top.result.now) split ∙ in_middle c.pop.new.self.items c.index-top.result.now []) in
    let count = c.set_level.ensures.count steps_left Entered entered in
    omega (arith, count)

pub loop-trail-preserved-in-Settle : goal.loop-trail-preserved-in-Settle
loop-trail-preserved-in-Settle c =
    let nodes = c.loop-trail.nodes.entries in
    let trail = c.loop-trail.trail.items in
    let some : 0 < c.len-in-loop-trail.result = omega (arith, c.loop-trail-test.true, c.len.ensures, c.len-in-loop-trail.ensures) in
    let split = split_last trail c.pop.new.self.items c.len-in-loop-trail.result (vec_len c.loop-trail.trail) c.index-top.result.now (omega (arith, c.loop-trail.trail.ok.0, c.len-in-loop-trail.ensures)) (sym c.len-in-loop-trail.ensures) some c.index-top.ensures c.pop.ensures.rest in (
      descent_settle c.args.nodes.now.entries nodes c.set_level.new.nodes.entries trail c.pop.new.self.items c.index-top.result.now c.in-Settle.n (subst IsWhole (sym c.loop-trail.invariant.0.held) c.requires.whole) c.loop-trail.invariant.0 split c.in-Settle.ensures c.set_level.ensures,
      set_stays nodes c.set_level.new.nodes.entries c.index-top.result.now (Known c.in-Settle.n) c.set_level.ensures (known_not_unknown c.in-Settle.n) c.args.id c.loop-trail.invariant.1,
    )

pub loop-trail-preserved : goal.loop-trail-preserved
loop-trail-preserved c =
    let nodes = c.loop-trail.nodes.entries in
    let trail = c.loop-trail.trail.items in
    let last : (j : ℕ) (e : Name) → j + 1 ≡ length trail → slice_index_or trail j e ≡ c.index-top.result.now = last_is trail c.len-in-loop-trail.result c.index-top.result.now (omega (arith, c.loop-trail.trail.ok.0, c.len-in-loop-trail.ensures)) (omega (arith, c.loop-trail-test.true, c.len.ensures, c.len-in-loop-trail.ensures)) c.index-top.ensures in (
      subst (IsDescent c.args.nodes.now.entries c.give_up.new.nodes.entries) (sym c.give_up.ensures.empty)
          (descent_give_up c.args.nodes.now.entries nodes c.give_up.new.nodes.entries trail c.index-top.result.now c.in-GiveUp.ensures.0 c.loop-trail.invariant.0 last c.in-GiveUp.ensures.1 c.in-GiveUp.ensures.2 c.give_up.ensures.given),
      gives_stays nodes c.give_up.new.nodes.entries trail c.args.id c.give_up.ensures.given c.loop-trail.invariant.1,
    )
