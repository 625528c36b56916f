use Rattle.std.proofs.Common.{◌≡◌, ◌+◌, ◌<◌, length, sym, ap, ◌∙◌, refl, subst, arith}
use Rattle.std.specs.List.{slice_index_or}
use Rattle.std.proofs.lemmas.Result.{err_from_is_err_and}
use Rattle.auth_rules.specs.Consulting.{git_world}
use Rattle.auth_rules.specs.Rules.{parents_of}
use Rattle.auth_rules.specs.World.{commit_at}
use Rattle.commit_history.specs.Walk.{noted}
use Rattle.commit_history.proofs.WalkLemmas.{IsNext, follows_start, follows_next, follows_whole, both_start, both_next, both_held, fewer, keeps_start, keeps_next, keeps_end, walk_fails}
use Rattle.commit_history.proofs.reading.read_members.Goals as goal

pub loop-i-init : goal.loop-i-init
loop-i-init g c = record {
  told = refl;
  table = refl;
  named = refl;
  faults = refl;
  both = both_start c.args.target c.args.intro c.in_ok-walk.walk.met c.in_ok-walk.ensures.ok.1;
  follows = follows_start c.in_ok-walk.walk.graph.held c.in_ok-walk.walk.met c.next_absent-i.result c.in_ok-walk.ensures.ok.0
      (subst (λ ids. IsNext c.in_ok-walk.walk.graph.held ids 0 c.next_absent-i.result) c.as_slice.ensures
      (record { high = c.next_absent-i.ensures.from; low = c.next_absent-i.ensures.within; before = c.next_absent-i.ensures.held; next = c.next_absent-i.ensures.absent }));
  keeps = λ tells. keeps_start (git_world (g.G.GitPort.table c.args.git.now) c.args.dir.now) c.args.target c.args.intro
      c.in_ok-walk.walk.graph.held c.in_ok-walk.walk.met c.in_ok-walk.walk.unread
      c.in_ok-walk.ensures.ok.0 c.in_ok-walk.ensures.ok.1 c.in_ok-walk.ensures.ok.2;
}

pub returns-in_err-take-clause-exact : goal.returns-in_err-take-clause-exact
returns-in_err-take-clause-exact g c = λ tells.
    let p = err_from_is_err_and c.from_residual-in_err-take.result c.from_residual-in_err-take.ensures.1 in
    rw (p.1, p.2) (walk_fails (git_world (g.G.GitPort.table c.args.git.now) c.args.dir.now) c.args.target c.args.intro
    c.loop-i.walk.graph.held c.loop-i.walk.met c.index-as_slice-i.result c.loop-i.walk.unread c.in_err-take.field-0.0
    (c.loop-i.invariant.keeps tells)
    (c.loop-i.i, omega (arith, c.loop-i-test.true, c.len.ensures), sym (c.index-as_slice-i.is ∙ ap (λ ids. slice_index_or ids c.loop-i.i c.index-as_slice-i.result) c.as_slice-in-loop-i.ensures))
    c.in_err-take.ensures.err)

pub loop-i-smaller : goal.loop-i-smaller
loop-i-smaller g c = fewer c.loop-i.walk.graph.held c.loop-i.walk.met c.in_ok-parents.parents c.index-as_slice-i.result c.take.new.walk.graph.held c.in_ok-take.ensures.room c.in_ok-take.ensures.held

pub loop-i-preserved : goal.loop-i-preserved
loop-i-preserved g c =
    let low : c.loop-i.i < length c.loop-i.walk.met = omega (arith, c.loop-i-test.true, c.len.ensures) in
    let at : slice_index_or c.loop-i.walk.met c.loop-i.i c.index-as_slice-i.result ≡ c.index-as_slice-i.result = sym (c.index-as_slice-i.is ∙ ap (λ ids. slice_index_or ids c.loop-i.i c.index-as_slice-i.result) c.as_slice-in-loop-i.ensures) in
    record {
      told = c.in_ok-parents.ensures.told ∙ c.loop-i.invariant.told;
      table = c.in_ok-parents.ensures.table ∙ c.loop-i.invariant.table;
      named = c.in_ok-parents.ensures.named ∙ c.loop-i.invariant.named;
      faults = c.in_ok-parents.ensures.cause ∙ c.loop-i.invariant.faults;
      both = both_next c.args.target c.args.intro c.loop-i.walk.met c.in_ok-parents.parents c.take.new.walk.met c.in_ok-take.ensures.met c.loop-i.invariant.both;
      follows = follows_next c.loop-i.walk.graph.held c.loop-i.walk.met c.in_ok-parents.parents c.index-as_slice-i.result
          c.take.new.walk.graph.held c.take.new.walk.met c.loop-i.i c.next_absent-i-in-loop-i.result c.loop-i.invariant.follows low at
          c.in_ok-take.ensures.room c.in_ok-take.ensures.held c.in_ok-take.ensures.met
          (subst (λ ids. IsNext c.take.new.walk.graph.held ids (c.loop-i.i + 1) c.next_absent-i-in-loop-i.result) c.as_slice-in-loop-i-2.ensures
          (record { high = c.next_absent-i-in-loop-i.ensures.from; low = c.next_absent-i-in-loop-i.ensures.within; before = c.next_absent-i-in-loop-i.ensures.held; next = c.next_absent-i-in-loop-i.ensures.absent }));
      keeps = λ tells.
          let told = c.loop-i.invariant.told ∙ tells in
          let w = git_world (g.G.GitPort.table c.args.git.now) c.args.dir.now in
          keeps_next w c.args.target c.args.intro c.loop-i.walk.graph.held c.loop-i.walk.met c.index-as_slice-i.result c.loop-i.walk.unread
          c.take.new.walk.graph.held c.take.new.walk.met c.in_ok-parents.parents c.take.new.walk.unread
          (c.loop-i.invariant.keeps tells) (c.loop-i.i, low, at)
          (c.in_ok-parents.ensures.parents told ∙ ap (λ rows. parents_of (git_world rows c.args.dir.now) c.index-as_slice-i.result) c.loop-i.invariant.table)
          c.in_ok-take.ensures.held c.in_ok-take.ensures.met
          (c.in_ok-take.ensures.unread ∙ c.in_ok-parents.ensures.noted told
          ∙ ap (λ rows. noted c.loop-i.walk.unread c.index-as_slice-i.result (commit_at rows c.args.dir.now c.index-as_slice-i.result)) c.loop-i.invariant.table);
    }

pub returns-clause-whole : goal.returns-clause-whole
returns-clause-whole g c = follows_whole c.loop-i.walk.graph.held c.loop-i.walk.met c.loop-i.i c.loop-i.invariant.follows (omega (arith, c.loop-i-test.false, c.len.ensures))

pub returns-clause-exact : goal.returns-clause-exact
returns-clause-exact g c = λ tells. keeps_end (git_world (g.G.GitPort.table c.args.git.now) c.args.dir.now) c.args.target c.args.intro
    c.loop-i.walk.graph.held c.loop-i.walk.met c.loop-i.i c.loop-i.walk.unread c.loop-i.invariant.follows (omega (arith, c.loop-i-test.false, c.len.ensures)) (c.loop-i.invariant.keeps tells)

pub returns-clause-both : goal.returns-clause-both
returns-clause-both g c = both_held c.args.target c.args.intro c.loop-i.walk.graph.held c.loop-i.walk.met c.loop-i.i c.loop-i.invariant.follows (omega (arith, c.loop-i-test.false, c.len.ensures)) c.loop-i.invariant.both

pub returns-clause-few : goal.returns-clause-few
returns-clause-few g c = c.loop-i.invariant.follows.few
