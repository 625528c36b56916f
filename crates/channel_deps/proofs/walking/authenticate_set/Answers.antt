use Rattle.std.proofs.Common.{◌∙◌, ◌≤◌, inl, inr, length, Ok, Err, refl, sym, subst, arith}
use Rattle.std.specs.Prelude.{All, IsTrue}
use Rattle.std.proofs.lemmas.Result.{err_from_is_err_and}
use Rattle.channel_file.specs.Limits.{IsFit}
use Rattle.channel_file.specs.declared.channel.Channel.{Channel}
use Rattle.channel_deps.specs.declared.walking.Walk.{Walk}
use Rattle.channel_deps.specs.Answers.{OnFinding}
use Rattle.channel_deps.specs.Asked.{GoesNext}
use Rattle.channel_deps.specs.Outcome.{HasSoundRecord}
use Rattle.channel_deps.specs.Outside.{Outside, outside}
use Rattle.channel_deps.specs.Steps.{IsAt, TakesNext}
use Rattle.channel_deps.proofs.AskedLemmas.{none_gone, gone_more, gone_stops, all_gone}
use Rattle.channel_deps.proofs.WalkLemmas.{none_walked, next_comes, next_walked, next_refused, same_outside}
use Rattle.channel_deps.proofs.walking.authenticate_set.Goals as goal

pub loop-i-init : goal.loop-i-init
loop-i-init g c = record {
  git_told = refl;
  git_table = refl;
  git_faults = refl;
  sig_told = refl;
  sig_table = refl;
  unasked = λ _. refl;
  sig_faults = refl;
  keeper_told = refl;
  kept = refl;
  stores = refl;
  keep_faults = refl;
  few = subst (λ (w : Walk). length w.list ≤ 256) (sym c.in-Ok.ensures) c.requires.fits.channels.count;
  fit = subst (λ (w : Walk). All IsFit w.list) (sym c.in-Ok.ensures) c.requires.fits.channels.each;
  walked = λ git sig keeper sound.
      none_walked (outside (g.G.GitPort.table c.args.git.now) (g.V.SigPort.table c.args.sig.now) (g.K.Keeper.kept c.args.keeper.now)) c.args.set.now c.in-Ok.walk c.in-Ok.ensures c.requires.fits.channels.count;
  gone = λ git sig keeper. none_gone (outside (g.G.GitPort.table c.args.git.now) (g.V.SigPort.table c.args.sig.now) (g.K.Keeper.kept c.args.keeper.now)) c.args.set.now c.in-Ok.walk (g.V.SigPort.asked c.args.sig.now) c.in-Ok.ensures c.requires.fits.channels.count;
}

pub loop-i-preserved : goal.loop-i-preserved
loop-i-preserved g c =
    let inv = c.loop-i.invariant in
    record {
      git_told = c.take_next.ensures.git_told ∙ inv.git_told;
      git_table = c.take_next.ensures.git_table ∙ inv.git_table;
      git_faults = c.in_ok-walk.ensures.git_fault ∙ inv.git_faults;
      sig_told = c.take_next.ensures.sig_told ∙ inv.sig_told;
      sig_table = c.take_next.ensures.sig_table ∙ inv.sig_table;
      unasked = λ off. c.take_next.ensures.unasked off ∙ inv.unasked off;
      sig_faults = c.in_ok-walk.ensures.sig_fault ∙ inv.sig_faults;
      keeper_told = c.take_next.ensures.keeper_told ∙ inv.keeper_told;
      kept = c.take_next.ensures.kept ∙ inv.kept;
      stores = c.take_next.ensures.stores ∙ inv.stores;
      keep_faults = c.in_ok-walk.ensures.keep_fault ∙ inv.keep_faults;
      few = c.in_ok-walk.ensures.few;
      fit = c.in_ok-walk.ensures.fit;
      walked = λ git sig keeper sound.
          let o = outside (g.G.GitPort.table c.args.git.now) (g.V.SigPort.table c.args.sig.now) (g.K.Keeper.kept c.args.keeper.now) in
          let walked = inv.walked git sig keeper sound in
          let next = subst (λ (found : Outside). ((channel : Channel) → IsAt c.loop-i.walk.list c.loop-i.i channel → HasSoundRecord found c.args.set.now channel) → OnFinding {T = Walk} (Ok c.in_ok-walk.walk) (TakesNext found c.args.set.now c.loop-i.i c.loop-i.walk (Ok c.in_ok-walk.walk)))
          (same_outside _ _ _ _ _ _ inv.git_table inv.sig_table inv.kept)
          (c.in_ok-walk.ensures.next (subst IsTrue (sym inv.git_told) git) (subst IsTrue (sym inv.sig_told) sig) (subst IsTrue (sym inv.keeper_told) keeper)) in
          next_walked o c.args.set.now c.loop-i.i c.loop-i.walk c.in_ok-walk.walk walked (next (λ channel at. sound channel (next_comes o c.args.set.now c.loop-i.i c.loop-i.walk channel walked at)));
      gone = λ git sig keeper.
          let o = outside (g.G.GitPort.table c.args.git.now) (g.V.SigPort.table c.args.sig.now) (g.K.Keeper.kept c.args.keeper.now) in
          let next = subst (λ (found : Outside). GoesNext found c.args.set.now c.loop-i.i c.loop-i.walk (Ok c.in_ok-walk.walk) (g.V.SigPort.asked c.loop-i.sig) (g.V.SigPort.asked c.take_next.new.sig))
          (same_outside _ _ _ _ _ _ inv.git_table inv.sig_table inv.kept)
          (c.in_ok-walk.ensures.goes (subst IsTrue (sym inv.git_told) git) (subst IsTrue (sym inv.sig_told) sig) (subst IsTrue (sym inv.keeper_told) keeper)) in
          gone_more o c.args.set.now c.loop-i.i c.loop-i.walk c.in_ok-walk.walk (g.V.SigPort.asked c.args.sig.now) (g.V.SigPort.asked c.loop-i.sig) (g.V.SigPort.asked c.take_next.new.sig) (inv.gone git sig keeper) next;
    }

pub returns-in_err-walk-clause-outcome : goal.returns-in_err-walk-clause-outcome
returns-in_err-walk-clause-outcome g c =
    let p = err_from_is_err_and c.from_residual.result c.from_residual.ensures.1 in
    let fail = c.in_err-walk.field-0.0 in
    rw (p.1, p.2) (λ git sig keeper sound.
    let inv = c.loop-i.invariant in
    let o = outside (g.G.GitPort.table c.args.git.now) (g.V.SigPort.table c.args.sig.now) (g.K.Keeper.kept c.args.keeper.now) in
    let walked = inv.walked git sig keeper sound in
    let next = subst (λ (found : Outside). ((channel : Channel) → IsAt c.loop-i.walk.list c.loop-i.i channel → HasSoundRecord found c.args.set.now channel) → OnFinding {T = Walk} (Err fail) (TakesNext found c.args.set.now c.loop-i.i c.loop-i.walk (Err fail)))
    (same_outside _ _ _ _ _ _ inv.git_table inv.sig_table inv.kept)
    (c.in_err-walk.ensures.next (subst IsTrue (sym inv.git_told) git) (subst IsTrue (sym inv.sig_told) sig) (subst IsTrue (sym inv.keeper_told) keeper)) in
    next_refused o c.args.set.now c.loop-i.i c.loop-i.walk fail walked (next (λ channel at. sound channel (next_comes o c.args.set.now c.loop-i.i c.loop-i.walk channel walked at))))

pub returns-in_err-walk-clause-asked : goal.returns-in_err-walk-clause-asked
returns-in_err-walk-clause-asked g c =
    let p = err_from_is_err_and c.from_residual.result c.from_residual.ensures.1 in
    let fail = c.in_err-walk.field-0.0 in
    rw (p.1, p.2) (λ git sig keeper.
    let inv = c.loop-i.invariant in
    let o = outside (g.G.GitPort.table c.args.git.now) (g.V.SigPort.table c.args.sig.now) (g.K.Keeper.kept c.args.keeper.now) in
    let next = subst (λ (found : Outside). GoesNext found c.args.set.now c.loop-i.i c.loop-i.walk (Err fail) (g.V.SigPort.asked c.loop-i.sig) (g.V.SigPort.asked c.take_next.new.sig))
    (same_outside _ _ _ _ _ _ inv.git_table inv.sig_table inv.kept)
    (c.in_err-walk.ensures.goes (subst IsTrue (sym inv.git_told) git) (subst IsTrue (sym inv.sig_told) sig) (subst IsTrue (sym inv.keeper_told) keeper)) in
    inr (gone_stops o c.args.set.now c.loop-i.i c.loop-i.walk fail (g.V.SigPort.asked c.args.sig.now) (g.V.SigPort.asked c.loop-i.sig) (g.V.SigPort.asked c.take_next.new.sig) (inv.gone git sig keeper) next))

pub returns-in_default-clause-asked : goal.returns-in_default-clause-asked
returns-in_default-clause-asked g c = λ git sig keeper. inl (refl, refl)

pub returns-clause-asked : goal.returns-clause-asked
returns-clause-asked g c = λ git sig keeper.
    all_gone (outside (g.G.GitPort.table c.args.git.now) (g.V.SigPort.table c.args.sig.now) (g.K.Keeper.kept c.args.keeper.now)) c.args.set.now c.loop-i.i c.loop-i.walk
    (record { members = c.loop-i.walk.members; store = c.loop-i.walk.store }) (g.V.SigPort.asked c.args.sig.now) (g.V.SigPort.asked c.loop-i.sig) (c.loop-i.invariant.gone git sig keeper)
    (omega (arith, c.loop-i-test.false, c.len.ensures)) refl refl
