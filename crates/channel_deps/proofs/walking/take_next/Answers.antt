use Rattle.std.proofs.lemmas.Result.{err_from_is_err_and}
use Rattle.channel_deps.specs.Outside.{outside}
use Rattle.channel_deps.specs.Steps.{IsAt}
use Rattle.channel_deps.proofs.AskedLemmas.{goes_on}
use Rattle.channel_deps.proofs.TakingLemmas.{next_not_taken, up_fit}
use Rattle.channel_deps.proofs.walking.take_next.Goals as goal

pub returns-in_err-taken-clause-next : goal.returns-in_err-taken-clause-next
returns-in_err-taken-clause-next g c =
    let p = err_from_is_err_and c.from_residual.result c.from_residual.ensures.1 in
    rw (p.1, p.2) (λ git sig keeper sound.
    let o = outside (g.G.GitPort.table c.args.git.now) (g.V.SigPort.table c.args.sig.now) (g.K.Keeper.kept c.args.keeper.now) in
    let channel = c.index-as_slice-i.result in
    let at : IsAt c.args.walk.list c.args.i channel = record { within = c.requires.within; here = rw c.as_slice.ensures at c.index-as_slice-i.is } in
    next_not_taken o c.args.set.now c.args.i c.args.walk channel at c.in_err-taken.field-0.0 (c.in_err-taken.ensures.taken git sig keeper (sound channel at)))

pub returns-clause-fit : goal.returns-clause-fit
returns-clause-fit g c = up_fit c.args.walk c.in_ok-taken.taken c.take_up.result c.requires.fit c.in_ok-taken.ensures.fit c.take_up.ensures

pub returns-in_err-taken-clause-goes : goal.returns-in_err-taken-clause-goes
returns-in_err-taken-clause-goes g c =
    let p = err_from_is_err_and c.from_residual.result c.from_residual.ensures.1 in
    rw (p.1, p.2) (λ git sig keeper.
    let channel = c.index-as_slice-i.result in
    let at : IsAt c.args.walk.list c.args.i channel = record { within = c.requires.within; here = rw c.as_slice.ensures at c.index-as_slice-i.is } in
    (channel, at, c.in_err-taken.ensures.asked git sig keeper))

pub returns-clause-goes : goal.returns-clause-goes
returns-clause-goes g c = λ git sig keeper.
    let o = outside (g.G.GitPort.table c.args.git.now) (g.V.SigPort.table c.args.sig.now) (g.K.Keeper.kept c.args.keeper.now) in
    let channel = c.index-as_slice-i.result in
    let at : IsAt c.args.walk.list c.args.i channel = record { within = c.requires.within; here = rw c.as_slice.ensures at c.index-as_slice-i.is } in (
      channel,
      at,
      goes_on o c.args.set.now channel c.args.walk c.in_ok-taken.taken c.take_up.result (g.V.SigPort.asked c.args.sig.now) (g.V.SigPort.asked c.take_channel.new.sig)
          (c.in_ok-taken.ensures.over git sig keeper) (c.in_ok-taken.ensures.asked git sig keeper) c.take_up.ensures,
    )
