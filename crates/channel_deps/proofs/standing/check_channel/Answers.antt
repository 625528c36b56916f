use Rattle.std.proofs.Common.{Option, subst}
use Rattle.channel_file.specs.declared.channel.Introduction.{Introduction}
use Rattle.std.specs.Prelude.{IfOk}
use Rattle.channel_deps.specs.Answers.{OnFinding}
use Rattle.channel_deps.specs.Asked.{AsksChecking}
use Rattle.channel_deps.specs.Over.{IsCheckedOver}
use Rattle.channel_deps.specs.Outside.{outside}
use Rattle.channel_deps.specs.Standings.{IsChecked, HasSoundOrNone}
use Rattle.channel_deps.proofs.standing.check_channel.Goals as goal

pub returns-in-Some-clause-checked : goal.returns-in-Some-clause-checked
returns-in-Some-clause-checked g c = λ git sig keeper.
    let o = outside (g.G.GitPort.table c.args.git.now) (g.V.SigPort.table c.args.sig.now) (g.K.Keeper.kept c.args.keeper.now) in
    subst (λ (i : Option Introduction). HasSoundOrNone o c.args.set.now c.args.channel.now c.args.known.now i → OnFinding c.check_from.result (IsChecked o c.args.set.now c.args.channel.now c.args.known.now i c.check_from.result))
    c.in-Some.ensures (c.check_from.ensures.checked git sig keeper)

pub returns-in-Some-clause-over : goal.returns-in-Some-clause-over
returns-in-Some-clause-over g c = λ git sig keeper.
    let o = outside (g.G.GitPort.table c.args.git.now) (g.V.SigPort.table c.args.sig.now) (g.K.Keeper.kept c.args.keeper.now) in
    subst (λ (i : Option Introduction). IfOk c.check_from.result (IsCheckedOver o c.args.set.now c.args.channel.now c.args.known.now i)) c.in-Some.ensures (c.check_from.ensures.over git sig keeper)

pub returns-in-Some-clause-asked : goal.returns-in-Some-clause-asked
returns-in-Some-clause-asked g c = λ git sig keeper.
    let o = outside (g.G.GitPort.table c.args.git.now) (g.V.SigPort.table c.args.sig.now) (g.K.Keeper.kept c.args.keeper.now) in
    subst (λ (i : Option Introduction). AsksChecking o c.args.set.now c.args.channel.now c.args.known.now i c.check_from.result (g.V.SigPort.asked c.args.sig.now) (g.V.SigPort.asked c.check_from.new.sig))
    c.in-Some.ensures (c.check_from.ensures.asked git sig keeper)
