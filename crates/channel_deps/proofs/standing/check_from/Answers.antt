use Rattle.std.proofs.Common.{inl, inr, Bool, Ok, Err, refl, subst}
use Rattle.std.specs.FinMap as map
use Rattle.child_ports.specs.Causes.{RoseWhen}
use Rattle.auth_engine.specs.Answers as engine
use Rattle.auth_engine.specs.Asked.{Asks}
use Rattle.auth_engine.specs.Outcome.{IsOutcome, IsVerdictOver}
use Rattle.auth_engine.specs.SoundCache.{IsSoundOrNone}
use Rattle.auth_engine.specs.declared.task.Task.{Task}
use Rattle.auth_engine.specs.declared.task.Verdict.{Verdict}
use Rattle.channel_deps.specs.declared.known.Checked.{Checked}
use Rattle.channel_deps.specs.Outside.{outside}
use Rattle.channel_deps.specs.Places.{task_of}
use Rattle.channel_deps.proofs.AnswerLemmas.{told_faults}
use Rattle.channel_deps.proofs.AskedLemmas.{accepted_asks, checked_over}
use Rattle.channel_deps.proofs.TakingLemmas.{accepted, refused}
use Rattle.channel_deps.proofs.standing.check_from.Goals as goal

pub returns-clause-git_fault : goal.returns-clause-git_fault
returns-clause-git_fault g c =
    let same = told_faults {A = Verdict} {B = Checked} c.args.channel.now c.in-Err.fail c.channel_fail.result c.channel_fail.ensures.told in
    subst (λ (b : Bool). RoseWhen b (g.G.GitPort.faults c.args.git.now) (g.G.GitPort.faults c.authenticate.new.git)) same.git c.in-Err.ensures.git_fault

pub returns-clause-sig_fault : goal.returns-clause-sig_fault
returns-clause-sig_fault g c =
    let same = told_faults {A = Verdict} {B = Checked} c.args.channel.now c.in-Err.fail c.channel_fail.result c.channel_fail.ensures.told in
    subst (λ (b : Bool). RoseWhen b (g.V.SigPort.faults c.args.sig.now) (g.V.SigPort.faults c.authenticate.new.sig)) same.sig c.in-Err.ensures.sig_fault

pub returns-clause-keep_fault : goal.returns-clause-keep_fault
returns-clause-keep_fault g c =
    let same = told_faults {A = Verdict} {B = Checked} c.args.channel.now c.in-Err.fail c.channel_fail.result c.channel_fail.ensures.told in
    subst (λ (b : Bool). RoseWhen b (g.K.Keeper.faults c.args.keeper.now) (g.K.Keeper.faults c.authenticate.new.keeper)) same.keep c.in-Err.ensures.keep_fault

pub returns-in-Ok-authenticate-clause-checked : goal.returns-in-Ok-authenticate-clause-checked
returns-in-Ok-authenticate-clause-checked g c = λ git sig keeper sound.
    let o = outside (g.G.GitPort.table c.args.git.now) (g.V.SigPort.table c.args.sig.now) (g.K.Keeper.kept c.args.keeper.now) in
    let task = task_of c.args.set.now.clones c.args.channel.now c.args.introduction c.args.known.now.metadata.keyring_reference c.args.known.now.target in
    let outcome = rw c.in-Ok.ensures.task at (c.in-Ok-authenticate.ensures.outcome git sig keeper) in
    rw c.standing_of.ensures (accepted o task c.args.channel.now c.in-Ok-authenticate.verdict (outcome sound))

pub returns-clause-checked : goal.returns-clause-checked
returns-clause-checked g c = λ git sig keeper sound.
    let o = outside (g.G.GitPort.table c.args.git.now) (g.V.SigPort.table c.args.sig.now) (g.K.Keeper.kept c.args.keeper.now) in
    let task = task_of c.args.set.now.clones c.args.channel.now c.args.introduction c.args.known.now.metadata.keyring_reference c.args.known.now.target in
    let outcome = subst (λ (t : Task). IsSoundOrNone o.answers o.verdicts t (map.get o.kept t.cache_key) → engine.OnFinding {T = Verdict} (Err c.in-Err.fail) (IsOutcome o.answers o.verdicts t (map.get o.kept t.cache_key) (Err c.in-Err.fail)))
    c.in-Ok.ensures.task (c.in-Err.ensures.outcome git sig keeper) in
    refused o task c.args.channel.now c.in-Err.fail c.channel_fail.result c.channel_fail.ensures.told (outcome sound)

pub returns-in_default-clause-asked : goal.returns-in_default-clause-asked
returns-in_default-clause-asked g c = λ git sig keeper. inl refl

pub returns-in-Ok-authenticate-clause-over : goal.returns-in-Ok-authenticate-clause-over
returns-in-Ok-authenticate-clause-over g c = λ git sig keeper.
    let o = outside (g.G.GitPort.table c.args.git.now) (g.V.SigPort.table c.args.sig.now) (g.K.Keeper.kept c.args.keeper.now) in
    let verdict = c.in-Ok-authenticate.verdict in
    let over = subst (λ (t : Task). IsVerdictOver o.answers o.verdicts t (map.get o.kept t.cache_key) verdict) c.in-Ok.ensures.task (c.in-Ok-authenticate.ensures.verdict git sig keeper) in
    rw c.standing_of.ensures (checked_over o c.args.set.now c.args.channel.now c.args.known.now c.args.introduction verdict over)

pub returns-in-Ok-authenticate-clause-asked : goal.returns-in-Ok-authenticate-clause-asked
returns-in-Ok-authenticate-clause-asked g c = λ git sig keeper.
    let o = outside (g.G.GitPort.table c.args.git.now) (g.V.SigPort.table c.args.sig.now) (g.K.Keeper.kept c.args.keeper.now) in
    let verdict = c.in-Ok-authenticate.verdict in
    let before = g.V.SigPort.asked c.args.sig.now in
    let now = g.V.SigPort.asked c.authenticate.new.sig in
    let task = (task_of c.args.set.now.clones c.args.channel.now c.args.introduction c.args.known.now.metadata.keyring_reference c.args.known.now.target) in
    let over = subst (λ (t : Task). IsVerdictOver o.answers o.verdicts t (map.get o.kept t.cache_key) verdict) c.in-Ok.ensures.task (c.in-Ok-authenticate.ensures.verdict git sig keeper) in
    let asks = subst (λ (t : Task). Asks o.answers o.verdicts t (map.get o.kept t.cache_key) (Ok verdict) before now) c.in-Ok.ensures.task (c.in-Ok-authenticate.ensures.asked git sig keeper) in
    (verdict, over, accepted_asks o.answers o.verdicts task (map.get o.kept task.cache_key) verdict before now over asks)

pub returns-clause-asked : goal.returns-clause-asked
returns-clause-asked g c = λ git sig keeper.
    let o = outside (g.G.GitPort.table c.args.git.now) (g.V.SigPort.table c.args.sig.now) (g.K.Keeper.kept c.args.keeper.now) in
    let before = g.V.SigPort.asked c.args.sig.now in
    let now = g.V.SigPort.asked c.authenticate.new.sig in
    inr (
      c.in-Err.fail,
      c.channel_fail.ensures.told,
      subst (λ (t : Task). Asks o.answers o.verdicts t (map.get o.kept t.cache_key) (Err c.in-Err.fail) before now) c.in-Ok.ensures.task (c.in-Err.ensures.asked git sig keeper),
    )
