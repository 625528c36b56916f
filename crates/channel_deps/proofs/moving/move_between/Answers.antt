use Rattle.std.proofs.Common.{◌∙◌, [], Bool, sym, subst}
use Rattle.child_ports.specs.Causes.{RoseWhen}
use Rattle.commit_graph.specs.declared.relation.Relation.{Relation}
use Rattle.channel_deps.specs.declared.set.Move.{Move}
use Rattle.channel_deps.specs.Answers.{Gives}
use Rattle.channel_deps.specs.Steps.{judged_move}
use Rattle.channel_deps.proofs.AnswerLemmas.{told_faults}
use Rattle.channel_deps.proofs.MoveLemmas.{between, not_related}
use Rattle.channel_deps.proofs.moving.move_between.Goals as goal

pub returns-in-Ok-clause-moved : goal.returns-in-Ok-clause-moved
returns-in-Ok-clause-moved g c = λ told.
    let given = subst (λ (m : Move). Gives c.judge_move.result (judged_move c.args.allowed c.args.channel.now m c.args.old c.args.new)) c.related_move.ensures c.judge_move.ensures.judged in
    between (g.G.GitPort.table c.args.git.now) c.args.dir.now c.args.allowed c.args.channel.now c.args.old c.args.new c.in-Ok.relation c.judge_move.result (c.in-Ok.ensures.answer told [] []) given

pub returns-in-Err-clause-moved : goal.returns-in-Err-clause-moved
returns-in-Err-clause-moved g c = λ told.
    not_related (g.G.GitPort.table c.args.git.now) c.args.dir.now c.args.allowed c.args.channel.now c.args.old c.args.new c.in-Err.fail c.channel_fail.result (c.in-Err.ensures.answer told [] []) c.channel_fail.ensures.told

pub returns-in-Err-clause-git_fault : goal.returns-in-Err-clause-git_fault
returns-in-Err-clause-git_fault g c =
    let same = told_faults {A = Relation} {B = Move} c.args.channel.now c.in-Err.fail c.channel_fail.result c.channel_fail.ensures.told in
    subst (λ (b : Bool). RoseWhen b (g.G.GitPort.faults c.args.git.now) (g.G.GitPort.faults c.relate.new.git)) same.git c.in-Err.ensures.cause

pub returns-in-Err-clause-no_sig_fault : goal.returns-in-Err-clause-no_sig_fault
returns-in-Err-clause-no_sig_fault g c =
    let same = told_faults {A = Relation} {B = Move} c.args.channel.now c.in-Err.fail c.channel_fail.result c.channel_fail.ensures.told in
    sym same.sig ∙ c.in-Err.ensures.no_sig_fault

pub returns-in-Err-clause-no_keep_fault : goal.returns-in-Err-clause-no_keep_fault
returns-in-Err-clause-no_keep_fault g c =
    let same = told_faults {A = Relation} {B = Move} c.args.channel.now c.in-Err.fail c.channel_fail.result c.channel_fail.ensures.told in
    sym same.keep ∙ c.in-Err.ensures.no_keep_fault
