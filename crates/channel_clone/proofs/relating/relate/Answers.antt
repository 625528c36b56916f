use Rattle.std.proofs.Common.{◌≡◌, inl, inr, false, Err, refl, sym, subst}
use Rattle.commit_graph.specs.declared.relation.Relation.{Relation}
use Rattle.commit_history.specs.declared.fail.HistoryFail.{HistoryFail}
use Rattle.commit_history.specs.declared.fail.HistoryFail.TheVariants as read
use Rattle.auth_engine.specs.declared.engine_fail.EngineFail.{EngineFail}
use Rattle.auth_engine.specs.Answers.{is_sig_fault, is_keep_fault}
use Rattle.auth_engine.specs.Steps.{engine_fail}
use Rattle.commit_graph.proofs.ChainLemmas.{reach_itself}
use Rattle.commit_history.proofs.CarryLemmas.{member_relation}
use Rattle.auth_rules.specs.World.{world_of}
use Rattle.channel_clone.proofs.relating.relate.Goals as goal

pub returns-in-Ok-clause-answer : goal.returns-in-Ok-clause-answer
returns-in-Ok-clause-answer g c = λ git sigs keyring.
    let w = world_of (g.G.GitPort.table c.args.git.now) c.args.dir.now sigs keyring in
    let old = c.args.old in
    let new = c.args.new in
    let answer = c.in-Ok.ensures.answer git sigs keyring in
    (answer.0, member_relation w old new c.in-Ok.graph answer.1 old new c.relation.result (inl (reach_itself old)) (inr (reach_itself new)) c.relation.ensures.relation)

pub returns-in-Err-clause-answer : goal.returns-in-Err-clause-answer
returns-in-Err-clause-answer g c = λ git sigs keyring. (c.in-Err.fail, c.of_history.ensures, c.in-Err.ensures.answer git sigs keyring)

-- why a history can't be judged is no fault but of git
only_git : (why : HistoryFail) → (is_sig_fault {T = Relation} (Err (engine_fail why)) ≡ false) × (is_keep_fault {T = Relation} (Err (engine_fail why)) ≡ false)
only_git read.TooMany = (refl, refl)
only_git (read.Object id what) = (refl, refl)
only_git (read.Cycle id) = (refl, refl)
only_git read.GitFault = (refl, refl)
only_git read.Memory = (refl, refl)

pub returns-in-Err-clause-no_sig_fault : goal.returns-in-Err-clause-no_sig_fault
returns-in-Err-clause-no_sig_fault g c = subst (λ (fail : EngineFail). is_sig_fault {T = Relation} (Err fail) ≡ false) (sym c.of_history.ensures) (only_git c.in-Err.fail).0

pub returns-in-Err-clause-no_keep_fault : goal.returns-in-Err-clause-no_keep_fault
returns-in-Err-clause-no_keep_fault g c = subst (λ (fail : EngineFail). is_keep_fault {T = Relation} (Err fail) ≡ false) (sym c.of_history.ensures) (only_git c.in-Err.fail).1
