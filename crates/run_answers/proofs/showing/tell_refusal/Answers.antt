use Rattle.std.proofs.Common.{inr, ap, ◌∙◌, sym, nat_eq, ℕ}
use Rattle.auth_engine.specs.declared.engine_fail.EngineFail.TheVariants.{GitFault, SigFault, KeepFault, Memory}
use Rattle.run_answers.proofs.ShownLemmas.{shows, no_fault}
use Rattle.run_answers.proofs.showing.tell_refusal.Goals as goal

pub returns-in-GitFault-clause-shown : goal.returns-in-GitFault-clause-shown
returns-in-GitFault-clause-shown g c = λ tells. shows _ GitFault _ _ _ _ _ c.in-GitFault.is c.tell.ensures.status (c.tell.ensures.put tells)

pub returns-in-SigFault-clause-shown : goal.returns-in-SigFault-clause-shown
returns-in-SigFault-clause-shown g c = λ tells. shows _ SigFault _ _ _ _ _ c.in-SigFault.is c.tell-in-SigFault.ensures.status (c.tell-in-SigFault.ensures.put tells)

pub returns-in-KeepFault-clause-shown : goal.returns-in-KeepFault-clause-shown
returns-in-KeepFault-clause-shown g c = λ tells. shows _ KeepFault _ _ _ _ _ c.in-KeepFault.is c.tell-in-KeepFault.ensures.status (c.tell-in-KeepFault.ensures.put tells)

pub returns-in-Memory-clause-shown : goal.returns-in-Memory-clause-shown
returns-in-Memory-clause-shown g c = λ tells. shows _ Memory _ _ _ _ _ c.in-Memory.is c.tell-in-Memory.ensures.status (c.tell-in-Memory.ensures.put tells)

pub returns-in-Err : goal.returns-in-Err
returns-in-Err g c =
    let none = no_fault c.args.fail.now c.in_default.not-GitFault c.in_default.not-SigFault c.in_default.not-KeepFault in
    record {
      told = c.tell-in-Err.ensures.told;
      shown = λ tells. inr (c.tell-in-Err.ensures.status, c.tell-in-Err.ensures.put tells);
      status = inr c.tell-in-Err.ensures.status;
      fault = ap (λ (s : ℕ). nat_eq s 4) c.tell-in-Err.ensures.status ∙ sym none.0;
      keeper_fault = ap (λ (s : ℕ). nat_eq s 5) c.tell-in-Err.ensures.status ∙ sym none.1;
    }
