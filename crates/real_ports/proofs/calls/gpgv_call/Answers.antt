use Rattle.std.proofs.lemmas.Result.{IfOk-weaker}
use Rattle.real_ports.proofs.CallLemmas.{gpgv_kept}
use Rattle.real_ports.proofs.calls.gpgv_call.Goals as goal

pub returns-clause-vars : goal.returns-clause-vars
returns-clause-vars c =
    let second = gpgv_kept _ c.in_ok-call-2.call c.in_ok-call.ensures.vars c.in_ok-call-2.ensures.vars in
    let third = gpgv_kept _ c.in_ok-call-3.call second c.in_ok-call-3.ensures.vars in
    let fourth = gpgv_kept _ c.in_ok-call-4.call third c.in_ok-call-4.ensures.vars in
    let fifth = gpgv_kept _ c.in_ok-call-5.call fourth c.in_ok-call-5.ensures.vars in
    let sixth = gpgv_kept _ c.in_ok-call-6.call fifth c.in_ok-call-6.ensures.vars in
    IfOk-weaker c.with_word-6.result _ _ (λ now same. gpgv_kept _ now sixth same) c.with_word-6.ensures.vars
