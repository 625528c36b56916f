use Rattle.std.proofs.lemmas.Result.{IfOk-weaker}
use Rattle.real_ports.proofs.CallLemmas.{git_vars, git_kept}
use Rattle.real_ports.proofs.calls.git_call.Goals as goal

pub returns-clause-vars : goal.returns-clause-vars
returns-clause-vars c =
    let set = c.in_ok-call-2.ensures in
    let first = git_vars c.in_ok-call.call c.in_ok-call-2.call c.in_ok-call.ensures.vars set.set set.others set.clears in
    let second = git_kept _ c.in_ok-call-3.call first c.in_ok-call-3.ensures.vars in
    let third = git_kept _ c.in_ok-call-4.call second c.in_ok-call-4.ensures.vars in
    let fourth = git_kept _ c.in_ok-call-5.call third c.in_ok-call-5.ensures.vars in
    let fifth = git_kept _ c.in_ok-call-6.call fourth c.in_ok-call-6.ensures.vars in
    IfOk-weaker c.with_word-5.result _ _ (λ now same. git_kept _ now fifth same) c.with_word-5.ensures.vars
