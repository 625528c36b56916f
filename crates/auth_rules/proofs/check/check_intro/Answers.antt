use Rattle.std.proofs.Common.{◌≡◌, Some}
use Rattle.std.proofs.lemmas.Result.{err_from_is_err_and}
use Rattle.std.specs.Option.{option_and_then}
use Rattle.auth_rules.specs.World.{world_of}
use Rattle.auth_rules.specs.Rules.{judgement, valid_key}
use Rattle.auth_rules.proofs.IntroLemmas.{intro_refused}
use Rattle.auth_rules.proofs.check.check_intro.Goals as goal

pub returns-in_err-key-clause-answer : goal.returns-in_err-key-clause-answer
returns-in_err-key-clause-answer g c =
    let p = err_from_is_err_and c.from_residual-in_err-key.result c.from_residual-in_err-key.ensures.1 in
    rw (p.1, p.2) (λ tells sig_tells.
    let w = world_of (g.G.GitPort.table c.args.git.now) c.args.dir.now (g.V.SigPort.table c.args.sig.now) (g.V.SigPort.loaded c.args.sig.now) in
    intro_refused w c.args.scope.now c.args.keys.now (λ (value : Unit {0}). Unit {0}) c.in_ok-root.root (c.in_ok-root.ensures.exact tells)
    (λ key. option_and_then valid_key (judgement w c.in_ok-root.root.commit) ≡ Some key)
    c.in_err-key.field-0.0 (c.in_err-key.ensures.answer sig_tells))
