use Rattle.std.proofs.Common.{◌≡◌, ◌∙◌, sym, Ok, Err, Some, is_some, subst}
use Rattle.std.proofs.lemmas.Result.{err_from_is_err_and}
use Rattle.std.specs.Option.{option_and_then}
use Rattle.commit_graph.specs.History.{Commits}
use Rattle.commit_graph.specs.Walk.{parents_in}
use Rattle.child_ports.specs.declared.fingerprint.Fingerprint.{Fingerprint}
use Rattle.auth_rules.specs.declared.cause.RuleFail.{RuleFail}
use Rattle.auth_rules.specs.declared.family.Family.{Family}
use Rattle.auth_rules.specs.Answers.{HoldsFamily, ListsParents}
use Rattle.auth_rules.specs.World.{World, Id, world_of}
use Rattle.auth_rules.specs.Rules.{parents_of, signer, judgement, valid_key}
use Rattle.auth_rules.specs.Consulting.{Gives, family_of}
use Rattle.auth_rules.proofs.CauseLemmas.{family_alike, unread_answers, unread_asks, signature_answers, family_answers, asked_is, asks_fail, asks_behind}
use Rattle.auth_rules.proofs.check.check_commit.Goals as goal

not_read : (w : World) (held : Commits) (c : Id) → ListsParents w held → HoldsFamily held c → (fail : RuleFail)
    → Gives {T = Family} (Err fail) (family_of w (parents_in held) c) → Gives {T = Family} (Err fail) (family_of w (parents_of w) c)
not_read w held c lists holds fail is = subst (Gives {T = Family} (Err fail)) (family_alike w held lists c holds) is

was_read : (w : World) (held : Commits) (c : Id) → ListsParents w held → HoldsFamily held c → (family : Family)
    → family_of w (parents_in held) c ≡ Ok family → family_of w (parents_of w) c ≡ Ok family
was_read w held c lists holds family is = sym (family_alike w held lists c holds) ∙ is

pub returns-in_err-family-clause-answer : goal.returns-in_err-family-clause-answer
returns-in_err-family-clause-answer g c =
    let p = err_from_is_err_and c.from_residual.result c.from_residual.ensures.1 in
    rw (p.1, p.2) (λ tells sig_tells lists.
    let w = world_of (g.G.GitPort.table c.args.git.now) c.args.dir.now (g.V.SigPort.table c.args.sig.now) (g.V.SigPort.loaded c.args.sig.now) in
    unread_answers w c.args.scope.now c.args.keys.now c.args.id (λ (key : Fingerprint). signer w c.args.id ≡ Some key) c.in_err-family.field-0.0
    (not_read w c.args.graph.now.held c.args.id lists c.requires.held c.in_err-family.field-0.0 (c.in_err-family.ensures.exact tells)))

pub returns-in_err-family-clause-asked : goal.returns-in_err-family-clause-asked
returns-in_err-family-clause-asked g c =
    let p = err_from_is_err_and c.from_residual.result c.from_residual.ensures.1 in
    rw (p.1, p.2) (λ tells sig_tells lists.
    let w = world_of (g.G.GitPort.table c.args.git.now) c.args.dir.now (g.V.SigPort.table c.args.sig.now) (g.V.SigPort.loaded c.args.sig.now) in
    unread_asks w c.args.scope.now c.args.keys.now c.args.id Fingerprint c.in_err-family.field-0.0 (g.V.SigPort.asked c.args.sig.now)
    (not_read w c.args.graph.now.held c.args.id lists c.requires.held c.in_err-family.field-0.0 (c.in_err-family.ensures.exact tells)))

pub returns-in_err-key-clause-answer : goal.returns-in_err-key-clause-answer
returns-in_err-key-clause-answer g c =
    let p = err_from_is_err_and c.from_residual-in_err-key.result c.from_residual-in_err-key.ensures.1 in
    rw (p.1, p.2) (λ tells sig_tells lists.
    let w = world_of (g.G.GitPort.table c.args.git.now) c.args.dir.now (g.V.SigPort.table c.args.sig.now) (g.V.SigPort.loaded c.args.sig.now) in
    signature_answers w c.args.scope.now c.args.keys.now c.args.id c.in_ok-family.family
    (was_read w c.args.graph.now.held c.args.id lists c.requires.held c.in_ok-family.family (c.in_ok-family.ensures.exact tells))
    (λ (key : Fingerprint). signer w c.args.id ≡ Some key)
    (λ key. option_and_then valid_key (judgement w c.in_ok-family.family.root.commit) ≡ Some key)
    c.in_err-key.field-0.0 (c.in_err-key.ensures.answer sig_tells))

pub returns-in_err-key-clause-asked : goal.returns-in_err-key-clause-asked
returns-in_err-key-clause-asked g c =
    let p = err_from_is_err_and c.from_residual-in_err-key.result c.from_residual-in_err-key.ensures.1 in
    rw (p.1, p.2) (λ tells sig_tells lists.
    let w = world_of (g.G.GitPort.table c.args.git.now) c.args.dir.now (g.V.SigPort.table c.args.sig.now) (g.V.SigPort.loaded c.args.sig.now) in
    asks_fail Fingerprint Fingerprint c.in_err-key.field-0.0 (is_some c.in_ok-family.family.root.commit.signature) _ _ _
    (asked_is w c.args.scope.now c.args.keys.now c.args.id c.in_ok-family.family
    (was_read w c.args.graph.now.held c.args.id lists c.requires.held c.in_ok-family.family (c.in_ok-family.ensures.exact tells)))
    c.in_err-key.ensures.asked)

pub returns-clause-answer : goal.returns-clause-answer
returns-clause-answer g c = λ tells sig_tells lists.
    let w = world_of (g.G.GitPort.table c.args.git.now) c.args.dir.now (g.V.SigPort.table c.args.sig.now) (g.V.SigPort.loaded c.args.sig.now) in
    let signed = c.in_ok-key.ensures.answer sig_tells in
    family_answers w c.args.scope.now c.args.keys.now c.args.id c.in_ok-family.family
    (was_read w c.args.graph.now.held c.args.id lists c.requires.held c.in_ok-family.family (c.in_ok-family.ensures.exact tells))
    c.in_ok-key.key signed.0 signed.1 c.judge_family.result c.judge_family.ensures.answer

pub returns-clause-asked : goal.returns-clause-asked
returns-clause-asked g c = λ tells sig_tells lists.
    let w = world_of (g.G.GitPort.table c.args.git.now) c.args.dir.now (g.V.SigPort.table c.args.sig.now) (g.V.SigPort.loaded c.args.sig.now) in
    asks_behind c.judge_family.result (is_some c.in_ok-family.family.root.commit.signature) _ _ _
    (asked_is w c.args.scope.now c.args.keys.now c.args.id c.in_ok-family.family
    (was_read w c.args.graph.now.held c.args.id lists c.requires.held c.in_ok-family.family (c.in_ok-family.ensures.exact tells)))
    c.in_ok-key.ensures.asked
