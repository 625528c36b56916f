use Rattle.std.proofs.Common.{◌≡◌, ◌<◌, ◌++◌, ◌∷◌, [], length, get_or, ap, ◌∙◌, rules, arith, Ok, Err}
use Rattle.std.proofs.lemmas.Grind.{common_steps}
use Rattle.std.proofs.lemmas.Result.{err_from_is_err_and}
use Rattle.auth_rules.specs.Answers.{ListsParents}
use Rattle.auth_rules.specs.World.{world_of}
use Rattle.auth_engine.specs.Judging.{JudgesOne, AsksOne}
use Rattle.auth_engine.proofs.JudgingLemmas.{since_first, goes_on, stops, stops_asking}
use Rattle.auth_engine.proofs.judging.judge_commits.Goals as goal

pub returns-in_err-key-clause-answer : goal.returns-in_err-key-clause-answer
returns-in_err-key-clause-answer g c =
    let p = err_from_is_err_and c.from_residual.result c.from_residual.ensures.1 in
    rw (p.1, p.2) (λ tells sig_tells lists.
    let w = world_of (g.G.GitPort.table c.args.git.now) c.args.dir.now (g.V.SigPort.table c.args.sig.now) (g.V.SigPort.loaded c.args.sig.now) in
    let inv = c.loop-id.invariant in
    let low : c.loop-id.id-index < length c.args.commits.now = omega (arith, ap length c.as_slice-id-items.ensures) in
    let at : c.id-item.result ≡ get_or c.args.commits.now c.loop-id.id-index c.id-item.result = cc in
    stops w c.args.scope.now c.args.keys.now c.args.commits.now c.loop-id.id-index c.id-item.result c.loop-id.signers
    (g.V.SigPort.asked c.args.sig.now) (g.V.SigPort.asked c.loop-id.sig) low at (inv.so_far tells sig_tells lists) c.in_err-key.field-0.0
    (since_first (λ v. ListsParents v c.args.graph.now.held → JudgesOne v c.args.scope.now c.args.keys.now c.id-item.result (Err c.in_err-key.field-0.0)) c.args.dir.now _ _ _ _ _ _ _ _ _ _ inv.git_told inv.git_table inv.sig_told inv.sig_table inv.loaded
    c.in_err-key.ensures.answer tells sig_tells lists))

pub returns-in_err-key-clause-asked : goal.returns-in_err-key-clause-asked
returns-in_err-key-clause-asked g c =
    let p = err_from_is_err_and c.from_residual.result c.from_residual.ensures.1 in
    rw (p.1, p.2) (λ tells sig_tells lists.
    let w = world_of (g.G.GitPort.table c.args.git.now) c.args.dir.now (g.V.SigPort.table c.args.sig.now) (g.V.SigPort.loaded c.args.sig.now) in
    let inv = c.loop-id.invariant in
    let low : c.loop-id.id-index < length c.args.commits.now = omega (arith, ap length c.as_slice-id-items.ensures) in
    let at : c.id-item.result ≡ get_or c.args.commits.now c.loop-id.id-index c.id-item.result = cc in
    stops_asking w c.args.scope.now c.args.keys.now c.args.commits.now c.loop-id.id-index c.id-item.result c.loop-id.signers
    (g.V.SigPort.asked c.args.sig.now) (g.V.SigPort.asked c.loop-id.sig) low at (inv.so_far tells sig_tells lists) c.in_err-key.field-0.0 (g.V.SigPort.asked c.judge_commit.new.sig)
    (since_first (λ v. ListsParents v c.args.graph.now.held → JudgesOne v c.args.scope.now c.args.keys.now c.id-item.result (Err c.in_err-key.field-0.0)) c.args.dir.now _ _ _ _ _ _ _ _ _ _ inv.git_told inv.git_table inv.sig_told inv.sig_table inv.loaded
    c.in_err-key.ensures.answer tells sig_tells lists)
    (since_first (λ v. ListsParents v c.args.graph.now.held → AsksOne v c.id-item.result (Err c.in_err-key.field-0.0) (g.V.SigPort.asked c.loop-id.sig) (g.V.SigPort.asked c.judge_commit.new.sig)) c.args.dir.now _ _ _ _ _ _ _ _ _ _ inv.git_told inv.git_table inv.sig_told inv.sig_table inv.loaded
    c.in_err-key.ensures.asked tells sig_tells lists))

pub loop-id-preserved : goal.loop-id-preserved
loop-id-preserved g c =
    let pushed : c.push.new.self ≡ c.loop-id.signers ++ c.in_ok-key.key ∷ [] = search rules in
    let inv = c.loop-id.invariant in
    record {
      git_told = c.judge_commit.ensures.git_told ∙ inv.git_told;
      git_table = c.judge_commit.ensures.git_table ∙ inv.git_table;
      named = c.judge_commit.ensures.named ∙ inv.named;
      git_faults = c.in_ok-key.ensures.git_fault ∙ inv.git_faults;
      sig_told = c.judge_commit.ensures.sig_told ∙ inv.sig_told;
      sig_table = c.judge_commit.ensures.sig_table ∙ inv.sig_table;
      sig_faults = c.in_ok-key.ensures.sig_fault ∙ inv.sig_faults;
      loaded = c.judge_commit.ensures.loaded ∙ inv.loaded;
      each = grind (arith, common_steps);
      at_most = (omega arith, omega arith);
      so_far = λ tells sig_tells lists.
          let w = world_of (g.G.GitPort.table c.args.git.now) c.args.dir.now (g.V.SigPort.table c.args.sig.now) (g.V.SigPort.loaded c.args.sig.now) in
          let low : c.loop-id.id-index < length c.args.commits.now = omega (arith, ap length c.as_slice-id-items.ensures) in
          let at : c.id-item.result ≡ get_or c.args.commits.now c.loop-id.id-index c.id-item.result = cc in
          rw pushed (goes_on w c.args.scope.now c.args.keys.now c.args.commits.now c.loop-id.id-index c.id-item.result c.loop-id.signers c.in_ok-key.key
          (g.V.SigPort.asked c.args.sig.now) (g.V.SigPort.asked c.loop-id.sig) (g.V.SigPort.asked c.judge_commit.new.sig) low at (inv.so_far tells sig_tells lists)
          (since_first (λ v. ListsParents v c.args.graph.now.held → JudgesOne v c.args.scope.now c.args.keys.now c.id-item.result (Ok c.in_ok-key.key)) c.args.dir.now _ _ _ _ _ _ _ _ _ _ inv.git_told inv.git_table inv.sig_told inv.sig_table inv.loaded
          c.in_ok-key.ensures.answer tells sig_tells lists)
          (since_first (λ v. ListsParents v c.args.graph.now.held → AsksOne v c.id-item.result (Ok c.in_ok-key.key) (g.V.SigPort.asked c.loop-id.sig) (g.V.SigPort.asked c.judge_commit.new.sig)) c.args.dir.now _ _ _ _ _ _ _ _ _ _ inv.git_told inv.git_table inv.sig_told inv.sig_table inv.loaded
          c.in_ok-key.ensures.asked tells sig_tells lists));
    }
