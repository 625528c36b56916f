use Rattle.std.proofs.Common.{◌≡◌, List, ℕ, Ok, Err, refl, sym, ap, ◌∙◌, subst}
use Rattle.std.proofs.lemmas.Result.{err_from_is_err_and}
use Rattle.child_ports.specs.declared.fingerprint.Fingerprint.{Fingerprint}
use Rattle.commit_graph.specs.History.{IsParent}
use Rattle.auth_rules.specs.Answers.{ListsParents}
use Rattle.auth_rules.specs.World.{world_of}
use Rattle.auth_engine.specs.Judging.{JudgesAll, AsksAll, more}
use Rattle.auth_engine.specs.Tally.{IsTally}
use Rattle.auth_engine.proofs.AskedLemmas.{refused_judges_new, refused_asks_new}
use Rattle.auth_engine.proofs.deciding.judge_new.Goals as goal

pub returns-in_err-signers-clause-answer : goal.returns-in_err-signers-clause-answer
returns-in_err-signers-clause-answer g c =
    let p = err_from_is_err_and c.from_residual-in_err-signers.result c.from_residual-in_err-signers.ensures.1 in
    rw (p.1, p.2) (λ git sig lists.
    let rows = g.G.GitPort.table c.args.git.now in
    let sigs = g.V.SigPort.table c.args.sig.now in
    let bytes = g.V.SigPort.loaded c.args.sig.now in
    let s = c.args.scope.now in
    let keys = c.args.start.now.ring.keys in
    let commits = c.in_ok-commits.commits in
    let fail = c.in_err-signers.field-0.0 in
    let judges = subst (λ (dir : List ℕ). ListsParents (world_of rows dir sigs bytes) c.args.graph.now.held → JudgesAll (world_of rows dir sigs bytes) s keys commits (Err fail)) c.as_str-dir.ensures (c.in_err-signers.ensures.answer git sig) lists in
    refused_judges_new (world_of rows c.args.task.now.dir sigs bytes) c.args.task.now s keys c.args.graph.now.held c.args.start.now.target c.args.entries.now commits c.args.older fail c.in_ok-commits.ensures.uncovered judges)

pub returns-in_err-signers-clause-asked : goal.returns-in_err-signers-clause-asked
returns-in_err-signers-clause-asked g c =
    let p = err_from_is_err_and c.from_residual-in_err-signers.result c.from_residual-in_err-signers.ensures.1 in
    rw (p.1, p.2) (λ git sig lists.
    let rows = g.G.GitPort.table c.args.git.now in
    let sigs = g.V.SigPort.table c.args.sig.now in
    let bytes = g.V.SigPort.loaded c.args.sig.now in
    let s = c.args.scope.now in
    let keys = c.args.start.now.ring.keys in
    let commits = c.in_ok-commits.commits in
    let fail = c.in_err-signers.field-0.0 in
    let before = g.V.SigPort.asked c.args.sig.now in
    let now = g.V.SigPort.asked c.judge_commits.new.sig in
    let asks = subst (λ (dir : List ℕ). ListsParents (world_of rows dir sigs bytes) c.args.graph.now.held → AsksAll (world_of rows dir sigs bytes) s keys commits (Err fail) before now) c.as_str-dir.ensures (c.in_err-signers.ensures.asked git sig) lists in
    refused_asks_new (world_of rows c.args.task.now.dir sigs bytes) s keys (IsParent c.args.graph.now.held) c.args.start.now.target c.args.entries.now commits c.in_ok-commits.ensures.uncovered before now fail c.in_err-signers.ensures.at_most asks)

pub returns-in-Ok-clause-answer : goal.returns-in-Ok-clause-answer
returns-in-Ok-clause-answer g c = λ git sig lists.
    let rows = g.G.GitPort.table c.args.git.now in
    let sigs = g.V.SigPort.table c.args.sig.now in
    let bytes = g.V.SigPort.loaded c.args.sig.now in
    let s = c.args.scope.now in
    let keys = c.args.start.now.ring.keys in
    let commits = c.in_ok-commits.commits in
    let signers = c.in_ok-signers.signers in
    record {
      target_is = c.in-Ok.ensures.target;
      older_is = c.in-Ok.ensures.older;
      commits = commits;
      signers = signers;
      uncovered = c.in_ok-commits.ensures.uncovered;
      signed = subst (λ (dir : List ℕ). ListsParents (world_of rows dir sigs bytes) c.args.graph.now.held → JudgesAll (world_of rows dir sigs bytes) s keys commits (Ok signers)) c.as_str-dir.ensures (c.in_ok-signers.ensures.answer git sig) lists;
      number = c.in-Ok.ensures.judged;
      tally = subst (λ (found : List Fingerprint). IsTally found c.in-Ok.verdict.signers) c.as_slice.ensures c.in-Ok.ensures.tally;
      store_is = c.in-Ok.ensures.store;
      recorded = c.in-Ok.ensures.recorded;
    }

pub returns-in-Ok-clause-asked : goal.returns-in-Ok-clause-asked
returns-in-Ok-clause-asked g c = λ git sig lists.
    let rows = g.G.GitPort.table c.args.git.now in
    let sigs = g.V.SigPort.table c.args.sig.now in
    let bytes = g.V.SigPort.loaded c.args.sig.now in
    let s = c.args.scope.now in
    let keys = c.args.start.now.ring.keys in
    let commits = c.in_ok-commits.commits in
    let signers = c.in_ok-signers.signers in
    let before = g.V.SigPort.asked c.args.sig.now in
    let now = g.V.SigPort.asked c.judge_commits.new.sig in
    let asks = subst (λ (dir : List ℕ). ListsParents (world_of rows dir sigs bytes) c.args.graph.now.held → AsksAll (world_of rows dir sigs bytes) s keys commits (Ok signers) before now) c.as_str-dir.ensures (c.in_ok-signers.ensures.asked git sig) lists in
    subst (λ (n : ℕ). now ≡ more n before) (sym c.in-Ok.ensures.judged) asks
