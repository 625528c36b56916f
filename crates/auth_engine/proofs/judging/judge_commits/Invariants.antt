use Rattle.std.proofs.Common.{◌≡◌, length, take}
use Rattle.std.specs.Prelude.{IsTrue}
use Rattle.auth_rules.specs.Answers.{ListsParents}
use Rattle.auth_rules.specs.World.{world_of}
use Rattle.auth_engine.specs.Judging.{AskedAtMost}
use Rattle.auth_engine.proofs.JudgingLemmas.{SoFar}
use Rattle.auth_engine.proofs.judging.judge_commits.Given as goal

abbrev pub invariant-loop-id : goal.invariant-loop-id
invariant-loop-id g l = record {
  git_told : g.G.GitPort.tells l.git ≡ g.G.GitPort.tells l.fn.git;
  git_table : g.G.GitPort.table l.git ≡ g.G.GitPort.table l.fn.git;
  named : g.G.GitPort.named l.git ≡ g.G.GitPort.named l.fn.git;
  git_faults : g.G.GitPort.faults l.git ≡ g.G.GitPort.faults l.fn.git;
  sig_told : g.V.SigPort.tells l.sig ≡ g.V.SigPort.tells l.fn.sig;
  sig_table : g.V.SigPort.table l.sig ≡ g.V.SigPort.table l.fn.sig;
  sig_faults : g.V.SigPort.faults l.sig ≡ g.V.SigPort.faults l.fn.sig;
  loaded : g.V.SigPort.loaded l.sig ≡ g.V.SigPort.loaded l.fn.sig;
  each : length l.signers ≡ l.id-index;
  at_most : AskedAtMost l.id-index (g.V.SigPort.asked l.fn.sig) (g.V.SigPort.asked l.sig);
  so_far : IsTrue (g.G.GitPort.tells l.fn.git) → IsTrue (g.V.SigPort.tells l.fn.sig) →
      let w = world_of (g.G.GitPort.table l.fn.git) l.dir (g.V.SigPort.table l.fn.sig) (g.V.SigPort.loaded l.fn.sig) in
      ListsParents w l.graph.held → SoFar w l.scope l.keys (take l.id-index l.commits) l.signers (g.V.SigPort.asked l.fn.sig) (g.V.SigPort.asked l.sig);
}
