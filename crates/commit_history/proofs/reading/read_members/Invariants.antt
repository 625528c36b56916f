use Rattle.std.proofs.Common.{◌≡◌, ◌-◌}
use Rattle.std.specs.Prelude.{IsTrue, Contains}
use Rattle.std.specs.FinMap as map
use Rattle.auth_rules.specs.Consulting.{git_world}
use Rattle.commit_history.specs.Walk.{Follows, Keeps}
use Rattle.commit_history.proofs.reading.read_members.Given as goal

abbrev pub invariant-loop-i : goal.invariant-loop-i
invariant-loop-i g l = record {
  told : g.G.GitPort.tells l.git ≡ g.G.GitPort.tells l.fn.git;
  table : g.G.GitPort.table l.git ≡ g.G.GitPort.table l.fn.git;
  named : g.G.GitPort.named l.git ≡ g.G.GitPort.named l.fn.git;
  faults : g.G.GitPort.faults l.git ≡ g.G.GitPort.faults l.fn.git;
  both : Contains l.walk.met l.fn.target × Contains l.walk.met l.fn.intro;
  follows : Follows l.walk.graph.held l.walk.met l.i;
  keeps : IsTrue (g.G.GitPort.tells l.fn.git) →
      Keeps (git_world (g.G.GitPort.table l.fn.git) l.dir) l.fn.target l.fn.intro l.walk.graph.held l.walk.met l.walk.unread;
}

abbrev pub decreases-loop-i : goal.decreases-loop-i
decreases-loop-i g l = 1000000 - map.len l.walk.graph.held
