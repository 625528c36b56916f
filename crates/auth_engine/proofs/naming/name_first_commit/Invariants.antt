use Rattle.std.proofs.Common.{◌≡◌, drop}
use Rattle.std.specs.Prelude.{IsTrue}
use Rattle.child_ports.specs.Named.{NamedAtMost}
use Rattle.auth_engine.specs.Reading.{first_named}
use Rattle.auth_engine.proofs.naming.name_first_commit.Given as goal

abbrev pub invariant-loop-name : goal.invariant-loop-name
invariant-loop-name g l = record {
  told : g.G.GitPort.tells l.git ≡ g.G.GitPort.tells l.fn.git;
  table : g.G.GitPort.table l.git ≡ g.G.GitPort.table l.fn.git;
  named : NamedAtMost l.name-index (g.G.GitPort.named l.fn.git) (g.G.GitPort.named l.git);
  faults : g.G.GitPort.faults l.git ≡ g.G.GitPort.faults l.fn.git;
  found : IsTrue (g.G.GitPort.tells l.fn.git) → first_named (g.G.GitPort.table l.fn.git) l.dir l.names ≡ first_named (g.G.GitPort.table l.fn.git) l.dir (drop l.name-index l.names);
}
