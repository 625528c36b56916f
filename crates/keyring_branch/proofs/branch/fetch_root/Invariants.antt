use Rattle.std.proofs.Common.{◌≡◌, drop}
use Rattle.std.specs.Prelude.{IsTrue}
use Rattle.child_ports.specs.Named.{NamedAtMost}
use Rattle.keyring_branch.specs.KeyringReading.{root_of}
use Rattle.keyring_branch.proofs.branch.fetch_root.Given as goal

abbrev pub invariant-loop-name : goal.invariant-loop-name
invariant-loop-name g l = record {
  told : g.G.GitPort.tells l.git ≡ g.G.GitPort.tells l.fn.git;
  table : g.G.GitPort.table l.git ≡ g.G.GitPort.table l.fn.git;
  named : NamedAtMost l.name-index (g.G.GitPort.named l.fn.git) (g.G.GitPort.named l.git);
  faults : g.G.GitPort.faults l.git ≡ g.G.GitPort.faults l.fn.git;
  exact : IsTrue (g.G.GitPort.tells l.fn.git) → root_of (g.G.GitPort.table l.fn.git) l.dir l.names ≡ root_of (g.G.GitPort.table l.fn.git) l.dir (drop l.name-index l.names);
}
