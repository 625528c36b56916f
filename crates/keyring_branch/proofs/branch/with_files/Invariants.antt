use Rattle.std.proofs.Common.{◌≡◌, drop}
use Rattle.std.specs.Prelude.{IsTrue}
use Rattle.keyring_branch.specs.Genuine.{IsAddedTo}
use Rattle.keyring_branch.specs.declared.keyring.Keyring.{Keyring}
use Rattle.keyring_branch.specs.KeyringReading.{with_files}
use Rattle.keyring_branch.proofs.branch.with_files.Given as goal

abbrev pub invariant-loop-file : goal.invariant-loop-file
invariant-loop-file g l = record {
  told : g.G.GitPort.tells l.git ≡ g.G.GitPort.tells l.fn.git;
  table : g.G.GitPort.table l.git ≡ g.G.GitPort.table l.fn.git;
  named : g.G.GitPort.named l.git ≡ g.G.GitPort.named l.fn.git;
  faults : g.G.GitPort.faults l.git ≡ g.G.GitPort.faults l.fn.git;
  exact : IsTrue (g.G.GitPort.tells l.fn.git) → with_files (g.G.GitPort.table l.fn.git) l.dir l.fn.start l.files ≡ with_files (g.G.GitPort.table l.fn.git) l.dir l.keyring (drop l.file-index l.files);
  later : (end : Keyring) → IsAddedTo l.keyring (drop l.file-index l.files) end → IsAddedTo l.fn.start l.files end;
}
