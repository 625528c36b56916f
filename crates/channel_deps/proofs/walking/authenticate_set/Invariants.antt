use Rattle.std.proofs.Common.{◌≡◌, ◌≤◌, ◌-◌, length, false}
use Rattle.std.specs.Prelude.{All, IsTrue}
use Rattle.channel_file.specs.Limits.{IsFit}
use Rattle.channel_deps.specs.Outcome.{AreSoundOrNone}
use Rattle.channel_deps.specs.Outside.{outside}
use Rattle.channel_deps.proofs.AskedLemmas.{HasGone}
use Rattle.channel_deps.proofs.WalkLemmas.{HasWalked}
use Rattle.channel_deps.proofs.walking.authenticate_set.Given as goal

abbrev pub decreases-loop-i : goal.decreases-loop-i
decreases-loop-i g l = 256 - l.i

abbrev pub invariant-loop-i : goal.invariant-loop-i
invariant-loop-i g l = record {
  git_told : g.G.GitPort.tells l.git ≡ g.G.GitPort.tells l.fn.git;
  git_table : g.G.GitPort.table l.git ≡ g.G.GitPort.table l.fn.git;
  git_faults : g.G.GitPort.faults l.git ≡ g.G.GitPort.faults l.fn.git;
  sig_told : g.V.SigPort.tells l.sig ≡ g.V.SigPort.tells l.fn.sig;
  sig_table : g.V.SigPort.table l.sig ≡ g.V.SigPort.table l.fn.sig;
  unasked : l.set.check ≡ false → g.V.SigPort.asked l.sig ≡ g.V.SigPort.asked l.fn.sig;
  sig_faults : g.V.SigPort.faults l.sig ≡ g.V.SigPort.faults l.fn.sig;
  keeper_told : g.K.Keeper.tells l.keeper ≡ g.K.Keeper.tells l.fn.keeper;
  kept : g.K.Keeper.kept l.keeper ≡ g.K.Keeper.kept l.fn.keeper;
  stores : g.K.Keeper.stores l.keeper ≡ g.K.Keeper.stores l.fn.keeper;
  keep_faults : g.K.Keeper.faults l.keeper ≡ g.K.Keeper.faults l.fn.keeper;
  few : length l.walk.list ≤ 256;
  fit : All IsFit l.walk.list;
  walked : IsTrue (g.G.GitPort.tells l.fn.git) → IsTrue (g.V.SigPort.tells l.fn.sig) → IsTrue (g.K.Keeper.tells l.fn.keeper) →
      let o = outside (g.G.GitPort.table l.fn.git) (g.V.SigPort.table l.fn.sig) (g.K.Keeper.kept l.fn.keeper) in
      AreSoundOrNone o l.set → HasWalked o l.set l.i l.walk;
  gone : IsTrue (g.G.GitPort.tells l.fn.git) → IsTrue (g.V.SigPort.tells l.fn.sig) → IsTrue (g.K.Keeper.tells l.fn.keeper) →
      HasGone (outside (g.G.GitPort.table l.fn.git) (g.V.SigPort.table l.fn.sig) (g.K.Keeper.kept l.fn.keeper)) l.set l.i l.walk (g.V.SigPort.asked l.fn.sig) (g.V.SigPort.asked l.sig);
}
