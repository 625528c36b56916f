-- gpgv in memory, as contracts see it.
use Rattle.std.specs.Prelude.{ℕ, List}
use Rattle.child_ports.specs.declared.sig.SigRow.{SigRow}
use Rattle.child_ports.specs.declared.memory.script.Script.{Script}

-- its rows, its calls, the keyring that is loaded, and how often it was asked
pub record SigState : Type 0 where
  pub rows : List SigRow
  pub script : Script
  pub loaded : List ℕ
  pub asked : ℕ
