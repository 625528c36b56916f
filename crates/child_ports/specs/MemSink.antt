-- A sink in memory, as contracts see it.
use Rattle.std.specs.Prelude.{ℕ, List}
use Rattle.child_ports.specs.declared.memory.script.Script.{Script}

-- what it took, how many bytes it can take in all, and its calls
pub record SinkState : Type 0 where
  pub taken : List ℕ
  pub room : ℕ
  pub script : Script
