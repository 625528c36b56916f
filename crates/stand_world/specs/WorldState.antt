-- A world, as contracts see it.
use Rattle.std.specs.Prelude.{ℕ, List}
use Rattle.stand_world.specs.declared.declared.Declared.{Declared}

-- the directory that its rows are for, and what is declared
pub record WorldState : Type 0 where
  pub dir : List ℕ
  pub declared : Declared
