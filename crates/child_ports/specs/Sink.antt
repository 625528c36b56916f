-- What a sink has taken.
use Rattle.std.specs.Prelude.{◌≡◌, ℕ, List, ◌++◌}

-- a front of the bytes, maybe none or all of them, was taken after what was taken before
pub record TakesFront (old new bytes : List ℕ) : Type 0 where
  pub front : List ℕ
  pub rest : List ℕ
  pub parts : bytes ≡ front ++ rest
  pub taken : new ≡ old ++ front
