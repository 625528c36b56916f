-- What was read of a source, as far as the source tells what it holds.
use Rattle.std.specs.Prelude.{◌≡◌, ℕ, List, take, Option, IfSome}

-- all that some pipe gave
abbrev pub IsOutput : {P : Type 0} → (P → Option (List ℕ)) → List ℕ → Type 0
IsOutput {P} remaining bytes = (pipe : P) × IfSome (remaining pipe) (λ given. bytes ≡ given)

-- the front of what some file held: all of it, or as many bytes as are taken
abbrev pub IsFront : {F : Type 0} → (F → Option (List ℕ)) → List ℕ → Type 0
IsFront {F} remaining bytes = (file : F) × IfSome (remaining file) (λ held. bytes ≡ take 67108865 held)
