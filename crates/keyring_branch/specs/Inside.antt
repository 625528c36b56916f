-- What the parts of the reading of armour answer.
use Rattle.std.specs.Prelude.{ℕ, Option, List, option_map}
use Rattle.std.specs.Borrow.{Bor}
use Rattle.keyring_branch.specs.declared.block.Block.{Block}
use Rattle.keyring_branch.specs.Lines.{lines_of}

-- the lines of a text, if there is one
abbrev pub lines_in : Option (Bor (List ℕ)) → Option (List (List ℕ))
lines_in text = option_map (λ (t : Bor (List ℕ)). lines_of t.now) text

-- a block's content and the lines behind it, if there is one
abbrev pub parts_in : Option Block → Option (List ℕ × List (List ℕ))
parts_in block = option_map (λ (b : Block). (b.content, lines_of b.rest.now)) block
