-- The first block of a text that is at fault, by the number of its BEGIN line.
use Rattle.std.specs.Prelude.{◌≡◌, ℕ, ◌+◌, true, false, List, ◌∷◌, ◌++◌, length}
use Rattle.std.specs.List.{AllByRecursion}
use Rattle.keyring_branch.specs.Lines.{lines_of}
use Rattle.keyring_branch.specs.Armour.{is_begin, IsBlock, Part, IsPart, part_lines, is_binary}
use Rattle.keyring_branch.specs.declared.key_fail.KeyFail.{KeyFail}
use Rattle.keyring_branch.specs.declared.key_fail.KeyFail.TheVariants as fail

-- parts, and then a BEGIN line in the line of this number, behind which no block stands
pub record HasBadBlock (lines : List (List ℕ)) (number : ℕ) : Type 0 where
  pub before : List Part
  pub first : List ℕ
  pub behind : List (List ℕ)
  pub each : AllByRecursion IsPart before
  pub begin : is_begin first ≡ true
  pub no_block : (block rest : List (List ℕ)) (content : List ℕ) → behind ≡ block ++ rest → IsBlock block content → ⊥
  pub at : number ≡ length (part_lines before) + 1
  pub whole : lines ≡ part_lines before ++ first ∷ behind

-- the fault of a file's armour
abbrev pub IsArmourFault : List ℕ → KeyFail → Type 0
IsArmourFault file (fail.Armor number) = (is_binary file ≡ false) × HasBadBlock (lines_of file) number
IsArmourFault file (fail.Packet at) = ⊥
IsArmourFault file (fail.Length at) = ⊥
IsArmourFault file fail.NoKey = ⊥
IsArmourFault file fail.Memory = Unit {0}
