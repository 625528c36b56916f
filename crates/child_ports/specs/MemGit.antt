-- Git in memory, as contracts see it.
use Rattle.std.specs.Prelude.{ℕ, min, max, List, [], ◌∷◌, Option, Some, None}
use Rattle.child_ports.specs.declared.git.GitRow.{GitRow}
use Rattle.child_ports.specs.declared.memory.script.Script.{Script}

-- its rows, its calls, the sizes of the pieces that are to come, how many names were asked, and what of the last answer is
-- unread
pub record GitState : Type 0 where
  pub rows : List GitRow
  pub script : Script
  pub pieces : List ℕ
  pub named : ℕ
  pub pending : List ℕ

-- a row's answer, and no bytes without a row
abbrev pub row_answer : Option GitRow → List ℕ
row_answer None = []
row_answer (Some row) = row.answer

-- How many bytes a read hands out where so many are unread and find room: the next piece at most, in which 0 counts as 1,
-- and after the last piece all.
abbrev pub handed_out : List ℕ → ℕ → ℕ
handed_out [] fit = fit
handed_out (piece ∷ pieces) fit = min (max piece 1) fit
