-- How git in memory keeps its state.
use Rattle.std.specs.Prelude.{ℕ, ◌≤◌, List, [], length, take, drop, slice_get}
use Rattle.child_ports.specs.declared.git.GitRow.{GitRow}
use Rattle.child_ports.specs.declared.memory.git.Current.{Current}
use Rattle.child_ports.specs.declared.memory.git.Current.TheVariants.{Nothing, Row, Absent}
use Rattle.child_ports.specs.declared.memory.git.MemGit.TheInside.{Inside}
use Rattle.child_ports.specs.Git.{IsName, answer}
use Rattle.child_ports.specs.Framed.{IsFramed}
use Rattle.child_ports.specs.MemGit.{GitState, row_answer}
use Rattle.child_ports.specs.Places.{ArePlaced}

-- the whole answer that is being read
abbrev pub current_bytes : List GitRow → List ℕ → Current → List ℕ
current_bytes rows absent Nothing = []
current_bytes rows absent (Row i) = row_answer (slice_get rows i)
current_bytes rows absent (Absent n) = take n absent

abbrev pub git_state : Inside → GitState
git_state a = record {
  rows = a.rows;
  script = a.script;
  pieces = drop a.piece a.pieces;
  named = a.named;
  pending = drop a.at (current_bytes a.rows a.absent a.current);
}

-- each answer of the rows is framed
abbrev pub AreFramed : List GitRow → Type 0
AreFramed rows = (dir name : List ℕ) → IsName name → IsFramed name (answer rows dir name)

-- the answers are framed, the rows are found by their names, and the place is within the answer that is being read
pub record IsSound (a : Inside) : Type 0 where
  pub framed : AreFramed a.rows
  pub placed : ArePlaced (λ row. row.name) a.rows a.places 0
  pub within : a.at ≤ length (current_bytes a.rows a.absent a.current)
