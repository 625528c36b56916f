-- The history that an ordered map keeps.
use Rattle.std.specs.Prelude.{List, map}
use Rattle.std.specs.FinMap as fin
use Rattle.commit_graph.specs.declared.node.Node.{Node}
use Rattle.commit_graph.specs.History.{Name, Commits}

-- the parents of each commit of the entries
abbrev pub held_of : List (Name × Node) → Commits
held_of entries = fin.from_entries (map (λ e. (e.0, e.1.parents)) entries)
