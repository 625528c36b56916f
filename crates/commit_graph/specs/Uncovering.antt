-- Commits with their generations, as they are put in order. No public clause cites it.
use Rattle.std.specs.Prelude.{◌≡◌, ℕ, false, cond, not, ◌&&◌, ◌||◌, List, ◌∷◌, filter, Option, Some, None, IsTrue}
use Rattle.std.specs.declared.cmp.Ordering.{Ordering}
use Rattle.std.specs.Ordering.{nat_cmp, ordering_then}
use Rattle.std.specs.FinSet as set
use Rattle.commit_graph.specs.declared.node.Node.{Node}
use Rattle.commit_graph.specs.declared.level.Level.{Level}
use Rattle.commit_graph.specs.declared.level.Level.TheVariants.{Unknown, Entered, Known, Endless}
use Rattle.commit_graph.specs.History.{Name, name_cmp}
use Rattle.commit_graph.specs.Level.{level_at}

-- commits, as a set of ids
abbrev pub Ids : Type 0
Ids = set.FinSet name_cmp

-- the introduction, and the entries that count: those that the target's or the introduction's own history has
abbrev pub counted_ids : Ids → Ids → Name → List Name → List Name
counted_ids near far intro entries = intro ∷ filter (λ entry. set.contains near entry || set.contains far entry) entries

-- a generation and an id
abbrev pub Row : Type 0
Row = ℕ × Name

-- by generation, and then by id
abbrev pub row_cmp : Row → Row → Ordering
row_cmp x y = ordering_then (nat_cmp x.0 y.0) (name_cmp x.1 y.1)

-- the row of a commit of the one set and not of the other, where its generation is known
abbrev pub row_of : Ids → Ids → Name → Level → Option Row
row_of near covered id Unknown = None
row_of near covered id Entered = None
row_of near covered id (Known n) = cond (set.contains near id && not (set.contains covered id)) (Some (n, id)) None
row_of near covered id Endless = None

-- the commit is in the one set and not in the other, and this is its generation
pub record IsRow (nodes : List (Name × Node)) (near covered : Ids) (row : Row) : Type 0 where
  pub generation : level_at nodes row.1 ≡ Some (Known row.0)
  pub within : IsTrue (set.contains near row.1)
  pub bare : set.contains covered row.1 ≡ false
