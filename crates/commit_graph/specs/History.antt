-- A history as far as a graph holds it.
use Rattle.std.specs.Prelude.{◌≡◌, ℕ, Bool, false, List, Some, None, IsTrue, Contains, refl}
use Rattle.std.specs.declared.cmp.Ordering.{Ordering}
use Rattle.std.specs.Ordering.{nat_cmp, is_gt}
use Rattle.std.specs.Cmp.Lexicographic.{slice_cmp}
use Rattle.std.specs.Coded.{Coded, code_by, coded×, coded_ℕ, coded_bool, coded_list}
use Rattle.std.specs.FinMap as map
use Rattle.commit_graph.specs.Chains.{Reaches, HasNoGeneration}

-- an id is its bytes
abbrev pub Name : Type 0
Name = List ℕ

-- the order of ids, byte by byte
abbrev pub name_cmp : Name → Name → Ordering
name_cmp = slice_cmp nat_cmp

-- commits with their parents, in their order
abbrev pub Commits : Type 0
Commits = map.FinMap name_cmp (List Name)

-- the commits that a graph holds, and whether it is ranked
pub record History : Type 0 where
  pub held : Commits
  pub ranked : Bool

abbrev pub name_code : Coded Name
name_code = coded_list coded_ℕ

-- a history is stored as the pair of its parts
abbrev pub history_code : Coded History
history_code = code_by (Commits × Bool) (coded× (map.code name_code (coded_list name_code)) coded_bool) (λ h. (h.held, h.ranked)) (λ p. record { held = p.0; ranked = p.1 }) (λ _. refl)

-- the commit is held
abbrev pub Holds : Commits → Name → Type 0
Holds held id = IsTrue (map.contains_key held id)

-- the child is held, with this parent among its parents
pub record IsParent (held : Commits) (child id : Name) : Type 0 where
  pub parents : List Name
  pub given : map.get held child ≡ Some parents
  pub listed : Contains parents id

-- a parent of a held commit, and not held
pub record IsMissing (held : Commits) (id : Name) : Type 0 where
  pub child : Name
  pub parent : IsParent held child id
  pub absent : map.get held id ≡ None

-- each parent of a held commit is held
abbrev pub IsWhole : Commits → Type 0
IsWhole held = (child id : Name) → IsParent held child id → Holds held id

-- the id is of the kind, and no lesser id is
pub record IsLeast (IsOfKind : Name → Type 0) (id : Name) : Type 0 where
  pub is : IsOfKind id
  pub least : (other : Name) → IsOfKind other → is_gt (name_cmp id other) ≡ false

-- held, and without a generation: on a cycle, or a descendant of one
pub record IsCyclic (held : Commits) (id : Name) : Type 0 where
  pub holds : Holds held id
  pub endless : HasNoGeneration (IsParent held) id

-- one of the ids reaches it
pub record IsReachedFrom (held : Commits) (ids : List Name) (id : Name) : Type 0 where
  pub from : Name
  pub listed : Contains ids from
  pub reaches : Reaches (IsParent held) from id
