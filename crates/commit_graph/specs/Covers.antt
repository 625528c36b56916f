-- What a target and an introduction reach, and what a cache covers of it.
-- A history is a relation: `IsParent c p` says that p is a parent of c. It is that of a graph, or of git's answers.
use Rattle.std.specs.Prelude.{◌≡◌, ◌⊎◌, ℕ, ◌<◌, List, Contains, All, AllPairs}
use Rattle.std.specs.declared.cmp.Ordering.TheVariants.{Less}
use Rattle.commit_graph.specs.Chains.{Reaches, IsGeneration}
use Rattle.commit_graph.specs.History.{Name, name_cmp}

-- who is a parent of whom
abbrev pub Parenthood : Type 1
Parenthood = Name → Name → Type 0

-- that of each commit's list of parents
abbrev pub listed_in : (Name → List Name) → Parenthood
listed_in parents c p = Contains (parents c) p

-- either reaches it
abbrev pub IsWithin : Parenthood → Name → Name → Name → Type 0
IsWithin IsParent target intro c = Reaches IsParent target c ⊎ Reaches IsParent intro c

-- the difference: the target reaches it and the introduction doesn't
abbrev pub IsNew : Parenthood → Name → Name → Name → Type 0
IsNew IsParent target intro c = Reaches IsParent target c × ¬ Reaches IsParent intro c

-- one of the two reaches the other
abbrev pub IsRelated : Parenthood → Name → Name → Type 0
IsRelated IsParent target intro = Reaches IsParent intro target ⊎ Reaches IsParent target intro

-- chains that begin with it have a greatest length
abbrev pub HasGeneration : Parenthood → Name → Type 0
HasGeneration IsParent c = (n : ℕ) × IsGeneration IsParent c n

-- it has a lesser generation, or the same and a lesser id
pub record ComesBefore (IsParent : Parenthood) (a b : Name) : Type 0 where
  pub first : ℕ
  pub second : ℕ
  pub first_is : IsGeneration IsParent a first
  pub second_is : IsGeneration IsParent b second
  pub before : (first < second) ⊎ ((first ≡ second) × (name_cmp a b ≡ Less))

-- an entry of a cache counts where the target or the introduction reaches it
abbrev pub Counts : Parenthood → Name → Name → Name → Type 0
Counts IsParent target intro entry = IsWithin IsParent target intro entry

-- an entry that counts reaches the commit
pub record IsCoveredByEntry (IsParent : Parenthood) (target intro : Name) (entries : List Name) (c : Name) : Type 0 where
  pub entry : Name
  pub listed : Contains entries entry
  pub counts : Counts IsParent target intro entry
  pub reaches : Reaches IsParent entry c

-- the introduction or an entry that counts reaches the commit
abbrev pub IsCovered : Parenthood → Name → Name → List Name → Name → Type 0
IsCovered IsParent target intro entries c = Reaches IsParent intro c ⊎ IsCoveredByEntry IsParent target intro entries c

-- each parent of a commit of the kind is of the kind
abbrev pub HasItsParents : Parenthood → (Name → Type 0) → Type 0
HasItsParents IsParent IsOfKind = (c p : Name) → IsOfKind c → IsParent c p → IsOfKind p

-- the target reaches it, and it isn't covered
abbrev pub IsUncovered : Parenthood → Name → Name → List Name → Name → Type 0
IsUncovered IsParent target intro entries c = Reaches IsParent target c × ¬ IsCovered IsParent target intro entries c

-- the commits that the target reaches and that aren't covered, by generation and then id
pub record AreUncovered (IsParent : Parenthood) (target intro : Name) (entries commits : List Name) : Type 0 where
  pub reached : All (Reaches IsParent target) commits
  pub bare : All (λ c. ¬ IsCovered IsParent target intro entries c) commits
  pub complete : (c : Name) → Reaches IsParent target c → Contains commits c ⊎ IsCovered IsParent target intro entries c
  pub order : AllPairs (ComesBefore IsParent) commits
