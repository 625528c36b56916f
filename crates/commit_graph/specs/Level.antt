-- What the levels of a graph's commits say. No public clause cites it.
use Rattle.std.specs.Prelude.{◌≡◌, ◌≢◌, ℕ, suc, ◌+◌, ◌-◌, ◌^◌, min, ◌<◌, ◌≤◌, ◌⊎◌, Bool, true, cond, List, [], ◌∷◌, length, map, Option, Some, None, is_some, slice_index_or, IsTrue, All}
use Rattle.std.specs.Option.{option_map}
use Rattle.std.specs.Ordering.{is_gt}
use Rattle.std.specs.List.{IsDistinct}
use Rattle.std.specs.Map.{lookup}
use Rattle.std.specs.BTreeMap.{is_at}
use Rattle.commit_graph.specs.declared.node.Node.{Node}
use Rattle.commit_graph.specs.declared.level.Level.{Level}
use Rattle.commit_graph.specs.declared.level.Level.TheVariants.{Unknown, Entered, Known, Endless}
use Rattle.commit_graph.specs.declared.level.Step.{Step}
use Rattle.commit_graph.specs.declared.level.Step.TheVariants.{Enter, Settle, GiveUp}
use Rattle.commit_graph.specs.Chains.{IsChain, IsGeneration}
use Rattle.commit_graph.specs.History.{Name, name_cmp, IsParent, Holds, IsWhole}
use Rattle.commit_graph.specs.Node.{held_of}
use Rattle.commit_graph.specs.Walk.{same_name, is_in}

-- the node at an id
abbrev pub node_at : List (Name × Node) → Name → Option Node
node_at nodes id = lookup (is_at (name_cmp id)) nodes

abbrev pub level_of : Node → Level
level_of node = node.level

-- the level at an id
abbrev pub level_at : List (Name × Node) → Name → Option Level
level_at nodes id = option_map level_of (node_at nodes id)

-- the place after that at which a commit was entered as a parent, and the first one for a commit that isn't held
abbrev pub place_after : Option Node → ℕ
place_after None = 0
place_after (Some node) = min (node.place_as_parent + 1) (2 ^ 64 - 1)

-- one for a commit whose generation isn't found or given up
abbrev pub undecided : Level → ℕ
undecided Unknown = 1
undecided Entered = 1
undecided (Known n) = 0
undecided Endless = 0

-- how many steps are left for a commit
abbrev pub steps_left : Level → ℕ
steps_left Unknown = 2
steps_left Entered = 1
steps_left (Known n) = 0
steps_left Endless = 0

-- a number for each level, added up
abbrev pub total : (Level → ℕ) → List (Name × Node) → ℕ
total weight [] = 0
total weight (e ∷ nodes) = weight e.1.level + total weight nodes

-- the level at one id is set, and all else stays
pub record SetsLevel (old new : List (Name × Node)) (id : Name) (to : Level) : Type 0 where
  pub levels : (q : Name) → level_at new q ≡ option_map (λ before. cond (same_name id q) to before) (level_at old q)
  pub held : held_of new ≡ held_of old
  pub size : length new ≡ length old
  pub count : (weight : Level → ℕ) (before : Level) → level_at old id ≡ Some before → total weight new + weight before ≡ total weight old + weight to

-- generations are at most the number of commits that are done with
abbrev pub AreSmall : List (Name × Node) → Type 0
AreSmall nodes = (length nodes ≤ 1000000) × ((id : Name) (n : ℕ) → level_at nodes id ≡ Some (Known n) → n + total undecided nodes ≤ length nodes)

-- no parent without a level, and the generation is one more than the greatest of the parents
pub record IsSettled (nodes : List (Name × Node)) (id : Name) (n : ℕ) : Type 0 where
  pub positive : 0 < n
  pub parents : (p : Name) → IsParent (held_of nodes) id p → (level_at nodes p ≡ None) ⊎ ((m : ℕ) × (level_at nodes p ≡ Some (Known m)) × (m < n))
  pub greatest : (n ≡ 1) ⊎ ((p : Name) × IsParent (held_of nodes) id p × ((m : ℕ) × (level_at nodes p ≡ Some (Known m)) × (suc m ≡ n)))

-- what the levels of its parents say of a commit
abbrev pub IsStep : List (Name × Node) → Name → Step Name → Type 0
IsStep nodes id (Enter p place) = IsParent (held_of nodes) id p × (level_at nodes p ≡ Some Unknown)
IsStep nodes id (Settle n) = IsSettled nodes id n
IsStep nodes id GiveUp = (p : Name) × IsParent (held_of nodes) id p × ((level_at nodes p ≡ Some Entered) ⊎ (level_at nodes p ≡ Some Endless))

-- chains that begin with it are as long as one likes
abbrev pub IsEndless : {Id : Type 0} → (Id → Id → Type 0) → Id → Type 0
IsEndless {Id} IsParent id = (n : ℕ) → (rest : List Id) × IsChain IsParent id rest × (n ≤ length rest)

-- the levels are right
pub record AreLevels (nodes : List (Name × Node)) : Type 0 where
  pub small : AreSmall nodes
  pub known : (id : Name) (n : ℕ) → level_at nodes id ≡ Some (Known n) → IsGeneration (IsParent (held_of nodes)) id n
  pub endless : (id : Name) → level_at nodes id ≡ Some Endless → IsEndless (IsParent (held_of nodes)) id

-- the ids are those that are being looked at, each after the first a parent of the one before
pub record IsTrail (nodes : List (Name × Node)) (trail : List Name) : Type 0 where
  pub distinct : IsDistinct same_name trail
  pub entered : (id : Name) → level_at nodes id ≡ Some Entered → is_in trail id ≡ true
  pub listed : (id : Name) → is_in trail id ≡ true → level_at nodes id ≡ Some Entered
  pub chain : (k : ℕ) (d e : Name) → k + 1 < length trail → IsParent (held_of nodes) (slice_index_or trail k d) (slice_index_or trail (k + 1) e)

-- one, where there is an id
abbrev pub at_most_one : List Name → ℕ
at_most_one [] = 0
at_most_one (id ∷ ids) = 1

-- the ids are given up, and all else stays
pub record GivesUp (old new : List (Name × Node)) (ids : List Name) : Type 0 where
  pub held : held_of new ≡ held_of old
  pub size : length new ≡ length old
  pub undecided : total undecided new ≤ total undecided old
  pub left : total steps_left new + at_most_one ids ≤ total steps_left old
  pub levels : (id : Name) → level_at new id ≡ option_map (λ before. cond (is_in ids id) Endless before) (level_at old id)

-- no commit is being looked at
abbrev pub NoneEntered : List (Name × Node) → Type 0
NoneEntered nodes = (id : Name) → level_at nodes id ≢ Some Entered

-- the commit is looked at, and what was looked at stays so
pub record Settles (old new : List (Name × Node)) (id : Name) : Type 0 where
  pub held : held_of new ≡ held_of old
  pub size : length new ≡ length old
  pub levels : AreLevels new
  pub rest : NoneEntered new
  pub done : level_at new id ≢ Some Unknown
  pub stays : (q : Name) → level_at old q ≢ Some Unknown → level_at new q ≢ Some Unknown

-- the lesser of the two
abbrev pub lesser_of : Option Name → Name → Option Name
lesser_of None id = Some id
lesser_of (Some other) id = cond (is_gt (name_cmp other id)) (Some id) (Some other)

-- the lesser of the least so far and an id that isn't held
abbrev pub lower : List (Name × Node) → Option Name → Name → Option Name
lower nodes least id = cond (is_some (node_at nodes id)) least (lesser_of least id)

-- no commit is looked at yet
abbrev pub forgotten : List (Name × Node) → List (Name × Node)
forgotten nodes = map (λ e. (e.0, record { parents = e.1.parents; level = Unknown; place = e.1.place; place_as_parent = e.1.place_as_parent })) nodes

-- the first of the ids that has no generation
abbrev pub IsFirstEndless : List (Name × Node) → List Name → Option Name → Type 0
IsFirstEndless nodes ids None = All (λ id. level_at nodes id ≢ Some Endless) ids
IsFirstEndless nodes ids (Some id) = (level_at nodes id ≡ Some Endless) × ((k : ℕ) × (k < length ids) × (slice_index_or ids k id ≡ id) × ((j : ℕ) (d : Name) → j < k → level_at nodes (slice_index_or ids j d) ≢ Some Endless))

-- each commit that is held has a generation, and there is room for each in the list of work
pub record AreRanked (nodes : List (Name × Node)) (room : ℕ) : Type 0 where
  pub whole : IsWhole (held_of nodes)
  pub known : (id : Name) → Holds (held_of nodes) id → (n : ℕ) × (level_at nodes id ≡ Some (Known n)) × IsGeneration (IsParent (held_of nodes)) id n
  pub fits : length nodes ≤ room

-- what is so of a graph
pub record IsKept (nodes : List (Name × Node)) (ranked : Bool) (room : ℕ) : Type 0 where
  pub few : length nodes ≤ 1000000
  pub ranks : IsTrue ranked → AreRanked nodes room
