-- Which commits a target and an introduction reach, and when all of them can be judged.
use Rattle.std.specs.Prelude.{◌≢◌, ℕ, ◌<◌, ◌≤◌, List, length, IsOk, All, AllPairs, Contains}
use Rattle.commit_graph.specs.Covers.{Parenthood, listed_in, IsWithin, HasGeneration}
use Rattle.auth_rules.specs.World.{World, Id}
use Rattle.auth_rules.specs.Rules.{parents_of}

-- at most n ids are such: they are all among n
pub record AtMost (n : ℕ) (Is : Id → Type 0) : Type 0 where
  pub ids : List Id
  pub few : length ids ≤ n
  pub complete : (c : Id) → Is c → Contains ids c

-- more than n ids are such
pub record MoreThan (n : ℕ) (Is : Id → Type 0) : Type 0 where
  pub ids : List Id
  pub many : n < length ids
  pub different : AllPairs ◌≢◌ ids
  pub such : All Is ids

-- the parents that the commits of a world name. A commit that can't be read names none.
abbrev pub history : World → Parenthood
history w = listed_in (parents_of w)

-- one of the commits that the target or the introduction reaches
abbrev pub IsMember : World → Id → Id → Id → Type 0
IsMember w target intro c = IsWithin (history w) target intro c

-- the commit can be read
abbrev pub IsSound : World → Id → Type 0
IsSound w c = IsOk (w.commit c)

-- All that the target and the introduction reach can be judged: it is few enough, and each commit can be read and has a
-- generation.
pub record IsWhole (w : World) (target intro : Id) : Type 0 where
  pub few : AtMost 1000000 (IsMember w target intro)
  pub sound : (c : Id) → IsMember w target intro c → IsSound w c
  pub ranked : (c : Id) → IsMember w target intro c → HasGeneration (history w) c
