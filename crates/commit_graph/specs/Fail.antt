-- What a graph refuses.
use Rattle.std.specs.Prelude.{◌≡◌, ◌<◌, None}
use Rattle.std.specs.FinMap as map
use Rattle.commit_graph.specs.declared.fail.GraphFail.{GraphFail}
use Rattle.commit_graph.specs.declared.fail.GraphFail.TheVariants.{Present, Full, Open, Cycle, Memory}
use Rattle.commit_graph.specs.History.{Commits, Name, Holds, IsWhole, IsMissing, IsLeast, IsCyclic}

-- there is room for it: it isn't held, and fewer than 1,000,000 are
pub record HasRoom (held : Commits) (id : Name) : Type 0 where
  pub absent : map.get held id ≡ None
  pub few : map.len held < 1000000

-- why a commit isn't added
abbrev pub AddFails : Commits → Name → GraphFail → Type 0
AddFails held id Present = Holds held id
AddFails held id Full = (map.get held id ≡ None) × (map.len held ≡ 1000000)
AddFails held id (Open other) = ⊥
AddFails held id (Cycle other) = ⊥
AddFails held id Memory = HasRoom held id

-- why the commits are not ranked: the least parent that is not held or, where each is, the least commit without a generation
abbrev pub RankFails : Commits → GraphFail → Type 0
RankFails held Present = ⊥
RankFails held Full = ⊥
RankFails held (Open id) = IsLeast (IsMissing held) id
RankFails held (Cycle id) = IsWhole held × IsLeast (IsCyclic held) id
RankFails held Memory = IsWhole held
