-- How two commits stand to each other, in any history.
use Rattle.std.specs.Prelude.{◌≡◌, ◌≢◌}
use Rattle.commit_graph.specs.declared.relation.Relation.{Relation}
use Rattle.commit_graph.specs.declared.relation.Relation.TheVariants.{Same, Ancestor, Descendant, Unrelated}
use Rattle.commit_graph.specs.Chains.{Reaches}
use Rattle.commit_graph.specs.Covers.{Parenthood}
use Rattle.commit_graph.specs.History.{Name}

-- the old commit is the new one, an ancestor of it, a descendant of it, or none of these
abbrev pub IsRelation : Parenthood → Name → Name → Relation → Type 0
IsRelation IsParent old new Same = old ≡ new
IsRelation IsParent old new Ancestor = (old ≢ new) × Reaches IsParent new old
IsRelation IsParent old new Descendant = (old ≢ new) × Reaches IsParent old new
IsRelation IsParent old new Unrelated = ¬ Reaches IsParent new old × ¬ Reaches IsParent old new
