-- What is covered has its parents covered.
use Rattle.std.proofs.Common.{inl, inr, List}
use Rattle.commit_graph.specs.Covers.{Parenthood, IsWithin, IsCovered, HasItsParents}
use Rattle.commit_graph.specs.History.{Name}
use Rattle.commit_graph.proofs.ChainLemmas.{reach_parent}

-- what either reaches has its parents reached
pub IsWithin-parent : (R : Parenthood) (target intro : Name) → HasItsParents R (IsWithin R target intro)
IsWithin-parent R target intro c p (inl r) parent = inl (reach_parent p r parent)
IsWithin-parent R target intro c p (inr r) parent = inr (reach_parent p r parent)

-- what is covered has its parents covered
pub IsCovered-parent : (R : Parenthood) (target intro : Name) (entries : List Name) → HasItsParents R (IsCovered R target intro entries)
IsCovered-parent R target intro entries c p (inl r) parent = inl (reach_parent p r parent)
IsCovered-parent R target intro entries c p (inr e) parent = inr (record { entry = e.entry; listed = e.listed; counts = e.counts; reaches = reach_parent p e.reaches parent })
