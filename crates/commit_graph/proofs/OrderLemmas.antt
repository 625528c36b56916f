-- The order of ids.
use Rattle.std.proofs.Common.{◌≡◌, true}
use Rattle.std.specs.Cmp.{IsEquivalence, eq_by_cmp_equiv, Equal-is}
use Rattle.std.specs.Cmp.Lexicographic.{nat_list_cmp_total}
use Rattle.std.proofs.lemmas.Map.Lookups.{exact_bytes}
use Rattle.commit_graph.specs.History.{Name, name_cmp}
use Rattle.commit_graph.specs.Walk.{same_name}

pub names_equiv : IsEquivalence same_name
names_equiv = eq_by_cmp_equiv nat_list_cmp_total

pub names_exact : (x y : Name) → same_name x y ≡ true → x ≡ y
names_exact x y e = exact_bytes x y ((Equal-is (name_cmp x y)).0 e)
