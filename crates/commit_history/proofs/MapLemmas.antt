-- The commits that are held once one more is.
use Rattle.std.proofs.Common.{◌≡◌, Bool, true, false, cond, List, Some, sym, ap, ◌∙◌, subst, Contains, ◌⊎◌, inl, inr, ⊎_elim, is_some}
use Rattle.std.specs.FinMap as fin
use Rattle.std.specs.Cmp.Lexicographic.{nat_list_cmp_total}
use Rattle.commit_graph.specs.History.{Commits, Name, Holds, IsParent}
use Rattle.commit_graph.specs.Walk.{same_name}
use Rattle.commit_graph.proofs.OrderLemmas.{names_equiv, names_exact}

module _ (held : Commits) (id : Name) (parents : List Name) where
  pub get_itself : fin.get (fin.insert held id parents) id ≡ Some parents
  get_itself = fin.get-insert nat_list_cmp_total held id parents id ∙ ap (λ b. cond b (Some parents) (fin.get held id)) (names_equiv.refl id)

  by_test : (q : Name) (b : Bool) → same_name q id ≡ b → (q ≡ id) ⊎ (fin.get (fin.insert held id parents) q ≡ fin.get held q)
  by_test q true e = inl (names_exact q id e)
  by_test q false e = inr (fin.get-insert nat_list_cmp_total held id parents q ∙ ap (λ b. cond b (Some parents) (fin.get held q)) e)

  -- it is the new one, or all is as before
  pub get_cases : (q : Name) → (q ≡ id) ⊎ (fin.get (fin.insert held id parents) q ≡ fin.get held q)
  get_cases q = by_test q (same_name q id) (λ i. same_name q id)

  pub holds_itself : Holds (fin.insert held id parents) id
  holds_itself = ap is_some get_itself

  pub holds_more : (q : Name) → Holds held q → Holds (fin.insert held id parents) q
  holds_more q h = ⊎_elim (λ e. subst (Holds (fin.insert held id parents)) (sym e) holds_itself) (λ e. ap is_some e ∙ h) (get_cases q)

  pub holds_cases : (q : Name) → Holds (fin.insert held id parents) q → (q ≡ id) ⊎ Holds held q
  holds_cases q h = ⊎_elim (λ e. inl e) (λ e. inr (sym (ap is_some e) ∙ h)) (get_cases q)

  pub parent_cases : (c p : Name) → IsParent (fin.insert held id parents) c p → ((c ≡ id) × Contains parents p) ⊎ IsParent held c p
  parent_cases c p parent = ⊎_elim
      (λ e. let here = get_itself in let same : parent.parents ≡ parents = cc in inl (e, subst (λ ps. Contains ps p) same parent.listed))
      (λ e. inr (record { parents = parent.parents; given = sym e ∙ parent.given; listed = parent.listed }))
      (get_cases c)
