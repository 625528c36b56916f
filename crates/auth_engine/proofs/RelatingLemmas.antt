-- No commit of a generation is reached by another that it reaches.
use Rattle.std.proofs.Common.{◌≡◌, ◌≢◌, inl, inr, ℕ, List, [], ◌∷◌, ◌++◌, length-append, sym, subst, false, arith}
use Rattle.std.specs.Prelude.{IsTrue, ◌↔◌}
use Rattle.std.proofs.lemmas.Bool.{false≢true}
use Rattle.commit_graph.specs.Chains.{IsChain, last_of, Reaches, IsGeneration}
use Rattle.commit_graph.specs.Covers.{Parenthood, HasGeneration, IsRelated}
use Rattle.commit_graph.proofs.ChainLemmas.{reach_itself}
use Rattle.auth_rules.specs.World.{Id}
use Rattle.auth_engine.specs.Steps.{IsOlder}

module _ (P : Parenthood) where
  -- a chain, and one that goes on from its end
  joined : (a b : Id) (xs ys : List Id) → IsChain P a xs → last_of a xs ≡ b → IsChain P b ys → IsChain P a (xs ++ ys)
  joined a b [] ys chain ends more = subst (λ (x : Id). IsChain P x ys) (sym ends) more
  joined a b (p ∷ xs) ys chain ends more = (chain.0, joined p b xs ys chain.1 ends more)

  round : (a b : Id) (n : ℕ) (xs ys : List Id) → IsGeneration P a n → a ≢ b → IsChain P a xs → last_of a xs ≡ b → IsChain P b ys → last_of b ys ≡ a → ⊥
  round a b n [] ys g other there is back was = other is
  round a b n (p ∷ xs) ys g other there is back was =
      let longer : IsChain P a ((p ∷ xs) ++ (ys ++ g.rest)) = joined a b (p ∷ xs) (ys ++ g.rest) there is (joined b a ys g.rest back was g.chain) in
      let most = g.greatest ((p ∷ xs) ++ (ys ++ g.rest)) longer in
      absurd (omega (arith, most, g.count, length-append (p ∷ xs) (ys ++ g.rest), length-append ys g.rest))

  no_round : (a b : Id) → HasGeneration P a → a ≢ b → Reaches P a b → Reaches P b a → ⊥
  no_round a b g other there back = round a b g.0 there.rest back.rest g.1 other there.chain there.ends back.chain back.ends

  pub same_commit : (target intro : Id) → target ≡ intro → IsRelated P target intro × (IsTrue false ↔ IsOlder P target intro)
  same_commit target intro is = (inl (subst (λ (c : Id). Reaches P c target) is (reach_itself target)), (λ t. absurd (false≢true t), λ older. absurd (older.1 is)))

  pub descendant : (target intro : Id) → HasGeneration P target → target ≢ intro → Reaches P target intro → IsRelated P target intro × (IsTrue false ↔ IsOlder P target intro)
  descendant target intro g other there = (inr there, (λ t. absurd (false≢true t), λ older. absurd (no_round target intro g other there older.0)))
