-- Two commits stand to each other in one way.
use Rattle.std.proofs.Common.{◌≡◌, ◌≢◌, inl, inr, List, [], ◌∷◌, Result, Ok, Err, refl, subst}
use Rattle.std.specs.Prelude.{IsOk, IsErr}
use Rattle.std.proofs.lemmas.Bool.{false≢true}
use Rattle.commit_graph.specs.Chains.{IsChain, last_of, Reaches}
use Rattle.commit_graph.specs.Covers.{Parenthood, HasGeneration}
use Rattle.commit_graph.specs.History.{Name}
use Rattle.commit_graph.specs.Relation.{IsRelation}
use Rattle.commit_graph.specs.declared.relation.Relation.{Relation}
use Rattle.commit_graph.specs.declared.relation.Relation.TheVariants.{Same, Ancestor, Descendant, Unrelated}
use Rattle.commit_graph.proofs.ChainLemmas.{reach_itself, reach_parent, reach_all}
use Rattle.commit_graph.proofs.EndlessLemmas.{cycle_endless, endless_none, endless_parent}
use Rattle.commit_history.specs.Answers.{IsHistoryAnswer}
use Rattle.commit_history.specs.Members.{IsWhole}
use Rattle.commit_history.specs.declared.fail.HistoryFail.{HistoryFail}
use Rattle.commit_history.specs.declared.fail.HistoryFail.TheVariants.{TooMany, Object, Cycle, GitFault, Memory}
use Rattle.auth_rules.specs.World.{World, Id}
use Rattle.auth_engine.specs.Answers.{IsStop}
use Rattle.auth_engine.specs.Steps.{engine_fail}
use Rattle.auth_engine.proofs.DistinctLemmas.{not_both}

module _ (P : Parenthood) where
  reach_on : (a b c : Name) → Reaches P a b → Reaches P b c → Reaches P a c
  reach_on a b c first second = reach_all (Reaches P a) (λ d p r parent. reach_parent p r parent) first second

  no_round_by : (a b : Name) (rest : List Name) → HasGeneration P a → a ≢ b → IsChain P a rest → last_of a rest ≡ b → Reaches P b a → ⊥
  no_round_by a b [] has other chain ends back = other ends
  no_round_by a b (x ∷ rest) has other chain ends back =
      let on : Reaches P x a = reach_on x b a (record { rest = rest; chain = chain.1; ends = ends }) back in
      endless_none P a (endless_parent P a x chain.0 (cycle_endless P x a on chain.0)) has.0 has.1

  -- a commit with a generation reaches no other that reaches it
  no_round : (a b : Name) → HasGeneration P a → a ≢ b → Reaches P a b → Reaches P b a → ⊥
  no_round a b has other there back = no_round_by a b there.rest has other there.chain there.ends back

  same_reaches : (old new : Name) → old ≡ new → Reaches P new old
  same_reaches old new same = subst (λ (n : Name). Reaches P n old) same (reach_itself old)

  pub one_relation : (old new : Name) → HasGeneration P old → (r q : Relation) → IsRelation P old new r → IsRelation P old new q → r ≡ q
  one_relation old new has Same Same x y = refl
  one_relation old new has Same Ancestor x y = absurd (y.0 x)
  one_relation old new has Same Descendant x y = absurd (y.0 x)
  one_relation old new has Same Unrelated x y = absurd (y.0 (same_reaches old new x))
  one_relation old new has Ancestor Same x y = absurd (x.0 y)
  one_relation old new has Ancestor Ancestor x y = refl
  one_relation old new has Ancestor Descendant x y = absurd (no_round old new has x.0 y.1 x.1)
  one_relation old new has Ancestor Unrelated x y = absurd (y.0 x.1)
  one_relation old new has Descendant Same x y = absurd (x.0 y)
  one_relation old new has Descendant Ancestor x y = absurd (no_round old new has x.0 x.1 y.1)
  one_relation old new has Descendant Descendant x y = refl
  one_relation old new has Descendant Unrelated x y = absurd (y.1 x.1)
  one_relation old new has Unrelated Same x y = absurd (x.0 (same_reaches old new y))
  one_relation old new has Unrelated Ancestor x y = absurd (x.0 y.1)
  one_relation old new has Unrelated Descendant x y = absurd (x.1 y.1)
  one_relation old new has Unrelated Unrelated x y = refl

ok_err : {A B : Type 0} (r : Result A B) → IsOk r → IsErr r → ⊥
ok_err (Ok x) ok err = false≢true err
ok_err (Err x) ok err = false≢true ok

-- what can be judged isn't refused as a history
pub whole_read : (w : World) (old new : Id) (why : HistoryFail) → ¬ IsStop (engine_fail why) → IsWhole w old new → IsHistoryAnswer w old new (Err why) → ⊥
whole_read w old new TooMany plain whole answer = not_both 1000000 _ whole.few answer
whole_read w old new (Object id what) plain whole answer = ok_err (w.commit id) (whole.sound id answer.1.is.0) answer.1.is.1
whole_read w old new (Cycle id) plain whole answer = let g = whole.ranked id answer.2.is.0 in answer.2.is.1 g.0 g.1
whole_read w old new GitFault plain whole answer = plain tt
whole_read w old new Memory plain whole answer = plain tt
