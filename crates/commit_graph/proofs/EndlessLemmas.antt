-- Chains as long as one likes.
use Rattle.std.proofs.Common.{◌≡◌, ℕ, zero, suc, ◌+◌, ◌≤◌, List, [], ◌∷◌, ◌++◌, length, sym, subst, arith, length-append}
use Rattle.commit_graph.specs.Chains.{IsChain, last_of, Reaches, HasNoGeneration}
use Rattle.commit_graph.specs.Level.{IsEndless}

chain-append : {Id : Type 0} (R : Id → Id → Type 0) (first : Id) (rest : List Id) (x : Id) (more : List Id) → IsChain R first rest → R (last_of first rest) x → IsChain R x more → IsChain R first (rest ++ x ∷ more)
chain-append R first [] x more h parent after = (parent, after)
chain-append R first (p ∷ rest) x more h parent after = (h.0, chain-append R p rest x more h.1 parent after)

-- a commit with such a parent has them
pub endless_parent : {Id : Type 0} (R : Id → Id → Type 0) (c p : Id) → R c p → IsEndless R p → IsEndless R c
endless_parent R c p parent h = λ n. let e = h n in (p ∷ e.0, (parent, e.1), omega (arith, e.2))

along : {Id : Type 0} (R : Id → Id → Type 0) (first : Id) (rest : List Id) → IsChain R first rest → IsEndless R (last_of first rest) → IsEndless R first
along R first [] h end = end
along R first (p ∷ rest) h end = endless_parent R first p h.0 (along R p rest h.1 end)

-- what reaches such a commit has them
pub endless_reach : {Id : Type 0} (R : Id → Id → Type 0) (a b : Id) → Reaches R a b → IsEndless R b → IsEndless R a
endless_reach R a b r h = along R a r.rest r.chain (subst (IsEndless R) (sym r.ends) h)

round : {Id : Type 0} (R : Id → Id → Type 0) (a : Id) (rest : List Id) → IsChain R a rest → R (last_of a rest) a → (n : ℕ) → (longer : List Id) × IsChain R a longer × (n ≤ length longer)
round R a rest h back zero = ([], tt, omega arith)
round R a rest h back (suc n) =
    let e = round R a rest h back n in
    let size : length (rest ++ a ∷ e.0) ≡ length rest + length (a ∷ e.0) = length-append rest (a ∷ e.0) in
    (rest ++ a ∷ e.0, chain-append R a rest a e.0 h back e.1, omega (arith, e.2, size))

-- a commit on a cycle has them
pub cycle_endless : {Id : Type 0} (R : Id → Id → Type 0) (a b : Id) → Reaches R a b → R b a → IsEndless R a
cycle_endless R a b r back = round R a r.rest r.chain (subst (λ x. R x a) (sym r.ends) back)

-- then there is no greatest length
pub endless_none : {Id : Type 0} (R : Id → Id → Type 0) (c : Id) → IsEndless R c → HasNoGeneration R c
endless_none R c h = λ n g. let e = h n in let most = g.greatest e.0 e.1 in omega (arith, e.2, most)
