-- Small tallies, counted by hand.
use Rattle.std.proofs.Common.{◌≡◌, ℕ, List, [], ◌∷◌, zero, suc, refl, ap, inl, inr, ⊎_elim, arith, Contains}
use Rattle.child_ports.specs.declared.fingerprint.Fingerprint.{Fingerprint}
use Rattle.auth_engine.specs.Tally.{IsTally, RanksAbove, count_of}
use Rattle.auth_engine.specs.declared.task.Signer.{Signer}

abbrev key : ℕ → Fingerprint
key n = record { 0 = n ∷ [] }

abbrev row : ℕ → ℕ → Signer
row k n = record { key = key k; commits = n }

abbrev signers : List Fingerprint
signers = key 1 ∷ key 2 ∷ key 1 ∷ []

a_key_counts_each_time : count_of signers (key 1) ≡ 2
a_key_counts_each_time = refl

another_key_does_not_count : count_of signers (key 3) ≡ 0
another_key_does_not_count = refl

more_commits_rank_above : RanksAbove (row 2 5) (row 1 4)
more_commits_rank_above = inl (omega arith)

as_many_rank_by_key : RanksAbove (row 1 4) (row 2 4)
as_many_rank_by_key = inr (refl, refl)

no_key_is_left_out : IsTally signers (row 1 2 ∷ []) → ⊥
no_key_is_left_out tally = by ((tally.counts (key 2) 1).1 (omega arith, refl))
  where
    by : Contains (row 1 2 ∷ []) (row 2 1) → ⊥
    by (zero, low, at) = let same : 2 ≡ 1 = ap (λ (r : Signer). r.commits) at in omega (arith, same)
    by (suc k, low, at) = omega (arith, low)

the_order_is_descending : IsTally signers (row 2 1 ∷ row 1 2 ∷ []) → ⊥
the_order_is_descending tally = ⊎_elim (λ more. omega (arith, more)) (λ as_many. omega (arith, as_many.0)) (tally.ordered 0 1 (row 1 0) (omega arith) (omega arith))
