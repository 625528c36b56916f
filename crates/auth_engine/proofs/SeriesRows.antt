-- Small series, followed by hand.
use Rattle.std.proofs.Common.{◌≡◌, inl, inr, [], ◌∷◌, Some, None, Result, Ok, Err, refl, ◌∙◌, subst}
use Rattle.std.specs.Prelude.{MatchResult}
use Rattle.child_ports.specs.declared.keeper.Pair.{Pair}
use Rattle.auth_engine.specs.declared.task.Verdict.{Verdict}
use Rattle.auth_engine.specs.declared.starting.Start.{Start}
use Rattle.auth_engine.specs.declared.engine_fail.EngineFail.{EngineFail}
use Rattle.auth_engine.specs.Outcome.{IsOutcome}
use Rattle.auth_engine.specs.Series.{Check, Leaves, IsSeries}
use Rattle.auth_engine.specs.Starting.{start_of}
use Rattle.auth_engine.proofs.OutcomeLemmas.{FindsUnder}

a_check_may_come_again : (check : Check) → check.kept ≡ None → IsSeries (check ∷ check ∷ [])
a_check_may_come_again check none = (record { dir = refl; objects = λ id limit object found. found; verdicts = λ keyring signature payload given. refl; left = inl refl }, none)

what_is_to_be_kept_is_kept_in_the_next : (check : Check) (verdict : Verdict) (pair : Pair) → check.kept ≡ None → IsOutcome check.answers check.verdicts check.task check.kept (Ok verdict) → verdict.store ≡ Some pair
    → IsSeries (record check { kept = Some pair.value } ∷ check ∷ [])
what_is_to_be_kept_is_kept_in_the_next check verdict pair none outcome store = (
  record { dir = refl; objects = λ id limit object found. found; verdicts = λ keyring signature payload given. refl; left = inr (verdict, pair, outcome, store, refl) },
  none,
)

nothing_is_kept_of_a_check_that_does_not_start : (one next : Check) (fail : EngineFail) → start_of one.answers one.task ≡ Err fail → IsSeries (next ∷ one ∷ []) → next.kept ≡ None
nothing_is_kept_of_a_check_that_does_not_start one next fail refused series = by_left series.0.left
  where
    not_accepted : (verdict : Verdict) → ◌≡◌ {A = Result Verdict EngineFail} (Ok verdict) (Err fail) → ⊥
    not_accepted verdict e = cc

    by_left : Leaves one next.kept → next.kept ≡ None
    by_left (inl same) = same ∙ series.1
    by_left (inr kept) = absurd (not_accepted kept.0
        (subst (λ (s : Result Start EngineFail). MatchResult s (FindsUnder one.answers one.verdicts one.task one.kept (Ok kept.0)) (λ why. ◌≡◌ {A = Result Verdict EngineFail} (Ok kept.0) (Err why))) refused kept.2))
