-- What a run puts, and how often the store is called.
use Rattle.std.proofs.Common.{◌≡◌, ◌≢◌, ◌⊎◌, inl, inr, ℕ, Result, Ok, Err, sym, ◌∙◌, subst, arith}
use Rattle.std.specs.Prelude.{MatchResult}
use Rattle.child_ports.specs.Keeper.{Kept}
use Rattle.child_ports.specs.KeySet.{Keys}
use Rattle.auth_engine.specs.declared.task.Verdict.{Verdict}
use Rattle.auth_engine.specs.Outcome.{IsVerdictOver}
use Rattle.auth_report.specs.declared.files.FileFail.{FileFail}
use Rattle.auth_words.specs.declared.plan.Plan.{Plan}
use Rattle.run_answers.specs.Ended.{StoresOnce}
use Rattle.channel_deps.specs.Outside.{Outside}
use Rattle.authenticate_run.specs.Answers.{pairs_of}
use Rattle.authenticate_run.specs.Outside.{task_for, cache_in, historical_of}
use Rattle.authenticate_run.specs.Run.{KeepsOrPuts, PutsFor, StoresVerdict, StoresFor}

module _ (o : Outside) (plan : Plan) (keys : Keys) (status : ℕ) where
  -- a verdict was ended
  pub ended_stored : (before mid now : ℕ) (verdict : Verdict) → IsVerdictOver o.answers o.verdicts (task_for plan keys) (cache_in o.kept plan) verdict
      → mid ≡ before → StoresOnce (pairs_of verdict.store) mid now ⊎ ((now ≡ mid) × (status ≡ 6)) → StoresVerdict o plan keys status before now
  ended_stored before mid now verdict over same (inl once) = inr (verdict, over, subst (λ (n : ℕ). StoresOnce (pairs_of verdict.store) n now) same once)
  ended_stored before mid now verdict over same (inr none) = inl (none.0 ∙ same, λ zero. absurd (omega (arith, zero, none.1)))

module _ (o : Outside) (files : Kept) (plan : Plan) where
  -- the file of a plan gave keys
  module _ (keys : Keys) (is : historical_of files plan ≡ Ok keys) where
    pub task_puts : (after : Kept) → KeepsOrPuts o plan keys after → PutsFor o files plan after
    task_puts after puts = subst (λ (r : Result Keys FileFail). MatchResult r (λ keys. KeepsOrPuts o plan keys after) (λ _. after ≡ o.kept)) (sym is) puts

    pub task_stores : (status before now : ℕ) → StoresVerdict o plan keys status before now → StoresFor o files plan status before now
    task_stores status before now stores =
        subst (λ (r : Result Keys FileFail). MatchResult r (λ keys. StoresVerdict o plan keys status before now) (λ _. now ≡ before)) (sym is) stores

  -- it gave none, or wasn't read
  pub no_puts : (after : Kept) → after ≡ o.kept → PutsFor o files plan after
  no_puts after same = by_keys (historical_of files plan)
    where
      by_keys : (r : Result Keys FileFail) → MatchResult r (λ keys. KeepsOrPuts o plan keys after) (λ _. after ≡ o.kept)
      by_keys (Ok keys) = inl same
      by_keys (Err fail) = same

  pub no_stores : (status before now : ℕ) → now ≡ before → status ≢ 0 → StoresFor o files plan status before now
  no_stores status before now same own = by_keys (historical_of files plan)
    where
      by_keys : (r : Result Keys FileFail) → MatchResult r (λ keys. StoresVerdict o plan keys status before now) (λ _. now ≡ before)
      by_keys (Ok keys) = inl (same, own)
      by_keys (Err fail) = same
