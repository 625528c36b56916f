-- What a run of a list puts, how often the store is called, and the questions.
use Rattle.std.proofs.Common.{◌≡◌, ◌≢◌, ◌⊎◌, inl, inr, ℕ, List, Result, Ok, Err, refl, sym, ◌∙◌, subst, arith}
use Rattle.std.specs.Prelude.{IsOk, MatchResult}
use Rattle.child_ports.specs.Keeper.{Kept}
use Rattle.auth_words.specs.declared.plan.ChannelsPlan.{ChannelsPlan}
use Rattle.channel_file.specs.declared.channel.Channel.{Channel}
use Rattle.channel_deps.specs.declared.set.SetTask.{SetTask}
use Rattle.channel_deps.specs.declared.set.SetVerdict.{SetVerdict}
use Rattle.channel_deps.specs.Outside.{Outside}
use Rattle.channel_deps.specs.Over.{IsSetVerdictOver}
use Rattle.run_answers.specs.Ended.{StoresOnce}
use Rattle.channels_run.specs.declared.listing.ListFail.{ListFail}
use Rattle.channels_run.specs.Answers.{set_for, KeepsOrPutsAll, SetPutsFor, StoresSetVerdict, SetStoresFor, AsksSetAsTold, SetAsksFor}
use Rattle.channels_run.specs.Listing.{list_of}

-- a verdict was ended
pub ended_stored : (o : Outside) (s : SetTask) (status before mid now : ℕ) (verdict : SetVerdict) → IsSetVerdictOver o s verdict
    → mid ≡ before → StoresOnce verdict.store mid now ⊎ ((now ≡ mid) × (status ≡ 6)) → StoresSetVerdict o s status before now
ended_stored o s status before mid now verdict over same (inl once) = inr (verdict, over, subst (λ (n : ℕ). StoresOnce verdict.store n now) same once)
ended_stored o s status before mid now verdict over same (inr none) = inl (none.0 ∙ same, λ zero. absurd (omega (arith, zero, none.1)))

module _ (o : Outside) (files : Kept) (plan : ChannelsPlan) where
  -- the file of a plan gave channels
  module _ (channels : List Channel) (is : list_of files plan ≡ Ok channels) where
    pub set_puts : (after : Kept) → KeepsOrPutsAll o (set_for plan channels) after → SetPutsFor o files plan after
    set_puts after puts = subst (λ (r : Result (List Channel) ListFail). MatchResult r (λ channels. KeepsOrPutsAll o (set_for plan channels) after) (λ _. after ≡ o.kept)) (sym is) puts

    pub set_stores : (status before now : ℕ) → StoresSetVerdict o (set_for plan channels) status before now → SetStoresFor o files plan status before now
    set_stores status before now stores =
        subst (λ (r : Result (List Channel) ListFail). MatchResult r (λ channels. StoresSetVerdict o (set_for plan channels) status before now) (λ _. now ≡ before)) (sym is) stores

    pub set_asks : (status before now : ℕ) → AsksSetAsTold o (set_for plan channels) status before now → SetAsksFor o files plan status before now
    set_asks status before now asks =
        subst (λ (r : Result (List Channel) ListFail). MatchResult r (λ channels. AsksSetAsTold o (set_for plan channels) status before now ⊎ ((now ≡ before) × ((status ≡ 5) ⊎ (status ≡ 6)))) (λ _. now ≡ before)) (sym is)
        (inl asks)

  -- it gave none, or wasn't read
  pub no_set_puts : (after : Kept) → after ≡ o.kept → SetPutsFor o files plan after
  no_set_puts after same = by_list (list_of files plan)
    where
      by_list : (r : Result (List Channel) ListFail) → MatchResult r (λ channels. KeepsOrPutsAll o (set_for plan channels) after) (λ _. after ≡ o.kept)
      by_list (Ok channels) = inl same
      by_list (Err fail) = same

  pub no_set_stores : (status before now : ℕ) → now ≡ before → status ≢ 0 → SetStoresFor o files plan status before now
  no_set_stores status before now same own = by_list (list_of files plan)
    where
      by_list : (r : Result (List Channel) ListFail) → MatchResult r (λ channels. StoresSetVerdict o (set_for plan channels) status before now) (λ _. now ≡ before)
      by_list (Ok channels) = inl (same, own)
      by_list (Err fail) = same

  pub no_set_asks : (status before now : ℕ) → now ≡ before → (IsOk (list_of files plan) → (status ≡ 5) ⊎ (status ≡ 6)) → SetAsksFor o files plan status before now
  no_set_asks status before now same given = by_list (list_of files plan) given
    where
      by_list : (r : Result (List Channel) ListFail) → (IsOk r → (status ≡ 5) ⊎ (status ≡ 6))
          → MatchResult r (λ channels. AsksSetAsTold o (set_for plan channels) status before now ⊎ ((now ≡ before) × ((status ≡ 5) ⊎ (status ≡ 6)))) (λ _. now ≡ before)
      by_list (Ok channels) stops = inr (same, stops refl)
      by_list (Err fail) stops = same
