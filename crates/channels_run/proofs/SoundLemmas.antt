-- Over sound caches a set that has a verdict is accepted, and they stay sound.
use Rattle.std.proofs.Common.{◌≡◌, ◌⊎◌, inl, inr, ℕ, List, Ok, Err, refl, sym, subst}
use Rattle.std.specs.Prelude.{Result, IsOk}
use Rattle.child_ports.specs.Keeper.{Kept}
use Rattle.auth_words.specs.declared.plan.ChannelsPlan.{ChannelsPlan}
use Rattle.channel_file.specs.Limits.{AreListed}
use Rattle.channel_file.specs.declared.channel.Channel.{Channel}
use Rattle.channel_deps.specs.Answers.{OnFinding, IsPlainFail}
use Rattle.channel_deps.specs.Outcome.{IsSetOutcome, AreSoundOrNone, HasSoundCaches}
use Rattle.channel_deps.specs.Outside.{Outside, outside}
use Rattle.channel_deps.specs.declared.set.SetTask.{SetTask}
use Rattle.channel_deps.specs.declared.set.SetVerdict.{SetVerdict}
use Rattle.channel_deps.specs.declared.set_fail.SetFail.{SetFail}
use Rattle.channel_deps.specs.declared.set_fail.SetFail.TheVariants.{GitFault, SigFault, KeepFault, Memory}
use Rattle.channel_deps.proofs.LawLemmas.{caches_sound}
use Rattle.set_laws.proofs.SoundLemmas.{stored_set_sound}
use Rattle.set_laws.proofs.TellingLemmas.{never_fails}
use Rattle.channels_run.specs.declared.listing.ListFail.{ListFail}
use Rattle.channels_run.specs.Answers.{set_for, set_status, HasSetVerdict, IsAcceptedSet, KeepsOrStoresAll}
use Rattle.channels_run.specs.Listing.{list_of}

-- 0, but for a fault and want of memory
abbrev pub IsAccepting : ℕ → Type 0
IsAccepting status = (status ≡ 0) ⊎ (status ≡ 4) ⊎ (status ≡ 5) ⊎ (status ≡ 6)

pub refused_complete : (o : Outside) (s : SetTask) (fail : SetFail) (status : ℕ) → IsPlainFail fail → HasSoundCaches o s → HasSetVerdict o s
    → OnFinding {T = SetVerdict} (Err fail) (IsSetOutcome o s (Err fail)) → (status ≡ set_status fail) ⊎ (status ≡ 6) → IsAccepting status
refused_complete o s fail status plain sound has outcome (inr e) = inr (inr (inr e))
refused_complete o s GitFault status plain sound has outcome (inl e) = inr (inl e)
refused_complete o s SigFault status plain sound has outcome (inl e) = inr (inl e)
refused_complete o s KeepFault status plain sound has outcome (inl e) = inr (inr (inl e))
refused_complete o s Memory status plain sound has outcome (inl e) = inr (inr (inr e))
refused_complete o s fail status plain sound has outcome (inl e) = absurd (never_fails o s has.0 has.1 sound fail outcome)

pub accepted_complete : (status : ℕ) → (status ≡ 0) ⊎ (status ≡ 5) ⊎ (status ≡ 6) → IsAccepting status
accepted_complete status (inl e) = inl e
accepted_complete status (inr (inl e)) = inr (inr (inl e))
accepted_complete status (inr (inr e)) = inr (inr (inr e))

pub memory_complete : (status : ℕ) → (status ≡ set_status Memory) ⊎ (status ≡ 6) → IsAccepting status
memory_complete status (inl e) = inr (inr (inr e))
memory_complete status (inr e) = inr (inr (inr e))

unread_complete : (status : ℕ) → (status ≡ 5) ⊎ (status ≡ 6) → IsAccepting status
unread_complete status (inl e) = inr (inr (inl e))
unread_complete status (inr e) = inr (inr (inr e))

same_channels : (r : Result (List Channel) ListFail) (a b : List Channel) → r ≡ Ok a → r ≡ Ok b → a ≡ b
same_channels r a b is also = cc

module _ (o : Outside) (files : Kept) (plan : ChannelsPlan) (accepted : IsAcceptedSet o files plan) (status : ℕ) where
  pub set_complete : (channels : List Channel) → list_of files plan ≡ Ok channels → (HasSetVerdict o (set_for plan channels) → IsAccepting status) → IsAccepting status
  set_complete channels is complete =
      complete (subst (λ (cs : List Channel). HasSetVerdict o (set_for plan cs)) (same_channels (list_of files plan) accepted.0 channels accepted.1 is) accepted.2)

  pub list_complete : (IsOk (list_of files plan) → (status ≡ 5) ⊎ (status ≡ 6)) → IsAccepting status
  list_complete given = unread_complete status (given (subst (λ (r : Result (List Channel) ListFail). IsOk r) (sym accepted.1) refl))

-- ---- the caches behind a run

sound_after : (o : Outside) (s : SetTask) (after : Kept) → AreListed s.channels → HasSoundCaches o s → KeepsOrStoresAll o after s → HasSoundCaches (outside o.answers o.verdicts after) s
sound_after o s after listed sound (inl same) = subst (λ (k : Kept). HasSoundCaches (outside o.answers o.verdicts k) s) (sym same) sound
sound_after o s after listed sound (inr put) = subst (λ (k : Kept). HasSoundCaches (outside o.answers o.verdicts k) s) (sym put.2) (stored_set_sound o s put.0 listed sound put.1)

-- a run that keeps, or stores all of an accepted set, leaves them sound
pub sound_behind : (o : Outside) (s : SetTask) (after : Kept) → AreListed s.channels → (AreSoundOrNone o s → KeepsOrStoresAll o after s) → HasSoundCaches o s → HasSoundCaches (outside o.answers o.verdicts after) s
sound_behind o s after listed keeps sound = sound_after o s after listed sound (keeps (caches_sound o s sound))
