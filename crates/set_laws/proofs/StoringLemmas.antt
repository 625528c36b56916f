-- What an accepted set has to be kept leaves each channel's cache sound.
use Rattle.std.proofs.Common.{◌≡◌, ◌≢◌, ℕ, List, [], ◌∷◌, ◌++◌, Option, Some, None, Ok, Err, refl, sym, ap, subst, ◌∙◌}
use Rattle.std.specs.Prelude.{Result, IfSome, flat_map}
use Rattle.std.specs.FinMap as map
use Rattle.std.specs.List.{AllByRecursion}
use Rattle.child_ports.specs.Keeper.{Kept, with_pairs}
use Rattle.child_ports.specs.declared.git.GitRow.{GitRow}
use Rattle.child_ports.specs.declared.keeper.Pair.{Pair}
use Rattle.child_ports.specs.declared.sig.SigRow.{SigRow}
use Rattle.channel_file.specs.declared.channel.Channel.{Channel}
use Rattle.channel_file.specs.declared.channel.Introduction.{Introduction}
use Rattle.auth_engine.specs.Outcome.{IsOutcome}
use Rattle.auth_engine.specs.SoundCache.{IsSoundCache}
use Rattle.auth_engine.specs.Starting.{scope_of, world_in}
use Rattle.auth_engine.specs.declared.engine_fail.EngineFail.{EngineFail}
use Rattle.auth_engine.specs.declared.task.Task.{Task}
use Rattle.auth_engine.specs.declared.task.Verdict.{Verdict}
use Rattle.auth_engine.proofs.StoredLemmas.{accepted, store_is, stored_sound}
use Rattle.channel_deps.specs.Outcome.{cache_pairs, deployed_pairs, stored_pairs, taken_as, IsTakenAs, AreTakenAs}
use Rattle.channel_deps.specs.Outside.{Outside}
use Rattle.channel_deps.specs.Places.{task_of, cache_key}
use Rattle.channel_deps.specs.Standings.{introduction_for, standing_of, checked_as, IsChecked, HasSound}
use Rattle.channel_deps.specs.declared.known.Checked.{Checked}
use Rattle.channel_deps.specs.declared.known.Known.{Known}
use Rattle.channel_deps.specs.declared.known.Taken.{Taken}
use Rattle.channel_deps.specs.declared.set.Move.{Move}
use Rattle.channel_deps.specs.declared.set.Move.TheVariants as move
use Rattle.channel_deps.specs.declared.set.SetTask.{SetTask}
use Rattle.channel_deps.specs.declared.set.Standing.TheVariants.{Unchecked}
use Rattle.channel_deps.specs.declared.set_fail.SetFail.{SetFail}
use Rattle.set_laws.proofs.ApartLemmas.{Differ}
use Rattle.set_laws.proofs.FoundLemmas.{IsFound, found_of}
use Rattle.set_laws.proofs.KeptLemmas.{LeaveKey, leave_both, found_before, found_put, same_name, other_kind}

-- ---- the pair of one check

-- it has the task's key, whatever is kept
pub stored_key : (rows : List GitRow) (sigs : List SigRow) (task : Task) (kept : Option (List ℕ)) (verdict : Verdict) → IsOutcome rows sigs task kept (Ok verdict)
    → IfSome verdict.store (λ pair. pair.key ≡ task.cache_key)
stored_key rows sigs task kept verdict outcome = by_store verdict.store refl
  where
    by_store : (store : Option Pair) → verdict.store ≡ store → IfSome store (λ pair. pair.key ≡ task.cache_key)
    by_store None is = tt
    by_store (Some pair) is =
        let behind = accepted rows sigs task kept verdict outcome in
        let put = store_is (world_in rows sigs task behind.start.ring) task behind.start behind.entries verdict pair behind.found.1 is in
        ap (λ (p : Pair). p.key) put.0

-- the verdict's pair is what is to be kept of a check
same_cache : (channel : Channel) (check : Checked) (verdict : Verdict) → ◌≡◌ {A = Result Checked SetFail} (Ok check) (checked_as channel (Ok verdict)) → verdict.store ≡ check.cache
same_cache channel check verdict is =
    let same : check ≡ record { standing = standing_of verdict.older; cache = verdict.store } = cc in
    ap (λ (c : Checked). c.cache) (sym same)

no_cache : (check : Checked) → ◌≡◌ {A = Result Checked SetFail} (Ok check) (Ok (record { standing = Unchecked; cache = None })) → None ≡ check.cache
no_cache check is =
    let same : check ≡ record { standing = Unchecked; cache = None } = cc in
    ap (λ (c : Checked). c.cache) (sym same)

-- what is found at the key of a cache, once its pair was put
abbrev pub after_cache : Option Pair → Option (List ℕ) → Option (List ℕ)
after_cache None kept = kept
after_cache (Some pair) kept = Some pair.value

module _ (o : Outside) (s : SetTask) (channel : Channel) (known : Known) where
  pub key_by : (introduction : Option Introduction) (check : Checked) → IsChecked o s channel known introduction (Ok check) → IfSome check.cache (λ pair. pair.key ≡ cache_key channel)
  key_by None check is = subst (λ (cache : Option Pair). IfSome cache (λ pair. pair.key ≡ cache_key channel)) (no_cache check is) tt
  key_by (Some introduction) check is = by_verdict is.0 is.1 is.2
    where
      by_verdict : (result : Result Verdict EngineFail)
          → IsOutcome o.answers o.verdicts (task_of s.clones channel introduction known.metadata.keyring_reference known.target) (map.get o.kept (cache_key channel)) result
          → Ok check ≡ checked_as channel result → IfSome check.cache (λ pair. pair.key ≡ cache_key channel)
      by_verdict (Ok verdict) outcome same = subst (λ (cache : Option Pair). IfSome cache (λ pair. pair.key ≡ cache_key channel)) (same_cache channel check verdict same)
          (stored_key o.answers o.verdicts (task_of s.clones channel introduction known.metadata.keyring_reference known.target) (map.get o.kept (cache_key channel)) verdict outcome)
      by_verdict (Err e) outcome same = absurd (cc)

  module _ (introduction : Introduction) where
    abbrev task : Task
    task = task_of s.clones channel introduction known.metadata.keyring_reference known.target

    by_pair : (cache : Option Pair) → IfSome cache (λ pair. (pair.key ≡ cache_key channel) × IsSoundCache o.answers o.verdicts task (Some pair.value)) → IsSoundCache o.answers o.verdicts task (map.get o.kept (cache_key channel))
        → IsSoundCache o.answers o.verdicts task (after_cache cache (map.get o.kept (cache_key channel)))
    by_pair None pair sound = sound
    by_pair (Some pair) put sound = put.1

    pub sound_behind : (check : Checked) → HasSound o s channel known (Some introduction) → IsChecked o s channel known (Some introduction) (Ok check)
        → IsSoundCache o.answers o.verdicts task (after_cache check.cache (map.get o.kept (cache_key channel)))
    sound_behind check sound is = by_verdict is.0 is.1 is.2
      where
        by_verdict : (result : Result Verdict EngineFail) → IsOutcome o.answers o.verdicts task (map.get o.kept (cache_key channel)) result → Ok check ≡ checked_as channel result
            → IsSoundCache o.answers o.verdicts task (after_cache check.cache (map.get o.kept (cache_key channel)))
        by_verdict (Ok verdict) outcome same = subst (λ (cache : Option Pair). IsSoundCache o.answers o.verdicts task (after_cache cache (map.get o.kept (cache_key channel)))) (same_cache channel check verdict same)
            (by_pair verdict.store (stored_sound o.answers o.verdicts task (map.get o.kept (cache_key channel)) verdict sound outcome) sound)
        by_verdict (Err e) outcome same = absurd (cc)

-- ---- pairs of other channels

module _ (channel other : Channel) (differ : Differ channel other) where
  leave_cache : (cache : Option Pair) → IfSome cache (λ pair. pair.key ≡ cache_key other) → LeaveKey (cache_key channel) (cache_pairs cache)
  leave_cache None is = tt
  leave_cache (Some pair) is = ((λ same. differ (same_name channel.name other.name (same ∙ is))), tt)

-- the record of a deployed commit has another key than any cache
pub leave_deployed : (channel other : Channel) (moved : Move) (target : List ℕ) → LeaveKey (cache_key channel) (deployed_pairs other moved target)
leave_deployed channel other move.Same target = tt
leave_deployed channel other moved target = ((λ same. other_kind channel.name other.name same), tt)

pub store_of : (channel : Channel) (t : Taken) (known : Known) (check : Checked) (to : Move) → t ≡ taken_as channel known check to → t.store ≡ stored_pairs channel check.cache to known.target
store_of channel t known check to is = ap (λ (x : Taken). x.store) is

module _ (o : Outside) (s : SetTask) (channel : Channel) where
  leave_one : (other : Channel) (t : Taken) → Differ channel other → IsTakenAs o s other (Ok t) → LeaveKey (cache_key channel) t.store
  leave_one other t differ is =
      let found = found_of o s other t is in
      subst (λ (pairs : List Pair). LeaveKey (cache_key channel) pairs) (sym (store_of other t found.known found.check found.to found.is))
      (leave_both (cache_key channel) (cache_pairs found.check.cache) (deployed_pairs other found.to found.known.target)
      (leave_cache channel other differ found.check.cache (key_by o s other found.known (introduction_for s other) found.check found.checked))
      (leave_deployed channel other found.to found.known.target))

  pub leave_all : (others : List Channel) (taken : List Taken) → AllByRecursion (λ (d : Channel). Differ channel d) others → AreTakenAs o s others taken → LeaveKey (cache_key channel) (flat_map (λ (t : Taken). t.store) taken)
  leave_all [] [] apart all = tt
  leave_all [] (t ∷ taken) apart all = absurd all
  leave_all (d ∷ others) [] apart all = absurd all
  leave_all (d ∷ others) (t ∷ taken) apart all =
      leave_both (cache_key channel) t.store (flat_map (λ (x : Taken). x.store) taken) (leave_one d t apart.0 all.0) (leave_all others taken apart.1 all.1)

-- ---- what is found once all pairs were put

pub after_pairs : (kept : Kept) (key : List ℕ) (cache : Option Pair) (front more back : List Pair) → IfSome cache (λ pair. pair.key ≡ key) → LeaveKey key front → LeaveKey key more → LeaveKey key back
    → map.get (with_pairs kept (front ++ ((cache_pairs cache ++ more) ++ back))) key ≡ after_cache cache (map.get kept key)
after_pairs kept key None front more back is first own last = found_before kept (front ++ (more ++ back)) key (leave_both key front (more ++ back) first (leave_both key more back own last))
after_pairs kept key (Some pair) front more back is first own last = found_put kept front pair (more ++ back) key (sym is) (leave_both key more back own last)
