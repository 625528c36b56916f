-- What an accepted verdict has to be kept is a sound cache, and what is found without a cache.
use Rattle.std.proofs.Common.{◌≡◌, ◌≢◌, inr, ℕ, List, [], Option, Some, None, Result, Ok, Err, refl, sym, ap, ◌∙◌, subst, arith}
use Rattle.std.specs.Prelude.{◌↔◌, All, IsTrue, IfOk, IfSome, MatchResult}
use Rattle.child_ports.specs.declared.git.GitRow.{GitRow}
use Rattle.child_ports.specs.declared.keeper.Pair.{Pair}
use Rattle.child_ports.specs.declared.sig.SigRow.{SigRow}
use Rattle.child_ports.specs.KeySet.{Keys}
use Rattle.authorizations.specs.declared.scope.Scope.{Scope}
use Rattle.auth_cache.specs.declared.fail.CacheFail.{CacheFail}
use Rattle.auth_cache.specs.Entries.{with_id}
use Rattle.auth_cache.specs.Found.{CanBeRecorded}
use Rattle.auth_cache.specs.Text.{text_of}
use Rattle.auth_cache.proofs.CacheLemmas.{cache_same}
use Rattle.auth_cache.proofs.EntryLemmas.{All-with_id}
use Rattle.keyring_branch.specs.declared.keyring.Keyring.{Keyring as Ring}
use Rattle.commit_graph.specs.Chains.{Reaches}
use Rattle.auth_rules.specs.World.{World, Id}
use Rattle.commit_history.specs.Members.{history}
use Rattle.auth_engine.specs.declared.task.Task.{Task}
use Rattle.auth_engine.specs.declared.task.Verdict.{Verdict}
use Rattle.auth_engine.specs.declared.starting.Start.{Start}
use Rattle.auth_engine.specs.declared.engine_fail.EngineFail.{EngineFail}
use Rattle.auth_engine.specs.declared.engine_fail.EngineFail.TheVariants.{Name, Keyring, Cache, TooMany, Object as OfObject, Cycle, Intro, Unrelated, Commit, GitFault, SigFault, KeepFault, Memory}
use Rattle.auth_engine.specs.Outcome.{pair_of, IsVerdict, IsFinding, IsOutcome, HasAuthenticTarget}
use Rattle.auth_engine.specs.SoundCache.{IsSoundEntry, IsSoundValue, IsSoundCache}
use Rattle.auth_engine.specs.Starting.{start_of, scope_of, world_in, entries_of}
use Rattle.auth_engine.proofs.OutcomeLemmas.{FindsUnder, ring_behind, sound_or_none, entries_sound, accepted_authentic}

-- ---- what stands behind an accepted outcome

pub record Accepted (rows : List GitRow) (sigs : List SigRow) (task : Task) (kept : Option (List ℕ)) (verdict : Verdict) : Type 0 where
  pub start : Start
  pub begins : start_of rows task ≡ Ok start
  pub entries : List Id
  pub cached : entries_of (scope_of task start.ring) kept ≡ Ok entries
  pub found : IsFinding (world_in rows sigs task start.ring) task start entries (Ok verdict)

pub accepted : (rows : List GitRow) (sigs : List SigRow) (task : Task) (kept : Option (List ℕ)) (verdict : Verdict) → IsOutcome rows sigs task kept (Ok verdict) → Accepted rows sigs task kept verdict
accepted rows sigs task kept verdict outcome = by_start (start_of rows task) refl outcome
  where
    by_entries : (start : Start) → start_of rows task ≡ Ok start → (c : Result (List Id) CacheFail) → entries_of (scope_of task start.ring) kept ≡ c
        → MatchResult c (λ entries. IsFinding (world_in rows sigs task start.ring) task start entries (Ok verdict)) (λ fail. ◌≡◌ {A = Result Verdict EngineFail} (Ok verdict) (Err (Cache fail)))
        → Accepted rows sigs task kept verdict
    by_entries start begins (Ok entries) cached found = record { start = start; begins = begins; entries = entries; cached = cached; found = found }
    by_entries start begins (Err fail) cached found = grind (arith, found)

    by_start : (s : Result Start EngineFail) → start_of rows task ≡ s
        → MatchResult s (FindsUnder rows sigs task kept (Ok verdict)) (λ fail. ◌≡◌ {A = Result Verdict EngineFail} (Ok verdict) (Err fail))
        → Accepted rows sigs task kept verdict
    by_start (Ok start) begins finding = by_entries start begins (entries_of (scope_of task start.ring) kept) refl finding
    by_start (Err fail) begins finding = grind (arith, finding)

-- ---- what is to be kept

some_same : {A : Type 0} {x y : A} → ◌≡◌ {A = Option A} (Some x) (Some y) → x ≡ y
some_same e = cc

some_none : {A : Type 0} {o : Option A} {x : A} → o ≡ None → o ≡ Some x → ⊥
some_none e h = cc

-- it is the target before the entries that were read, and they can be recorded
pub store_is : (w : World) (task : Task) (start : Start) (entries : List Id) (verdict : Verdict) (pair : Pair) → IsVerdict w task start entries verdict → verdict.store ≡ Some pair
    → (pair ≡ pair_of task (scope_of task start.ring) start.target entries) × CanBeRecorded (scope_of task start.ring) (with_id start.target entries)
store_is w task start entries verdict pair is e = (
  some_same (sym e ∙ is.stored (λ covered. some_none (is.covered covered) e)),
  subst (λ (o : Option Pair). IfSome o (λ _. CanBeRecorded (scope_of task start.ring) (with_id start.target entries))) e is.recorded,
)

-- a text of sound entries is sound
pub text_sound : (w : World) (s : Scope) (keys : Keys) (ids : List Id) → CanBeRecorded s ids → All (IsSoundEntry w s keys) ids → IsSoundValue w s keys (Some (text_of s ids))
text_sound w s keys ids is all = subst (λ (c : Result (List Id) CacheFail). MatchResult c (All (IsSoundEntry w s keys)) (λ _. ⊥)) (sym (cache_same s ids is)) all

pub stored_sound : (rows : List GitRow) (sigs : List SigRow) (task : Task) (kept : Option (List ℕ)) (verdict : Verdict)
    → IsSoundCache rows sigs task kept → IsOutcome rows sigs task kept (Ok verdict)
    → IfSome verdict.store (λ pair. (pair.key ≡ task.cache_key) × IsSoundCache rows sigs task (Some pair.value))
stored_sound rows sigs task kept verdict sound outcome = by_store verdict.store refl
  where
    by_store : (o : Option Pair) → verdict.store ≡ o → IfSome o (λ pair. (pair.key ≡ task.cache_key) × IsSoundCache rows sigs task (Some pair.value))
    by_store None e = tt
    by_store (Some pair) e =
        let behind = accepted rows sigs task kept verdict outcome in
        let start = behind.start in
        let w = world_in rows sigs task start.ring in
        let s = scope_of task start.ring in
        let store = store_is w task start behind.entries verdict pair behind.found.1 e in
        let old = entries_sound rows sigs task kept start behind.entries (sym behind.begins) (sym behind.cached) (sound_or_none rows sigs task kept sound) in
        let all = All-with_id (IsSoundEntry w s start.ring.keys) start.target behind.entries (inr behind.found.0) old in
        let value : IsSoundValue w s start.ring.keys (Some pair.value) =
        subst (λ (p : Pair). IsSoundValue w s start.ring.keys (Some p.value)) (sym store.0) (text_sound w s start.ring.keys (with_id start.target behind.entries) store.1 all) in (
          ap (λ (p : Pair). p.key) store.0,
          subst (λ (r : Result Ring EngineFail). IfOk r (λ ring. IsSoundValue (world_in rows sigs task ring) (scope_of task ring) ring.keys (Some pair.value))) (sym (ring_behind rows task start behind.begins)) value,
        )

-- ---- without a cache

-- no refusal by the history speaks of entries
refusal_stays : (w : World) (task : Task) (start : Start) (entries : List Id) (fail : EngineFail) → IsFinding w task start entries (Err fail) → IsFinding w task start [] (Err fail)
refusal_stays w task start entries TooMany finding = finding
refusal_stays w task start entries (OfObject id why) finding = finding
refusal_stays w task start entries (Cycle id) finding = finding
refusal_stays w task start entries (Intro id why) finding = finding
refusal_stays w task start entries (Unrelated target intro) finding = finding
refusal_stays w task start entries (Commit id why) finding = finding
refusal_stays w task start entries (Name which why) finding = finding
refusal_stays w task start entries (Keyring why) finding = finding
refusal_stays w task start entries (Cache why) finding = finding
refusal_stays w task start entries GitFault finding = finding
refusal_stays w task start entries SigFault finding = finding
refusal_stays w task start entries KeepFault finding = finding
refusal_stays w task start entries Memory finding = finding

pub refusal_uncached : (rows : List GitRow) (sigs : List SigRow) (task : Task) (kept : Option (List ℕ)) (fail : EngineFail) → IsOutcome rows sigs task kept (Err fail)
    → ((why : CacheFail) → fail ≢ Cache why) → IsOutcome rows sigs task None (Err fail)
refusal_uncached rows sigs task kept fail outcome other = by_start (start_of rows task) outcome
  where
    same_fail : (why : CacheFail) → ◌≡◌ {A = Result Verdict EngineFail} (Err fail) (Err (Cache why)) → fail ≡ Cache why
    same_fail why e = cc

    by_entries : (start : Start) (c : Result (List Id) CacheFail)
        → MatchResult c (λ entries. IsFinding (world_in rows sigs task start.ring) task start entries (Err fail)) (λ why. ◌≡◌ {A = Result Verdict EngineFail} (Err fail) (Err (Cache why)))
        → IsFinding (world_in rows sigs task start.ring) task start [] (Err fail)
    by_entries start (Ok entries) finding = refusal_stays (world_in rows sigs task start.ring) task start entries fail finding
    by_entries start (Err why) finding = absurd (other why (same_fail why finding))

    by_start : (s : Result Start EngineFail)
        → MatchResult s (FindsUnder rows sigs task kept (Err fail)) (λ why. ◌≡◌ {A = Result Verdict EngineFail} (Err fail) (Err why))
        → MatchResult s (FindsUnder rows sigs task None (Err fail)) (λ why. ◌≡◌ {A = Result Verdict EngineFail} (Err fail) (Err why))
    by_start (Ok start) finding = by_entries start (entries_of (scope_of task start.ring) kept) finding
    by_start (Err why) finding = finding

pub acceptance_uncached : (rows : List GitRow) (sigs : List SigRow) (task : Task) (kept : Option (List ℕ)) (verdict : Verdict) → IsOutcome rows sigs task kept (Ok verdict)
    → (start : Start) → start_of rows task ≡ Ok start
    → (verdict.target ≡ start.target)
    × (IsTrue verdict.older ↔ (Reaches (history (world_in rows sigs task start.ring)) task.intro start.target × (start.target ≢ task.intro)))
    × HasAuthenticTarget rows sigs task
acceptance_uncached rows sigs task kept verdict outcome start begins =
    let behind = accepted rows sigs task kept verdict outcome in
    let same : behind.start ≡ start = same_start (sym behind.begins ∙ begins) in
    let told = subst (λ (st : Start). (verdict.target ≡ st.target)
    × (IsTrue verdict.older ↔ (Reaches (history (world_in rows sigs task st.ring)) task.intro st.target × (st.target ≢ task.intro)))) same (behind.found.1.target, behind.found.1.older) in
    (told.0, told.1, accepted_authentic rows sigs task kept verdict outcome)
  where
    same_start : {x y : Start} → ◌≡◌ {A = Result Start EngineFail} (Ok x) (Ok y) → x ≡ y
    same_start e = cc
