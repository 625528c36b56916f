-- What is kept in a series of checks is what authentic commits left.
use Rattle.std.proofs.Common.{◌≡◌, ◌⊎◌, inl, inr, ℕ, zero, suc, List, [], ◌∷◌, Option, Some, None, Result, Ok, Err, refl, sym, ap, ◌∙◌, subst, arith}
use Rattle.std.specs.Prelude.{All, Contains, IfOk, MatchResult}
use Rattle.std.specs.Result.{result_map_both}
use Rattle.std.proofs.lemmas.List.Elements.{All-from_recursion}
use Rattle.child_ports.specs.declared.git.GitRow.{GitRow}
use Rattle.child_ports.specs.declared.keeper.Pair.{Pair}
use Rattle.child_ports.specs.Git.{answer}
use Rattle.child_ports.specs.KeySet.{Keys}
use Rattle.object_frames.specs.declared.object.Fetched.TheVariants.{Found}
use Rattle.object_frames.specs.declared.object.Object.{Object}
use Rattle.object_frames.specs.Fetched.{fetched_of}
use Rattle.authorizations.specs.declared.scope.Scope.{Scope}
use Rattle.auth_cache.specs.declared.fail.CacheFail.{CacheFail}
use Rattle.auth_cache.specs.Entries.{with_id}
use Rattle.auth_cache.specs.Found.{CanBeRecorded}
use Rattle.auth_cache.specs.Reading.{cache_of}
use Rattle.auth_cache.specs.Text.{text_of}
use Rattle.auth_cache.proofs.CacheLemmas.{cache_same, cache_under}
use Rattle.auth_cache.proofs.EntryLemmas.{All-with_id}
use Rattle.keyring_branch.specs.declared.keyring.Keyring.{Keyring as Ring}
use Rattle.keyring_branch.specs.declared.keyring_fail.KeyringFail.{KeyringFail}
use Rattle.keyring_branch.specs.KeyringReading.{keyring_of}
use Rattle.auth_engine.proofs.AgainLemmas.{KeepsFiles, same_keyring}
use Rattle.auth_rules.specs.World.{World, Id, world_of}
use Rattle.auth_engine.specs.declared.task.Task.{Task}
use Rattle.auth_engine.specs.declared.task.Verdict.{Verdict}
use Rattle.auth_engine.specs.declared.engine_fail.EngineFail.{EngineFail}
use Rattle.auth_engine.specs.declared.engine_fail.EngineFail.TheVariants.{Keyring}
use Rattle.auth_engine.specs.Authentic.{IsAuthentic}
use Rattle.auth_engine.specs.Growth.{KeepsObjects}
use Rattle.auth_engine.specs.Outcome.{IsOutcome}
use Rattle.auth_engine.specs.Series.{Check, Leaves, Follows, IsSeries, IsFoundIn, HaveOwnIds}
use Rattle.auth_engine.specs.SoundCache.{IsSoundEntry, IsSoundValue, IsSoundCache}
use Rattle.auth_engine.specs.Starting.{ring_of, scope_of, world_in, entries_of}
use Rattle.auth_engine.proofs.GrowthLemmas.{world_grows, authentic_stays}
use Rattle.auth_engine.proofs.OutcomeLemmas.{ring_behind}
use Rattle.auth_engine.proofs.StoredLemmas.{accepted, store_is}

-- ---- checks

abbrev world_at : Check → Ring → World
world_at check ring = world_in check.answers check.verdicts check.task ring

later : {A : Type 0} (x y : A) (xs : List A) → Contains xs y → Contains (x ∷ xs) y
later x y xs has = (suc has.0, (let low = has.1 in omega arith), has.2)

found_later : (check : Check) (checks : List Check) (object : Object) → IsFoundIn checks object → IsFoundIn (check ∷ checks) object
found_later check checks object is = record { check = is.check; listed = later check is.check checks is.listed; name = is.name; limit = is.limit; found = is.found }

own_before : (check : Check) (checks : List Check) → HaveOwnIds (check ∷ checks) → HaveOwnIds checks
own_before check checks own a b is_a is_b same = own a b (found_later check checks a is_a) (found_later check checks b is_b) same

-- what is authentic in a check is so in the next
authentic_next : (one next : Check) → Follows one next → (ring : Ring) (s : Scope) (keys : Keys) (id : Id) → IsAuthentic (world_at one ring) s keys id → IsAuthentic (world_at next ring) s keys id
authentic_next one next follows ring s keys id auth =
    let grows = world_grows one.task.dir one.answers next.answers one.verdicts next.verdicts ring.bytes follows.objects follows.verdicts in
    let there = authentic_stays (world_at one ring) (world_of next.answers one.task.dir next.verdicts ring.bytes) grows s keys id auth in
    subst (λ (dir : List ℕ). IsAuthentic (world_of next.answers dir next.verdicts ring.bytes) s keys id) (sym follows.dir) there

-- the keyring of a task is read by its names
ring_read : (rows : List GitRow) (task : Task) (ring : Ring) → ring_of rows task ≡ Ok ring → keyring_of rows task.dir task.keyring ≡ Ok ring
ring_read rows task ring e = by_read (keyring_of rows task.dir task.keyring) e
  where
    by_read : (v : Result Ring KeyringFail) → ◌≡◌ {A = Result Ring EngineFail} (result_map_both (λ ring. ring) Keyring v) (Ok ring) → v ≡ Ok ring
    by_read (Ok found) e = cc
    by_read (Err fail) e = cc

-- ---- what is kept

-- A value that is kept before a check, with checks before it, is the text of a scope and of commits that are authentic in it, under
-- the scope's keyring, which one of the checks has read.
record IsHeld (check : Check) (before : List Check) (bytes : List ℕ) : Type 0 where
  pub scope : Scope
  pub ids : List Id
  pub can : CanBeRecorded scope ids
  pub whole : bytes ≡ text_of scope ids
  pub origin : Check
  pub listed : Contains (check ∷ before) origin
  pub ring : Ring
  pub read : ring_of origin.answers origin.task ≡ Ok ring
  pub tree : scope.keyring_tree ≡ ring.tree
  pub dir : check.task.dir ≡ origin.task.dir
  pub objects : KeepsObjects origin.task.dir origin.answers check.answers
  pub each : All (IsAuthentic (world_at check ring) scope ring.keys) ids

abbrev IsTrusted : Check → List Check → Type 0
IsTrusted check before = (check.kept ≡ None) ⊎ ((bytes : List ℕ) × (check.kept ≡ Some bytes) × IsHeld check before bytes)

-- all entries are authentic, and there is no refusal
abbrev AreAuthentic : Check → Ring → Result (List Id) CacheFail → Type 0
AreAuthentic check ring v = MatchResult v (All (IsAuthentic (world_at check ring) (scope_of check.task ring) ring.keys)) (λ _. ⊥)

none_authentic : (check : Check) (ring : Ring) → AreAuthentic check ring (Ok [])
none_authentic check ring = All-from_recursion (IsAuthentic (world_at check ring) (scope_of check.task ring) ring.keys) [] tt

module _ (check : Check) (before : List Check) (own : HaveOwnIds (check ∷ before)) (ring : Ring) (read : ring_of check.answers check.task ≡ Ok ring) where
  -- two root trees of one id are one object
  one_root : (bytes : List ℕ) (held : IsHeld check before bytes) (a b : Object) (name name' : List ℕ)
      → fetched_of 16777216 name (answer held.origin.answers held.origin.task.dir name) ≡ Ok (Found a)
      → fetched_of 16777216 name' (answer check.answers held.origin.task.dir name') ≡ Ok (Found b) → a.id ≡ b.id → a ≡ b
  one_root bytes held a b name name' found found' same =
      let here = subst (λ (dir : List ℕ). fetched_of 16777216 name' (answer check.answers dir name') ≡ Ok (Found b)) (sym held.dir) found' in
      let is_a : IsFoundIn (check ∷ before) a = record { check = held.origin; listed = held.listed; name = name; limit = 16777216; found = found } in
      let is_b : IsFoundIn (check ∷ before) b = record { check = check; listed = (zero, omega arith, refl); name = name'; limit = 16777216; found = here } in
      own a b is_a is_b same

  -- and two keyrings of one tree are the same
  held_ring : (bytes : List ℕ) (held : IsHeld check before bytes) → held.ring.tree ≡ ring.tree → held.ring ≡ ring
  held_ring bytes held tree =
      let at = held.origin in
      let was = ring_read at.answers at.task held.ring held.read in
      let is = subst (λ (dir : List ℕ). keyring_of check.answers dir check.task.keyring ≡ Ok ring) held.dir (ring_read check.answers check.task ring read) in
      let files : KeepsFiles at.task.dir at.answers check.answers = λ id object found. held.objects id 4194304 object found in
      same_keyring at.task.dir at.answers check.answers at.task.keyring check.task.keyring held.ring ring files (one_root bytes held) was is tree

  held_entries : (bytes : List ℕ) (held : IsHeld check before bytes) → AreAuthentic check ring (cache_of bytes (scope_of check.task ring))
  held_entries bytes held = subst (λ (b : List ℕ). AreAuthentic check ring (cache_of b (scope_of check.task ring))) (sym held.whole) (by_scope (cache_under held.scope (scope_of check.task ring) held.ids held.can))
    where
      by_scope : (cache_of (text_of held.scope held.ids) (scope_of check.task ring) ≡ Ok []) ⊎ (held.scope ≡ scope_of check.task ring)
          → AreAuthentic check ring (cache_of (text_of held.scope held.ids) (scope_of check.task ring))
      by_scope (inl none) = subst (AreAuthentic check ring) (sym none) (none_authentic check ring)
      by_scope (inr same) =
          let rings : held.ring ≡ ring = held_ring bytes held (sym held.tree ∙ ap (λ (s : Scope). s.keyring_tree) same) in
          let of_ring = subst (λ (r : Ring). All (IsAuthentic (world_at check r) held.scope r.keys) held.ids) rings held.each in
          let of_scope = subst (λ (s : Scope). All (IsAuthentic (world_at check ring) s ring.keys) held.ids) same of_ring in
          let given = ap (cache_of (text_of held.scope held.ids)) (sym same) ∙ cache_same held.scope held.ids held.can in
          subst (AreAuthentic check ring) (sym given) of_scope

  -- the entries that are kept for the scope of a check are authentic
  trusted_entries : IsTrusted check before → AreAuthentic check ring (entries_of (scope_of check.task ring) check.kept)
  trusted_entries (inl none) = subst (λ (kept : Option (List ℕ)). AreAuthentic check ring (entries_of (scope_of check.task ring) kept)) (sym none) (none_authentic check ring)
  trusted_entries (inr is) = subst (λ (kept : Option (List ℕ)). AreAuthentic check ring (entries_of (scope_of check.task ring) kept)) (sym is.1) (held_entries is.0 is.2)

-- ---- from a check to the next

module _ (one next : Check) (before : List Check) (follows : Follows one next) where
  -- what was kept already
  held_next : (bytes : List ℕ) → IsHeld one before bytes → IsHeld next (one ∷ before) bytes
  held_next bytes held = record {
    scope = held.scope;
    ids = held.ids;
    can = held.can;
    whole = held.whole;
    origin = held.origin;
    listed = later next held.origin (one ∷ before) held.listed;
    ring = held.ring;
    read = held.read;
    tree = held.tree;
    dir = follows.dir ∙ held.dir;
    objects = λ id limit object found. subst (λ (dir : List ℕ). KeepsObjects dir one.answers next.answers) held.dir follows.objects id limit object (held.objects id limit object found);
    each = λ i d low. authentic_next one next follows held.ring held.scope held.ring.keys _ (held.each i d low);
  }

  -- what an accepted verdict has to be kept
  stored_next : HaveOwnIds (one ∷ before) → IsTrusted one before → (verdict : Verdict) (pair : Pair) → IsOutcome one.answers one.verdicts one.task one.kept (Ok verdict) → verdict.store ≡ Some pair
      → IsHeld next (one ∷ before) pair.value
  stored_next own trusted verdict pair outcome e =
      let behind = accepted one.answers one.verdicts one.task one.kept verdict outcome in
      let ring = behind.start.ring in
      let read = ring_behind one.answers one.task behind.start behind.begins in
      let store = store_is (world_at one ring) one.task behind.start behind.entries verdict pair behind.found.1 e in
      let old = subst (AreAuthentic one ring) behind.cached (trusted_entries one before own ring read trusted) in
      let all = All-with_id (IsAuthentic (world_at one ring) (scope_of one.task ring) ring.keys) behind.start.target behind.entries behind.found.0 old in
      record {
        scope = scope_of one.task ring;
        ids = with_id behind.start.target behind.entries;
        can = store.1;
        whole = ap (λ (p : Pair). p.value) store.0;
        origin = one;
        listed = later next one (one ∷ before) (zero, omega arith, refl);
        ring = ring;
        read = read;
        tree = refl;
        dir = follows.dir;
        objects = follows.objects;
        each = λ i d low. authentic_next one next follows ring (scope_of one.task ring) ring.keys _ (all i d low);
      }

  trusted_next : HaveOwnIds (one ∷ before) → IsTrusted one before → IsTrusted next (one ∷ before)
  trusted_next own trusted = by_left follows.left
    where
      by_kept : next.kept ≡ one.kept → IsTrusted one before → IsTrusted next (one ∷ before)
      by_kept same (inl none) = inl (same ∙ none)
      by_kept same (inr is) = inr (is.0, same ∙ is.1, held_next is.0 is.2)

      by_left : Leaves one next.kept → IsTrusted next (one ∷ before)
      by_left (inl same) = by_kept same trusted
      by_left (inr by_verdict) = inr (by_verdict.1.value, by_verdict.4, stored_next own trusted by_verdict.0 by_verdict.1 by_verdict.2 by_verdict.3)

-- ---- the series

series_trusted : (check : Check) (before : List Check) → IsSeries (check ∷ before) → HaveOwnIds (check ∷ before) → IsTrusted check before
series_trusted check [] series own = inl series
series_trusted next (one ∷ before) series own =
    let own' = own_before next (one ∷ before) own in
    trusted_next one next before series.0 own' (series_trusted one before series.1 own')

-- authentic entries are sound
value_sound : (check : Check) (ring : Ring) (v : Result (List Id) CacheFail) → AreAuthentic check ring v
    → MatchResult v (All (IsSoundEntry (world_at check ring) (scope_of check.task ring) ring.keys)) (λ _. ⊥)
value_sound check ring (Ok entries) all = λ i d low. inr (all i d low)
value_sound check ring (Err fail) none = none

pub series_sound : (check : Check) (before : List Check) → IsSeries (check ∷ before) → HaveOwnIds (check ∷ before) → IsSoundCache check.answers check.verdicts check.task check.kept
series_sound check before series own = by_ring (ring_of check.answers check.task) refl
  where
    by_ring : (v : Result Ring EngineFail) → ring_of check.answers check.task ≡ v
        → IfOk v (λ ring. IsSoundValue (world_in check.answers check.verdicts check.task ring) (scope_of check.task ring) ring.keys check.kept)
    by_ring (Ok ring) read = value_sound check ring (entries_of (scope_of check.task ring) check.kept) (trusted_entries check before own ring read (series_trusted check before series own))
    by_ring (Err fail) read = tt
