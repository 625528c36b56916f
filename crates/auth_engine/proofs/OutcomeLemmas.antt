-- What the steps found is the outcome.
use Rattle.std.proofs.Common.{◌≡◌, ◌⊎◌, inl, inr, ℕ, zero, suc, ◌<◌, Bool, List, [], ◌∷◌, ◌++◌, length, Option, Some, None, Result, Ok, Err, refl, sym, ap, ◌∙◌, subst, arith}
use Rattle.std.specs.Prelude.{All, AllPairs, Contains, slice_index_or, IsSome, IsOk, IsErr, IsTrue, IfOk, ◌↔◌, MatchResult}
use Rattle.std.specs.Result.{result_map_both}
use Rattle.std.proofs.lemmas.Bool.{false≢true}
use Rattle.std.proofs.lemmas.List.Elements.{Contains-append_cases, Contains-append_right}
use Rattle.child_ports.specs.declared.git.GitRow.{GitRow}
use Rattle.child_ports.specs.declared.sig.SigRow.{SigRow}
use Rattle.child_ports.specs.KeySet.{Keys}
use Rattle.authorizations.specs.declared.scope.Scope.{Scope}
use Rattle.auth_cache.specs.declared.fail.CacheFail.{CacheFail}
use Rattle.keyring_branch.specs.declared.keyring.Keyring.{Keyring as Ring}
use Rattle.commit_graph.specs.Chains.{Reaches}
use Rattle.commit_graph.specs.Covers.{Parenthood, IsNew, IsRelated, IsCovered, IsCoveredByEntry, IsUncovered, ComesBefore, AreUncovered}
use Rattle.commit_graph.specs.History.{History, IsParent}
use Rattle.commit_graph.proofs.ChainLemmas.{reach_all, reach_itself}
use Rattle.commit_graph.proofs.CoveredLemmas.{IsCovered-parent}
use Rattle.auth_rules.specs.declared.cause.Cause.{Cause}
use Rattle.auth_rules.specs.declared.cause.What.{What}
use Rattle.auth_rules.specs.declared.cause.What.TheVariants.{Missing}
use Rattle.auth_rules.specs.World.{World, Id, onward}
use Rattle.auth_rules.specs.Rules.{cause, intro_cause}
use Rattle.commit_history.specs.declared.fail.HistoryFail.{HistoryFail}
use Rattle.commit_history.specs.declared.fail.HistoryFail.TheVariants as read
use Rattle.commit_history.specs.Members.{history, IsWhole}
use Rattle.commit_history.specs.Answers.{HoldsHistory, IsHistoryAnswer}
use Rattle.commit_history.proofs.CarryLemmas.{member_reaches, member_reaches_back, history_uncovered}
use Rattle.auth_engine.specs.declared.task.Task.{Task}
use Rattle.auth_engine.specs.declared.task.Verdict.{Verdict}
use Rattle.auth_engine.specs.declared.starting.Start.{Start}
use Rattle.auth_engine.specs.declared.engine_fail.EngineFail.{EngineFail}
use Rattle.auth_engine.specs.declared.engine_fail.EngineFail.TheVariants.{Name, Keyring, Cache, TooMany, Object as OfObject, Cycle, Intro, Unrelated, Commit, GitFault, SigFault, KeepFault, Memory}
use Rattle.auth_engine.specs.Answers.{OnFinding, Gives}
use Rattle.auth_engine.specs.Authentic.{IsAuthentic, IsFirstRefused}
use Rattle.auth_engine.specs.Judging.{FirstRefused}
use Rattle.auth_engine.specs.Outcome.{pair_of, IsVerdict, IsJudgedOver, IsJudgedVerdict, IsFinding, IsOutcome, IsVerdictOver, HasAuthenticTarget}
use Rattle.auth_engine.specs.SoundCache.{IsSoundEntry, IsSoundValue, HasSoundEntries, IsSoundCache, IsSoundOrNone}
use Rattle.auth_engine.specs.Starting.{target_of, intro_of, ring_of, start_of, scope_of, world_in, entries_of, cached_of}
use Rattle.auth_engine.specs.Steps.{engine_fail, Relates, store_of, JudgesWell, JudgesBadly, JudgesNew}
use Rattle.auth_engine.proofs.DistinctLemmas.{not_both}

-- ---- lists

at_one : {A : Type 0} (P : A → Type 0) (xs : List A) (x : A) → All P xs → Contains xs x → P x
at_one P xs x all has = subst P has.2 (all has.0 x has.1)

-- what stands behind an item comes after it
behind : {A : Type 0} (R : A → A → Type 0) (front rest : List A) (x y : A) → AllPairs R (front ++ x ∷ rest) → Contains rest y → R x y
behind R [] rest x y pairs has = subst (R x) has.2 (pairs 0 (suc has.0) y (omega arith) (let low = has.1 in omega arith))
behind R (z ∷ front) rest x y pairs has = behind R front rest x y (λ i j d lt low. pairs (suc i) (suc j) d (omega (arith, lt)) (omega (arith, low))) has

at_or_behind : {A : Type 0} (x : A) (rest : List A) (y : A) (k : ℕ) → k < length (x ∷ rest) → slice_index_or (x ∷ rest) k y ≡ y → (x ≡ y) ⊎ Contains rest y
at_or_behind x rest y zero low is = inl is
at_or_behind x rest y (suc k) low is = inr (k, omega (arith, low), is)

some_none : {A : Type 0} (found : Option A) → found ≡ None → IsSome found → ⊥
some_none None is some = false≢true some
some_none (Some x) is some = grind (arith, is)

not_missing : {A : Type 0} (r : Result A What) → r ≡ Err Missing → IsOk r → ⊥
not_missing (Ok x) is ok = grind (arith, is)
not_missing (Err x) is ok = false≢true ok

ok_err : {A B : Type 0} (r : Result A B) → IsOk r → IsErr r → ⊥
ok_err (Ok x) ok err = false≢true err
ok_err (Err x) ok err = false≢true ok

-- ---- what is covered, and what isn't

module _ (P : Parenthood) (target intro : Id) (entries : List Id) where
  covered_on : (a b : Id) → Reaches P a b → IsCovered P target intro entries a → IsCovered P target intro entries b
  covered_on a b r covered = reach_all (IsCovered P target intro entries) (IsCovered-parent P target intro entries) covered r

  module _ (commits : List Id) (new : AreUncovered P target intro entries commits) where
    pub is_new : (c : Id) → Contains commits c → IsNew P target intro c
    is_new c has = (
      at_one (Reaches P target) commits c new.reached has,
      λ r. at_one (λ (d : Id). ¬ IsCovered P target intro entries d) commits c new.bare has (inl r),
    )

    -- whatever holds of these commits holds of all that isn't covered
    pub of_uncovered : (Is : Id → Type 0) → All Is commits → (c : Id) → IsUncovered P target intro entries c → Is c
    of_uncovered Is all c is = elim (new.complete c is.0) [
      | inl has ↦ at_one Is commits c all has
      | inr covered ↦ absurd (is.1 covered)
    ]

    -- whatever holds of the commits that aren't covered, and of what the entries cover, holds of all that is new
    pub of_new : (Is : Id → Type 0) → All Is commits → ((c : Id) → IsNew P target intro c → IsCoveredByEntry P target intro entries c → Is c) → (c : Id) → IsNew P target intro c → Is c
    of_new Is all by_entry c is = elim (new.complete c is.0) [
      | inl has ↦ at_one Is commits c all has
      | inr covered ↦ elim covered [
        | inl r ↦ absurd (is.1 r)
        | inr entry ↦ by_entry c is entry
      ]
    ]

  -- nothing is to be kept exactly where the target is covered
  module _ (task : Task) (s : Scope) where
    pub nothing_to_keep : (commits : List Id) → AreUncovered P target intro entries commits → IsCovered P target intro entries target → store_of task s target entries commits ≡ None
    nothing_to_keep [] new covered = refl
    nothing_to_keep (c ∷ commits) new covered =
        let has : Contains (c ∷ commits) c = (0, omega arith, refl) in
        absurd (at_one (λ (d : Id). ¬ IsCovered P target intro entries d) (c ∷ commits) c new.bare has (covered_on target c (at_one (Reaches P target) (c ∷ commits) c new.reached has) covered))

    pub target_to_keep : (commits : List Id) → AreUncovered P target intro entries commits → ¬ IsCovered P target intro entries target → store_of task s target entries commits ≡ Some (pair_of task s target entries)
    target_to_keep [] new bare = elim (new.complete target (reach_itself target)) [
      | inl has ↦ absurd (let low = has.1 in omega arith)
      | inr covered ↦ absurd (bare covered)
    ]
    target_to_keep (c ∷ commits) new bare = refl

-- ---- what the entries of a sound cache cover

module _ (w : World) (s : Scope) (keys : Keys) (target : Id) (entries : List Id) (whole : IsWhole w target s.intro) (sound : All (IsSoundEntry w s keys) entries) where
  pub entry_clears : (c : Id) → IsNew (history w) target s.intro c → IsCoveredByEntry (history w) target s.intro entries c → cause w s keys c ≡ None
  entry_clears c is entry = elim (at_one (IsSoundEntry w s keys) entries entry.entry sound entry.listed) [
    | inl missing ↦ absurd (not_missing (w.commit entry.entry) missing (whole.sound entry.entry entry.counts))
    | inr authentic ↦ authentic.authorised c (entry.reaches, is.1)
  ]

  -- what is new and has a cause isn't covered
  pub cause_uncovered : (c : Id) → IsNew (history w) target s.intro c → IsSome (cause w s keys c) → IsUncovered (history w) target s.intro entries c
  cause_uncovered c is some = (is.0, bare)
    where
      bare : IsCovered (history w) target s.intro entries c → ⊥
      bare (inl r) = is.1 r
      bare (inr entry) = some_none (cause w s keys c) (entry_clears c is entry) some

  -- what is new and refused is among the commits that aren't covered
  listed : (commits : List Id) → AreUncovered (history w) target s.intro entries commits → (c : Id) → IsNew (history w) target s.intro c
      → IsSome (cause w s keys c) → Contains commits c
  listed commits new c is some = elim (new.complete c is.0) [
    | inl has ↦ has
    | inr covered ↦ absurd ((cause_uncovered c is some).1 covered)
  ]

  -- the first of them that is refused is the first refused of all that is new
  pub first_refused : (commits : List Id) (id : Id) (why : Cause) → AreUncovered (history w) target s.intro entries commits
      → FirstRefused w s keys commits id why → IsFirstRefused w s keys target id why
  first_refused commits id why new found =
      let order = subst (AllPairs (ComesBefore (history w))) found.parts new.order in
      let here : Contains commits id = subst (λ (cs : List Id). Contains cs id) (sym found.parts) (Contains-append_right found.front (id ∷ found.rest) id (0, omega arith, refl)) in
      record {
        within = is_new (history w) target s.intro entries commits new id here;
        refused = found.refused;
        first = λ d is refused.
            let has = subst (λ (cs : List Id). Contains cs d) found.parts (listed commits new d is refused) in
            elim (Contains-append_cases found.front (id ∷ found.rest) d has) [
              | inl before ↦ absurd (some_none _ (at_one (λ (c : Id). cause w s keys c ≡ None) found.front d found.passed before) refused)
              | inr from ↦ elim (at_or_behind id found.rest d from.0 from.1 from.2) [
                | inl same ↦ inl same
                | inr after ↦ inr (behind (ComesBefore (history w)) found.front found.rest id d order after)
              ]
            ];
      }

module _ (w : World) (task : Task) (start : Start) (graph : History) (whole : IsWhole w start.target task.intro) (holds : HoldsHistory w start.target task.intro graph)
    (introduced : intro_cause w (scope_of task start.ring) start.ring.keys ≡ None) (entries : List Id) where
  intro_reaches : (c : Id) → Reaches (history w) task.intro c → Reaches (IsParent graph.held) task.intro c
  intro_reaches c r = member_reaches_back w start.target task.intro graph holds task.intro c (inr (reach_itself task.intro)) r

  target_reaches : (c : Id) → Reaches (history w) start.target c → Reaches (IsParent graph.held) start.target c
  target_reaches c r = member_reaches_back w start.target task.intro graph holds start.target c (inl (reach_itself start.target)) r

  there : (a b : Id) → Reaches (IsParent graph.held) a b → Reaches (history w) a b
  there a b r = member_reaches w start.target task.intro graph holds a b r

  related_back : IsRelated (history w) start.target task.intro → IsRelated (IsParent graph.held) start.target task.intro
  related_back (inl r) = inl (intro_reaches start.target r)
  related_back (inr r) = inr (target_reaches task.intro r)

  related_there : IsRelated (IsParent graph.held) start.target task.intro → IsRelated (history w) start.target task.intro
  related_there (inl r) = inl (there task.intro start.target r)
  related_there (inr r) = inr (there start.target task.intro r)

  pub unrelated : Relates (IsParent graph.held) start.target task.intro None → IsFinding w task start entries (Err (Unrelated start.target task.intro))
  unrelated none = (whole, introduced, refl, refl, λ related. none (related_back related))

  module _ (older : Bool) (relates : Relates (IsParent graph.held) start.target task.intro (Some older)) where
    moved_new : (commits : List Id) → AreUncovered (IsParent graph.held) start.target task.intro entries commits → AreUncovered (history w) start.target task.intro entries commits
    moved_new commits new = history_uncovered w start.target task.intro graph holds entries commits new

    verdict_of : (verdict : Verdict) → JudgesWell w task (scope_of task start.ring) start.ring.keys graph.held start.target entries older verdict → IsVerdict w task start entries verdict
    verdict_of verdict well =
        let new = moved_new well.commits well.uncovered in
        record {
          target = well.target_is;
          older = (
            λ v. let o = relates.1.0 (subst IsTrue well.older_is v) in (there task.intro start.target o.0, o.1),
            λ o. subst IsTrue (sym well.older_is) (relates.1.1 (intro_reaches start.target o.0, o.1)),
          );
          commits = well.commits;
          signers = well.signers;
          judged = new;
          number = well.number;
          signed = well.signed.signed;
          tally = well.tally;
          covered = λ covered. well.store_is ∙ nothing_to_keep (history w) start.target task.intro entries task (scope_of task start.ring) well.commits new covered;
          stored = λ bare. well.store_is ∙ target_to_keep (history w) start.target task.intro entries task (scope_of task start.ring) well.commits new bare;
          recorded = well.recorded;
        }

    judged_over : (verdict : Verdict) → JudgesWell w task (scope_of task start.ring) start.ring.keys graph.held start.target entries older verdict → IsJudgedOver w task start entries
    judged_over verdict well = record {
      whole = whole;
      introduced = introduced;
      related = related_there relates.0;
      authorised = of_uncovered (history w) start.target task.intro entries well.commits (moved_new well.commits well.uncovered) (λ (d : Id). cause w (scope_of task start.ring) start.ring.keys d ≡ None) well.signed.causeless;
    }

    -- whatever the entries are worth, an accepted target has a verdict
    pub verdict_found : (result : Result Verdict EngineFail) → JudgesNew w task (scope_of task start.ring) start.ring.keys graph.held start.target entries older result
        → IfOk result (IsJudgedVerdict w task start entries)
    verdict_found (Ok verdict) well = (judged_over verdict well, verdict_of verdict well)
    verdict_found (Err fail) judged = tt

    module _ (sound : All (IsSoundEntry w (scope_of task start.ring) start.ring.keys) entries) where
      cleared : (c : Id) → IsNew (history w) start.target task.intro c → IsCoveredByEntry (history w) start.target task.intro entries c → cause w (scope_of task start.ring) start.ring.keys c ≡ None
      cleared c is entry = entry_clears w (scope_of task start.ring) start.ring.keys start.target entries whole sound c is entry

      accepted : (verdict : Verdict) → JudgesWell w task (scope_of task start.ring) start.ring.keys graph.held start.target entries older verdict → IsFinding w task start entries (Ok verdict)
      accepted verdict well = (
        record {
          whole = whole;
          introduced = introduced;
          related = related_there relates.0;
          authorised = of_new (history w) start.target task.intro entries well.commits (moved_new well.commits well.uncovered) (λ (d : Id). cause w (scope_of task start.ring) start.ring.keys d ≡ None) well.signed.causeless cleared;
        },
        verdict_of verdict well,
      )

      refused : (id : Id) (why : Cause) → JudgesBadly w (scope_of task start.ring) start.ring.keys graph.held start.target entries id why → IsFinding w task start entries (Err (Commit id why))
      refused id why bad = (whole, introduced, related_there relates.0, first_refused w (scope_of task start.ring) start.ring.keys start.target entries whole sound bad.commits id why (moved_new bad.commits bad.uncovered) bad.first)

      pub found : (result : Result Verdict EngineFail) → JudgesNew w task (scope_of task start.ring) start.ring.keys graph.held start.target entries older result
          → OnFinding result (IsFinding w task start entries result)
      found (Ok verdict) well = accepted verdict well
      found (Err (Commit id why)) bad = refused id why bad
      found (Err GitFault) judged = tt
      found (Err SigFault) judged = tt
      found (Err Memory) judged = tt
      found (Err (Name which what)) judged = absurd judged
      found (Err (Keyring fail)) judged = absurd judged
      found (Err (Cache fail)) judged = absurd judged
      found (Err KeepFault) judged = absurd judged
      found (Err TooMany) judged = absurd judged
      found (Err (OfObject id what)) judged = absurd judged
      found (Err (Cycle id)) judged = absurd judged
      found (Err (Intro id why)) judged = absurd judged
      found (Err (Unrelated target intro)) judged = absurd judged

-- ---- the whole task

pub on_map : {T : Type 0} (result : Result T EngineFail) (P Q : Type 0) → (P → Q) → OnFinding result P → OnFinding result Q
on_map (Ok value) P Q f p = f p
on_map (Err (Commit id why)) P Q f p = f p
on_map (Err GitFault) P Q f p = tt
on_map (Err SigFault) P Q f p = tt
on_map (Err KeepFault) P Q f p = tt
on_map (Err Memory) P Q f p = tt
on_map (Err (Name which what)) P Q f p = f p
on_map (Err (Keyring fail)) P Q f p = f p
on_map (Err (Cache fail)) P Q f p = f p
on_map (Err TooMany) P Q f p = f p
on_map (Err (OfObject id what)) P Q f p = f p
on_map (Err (Cycle id)) P Q f p = f p
on_map (Err (Intro id why)) P Q f p = f p
on_map (Err (Unrelated target intro)) P Q f p = f p

-- what is found under a start
abbrev pub FindsUnder : List GitRow → List SigRow → Task → Option (List ℕ) → Result Verdict EngineFail → Start → Type 0
FindsUnder rows sigs task kept result start = MatchResult (entries_of (scope_of task start.ring) kept)
    (λ entries. IsFinding (world_in rows sigs task start.ring) task start entries result)
    (λ fail. result ≡ Err (Cache fail))

-- the keyring of a start is that of the task
step_of : {A B E : Type 0} (r : Result A E) (f : A → Result B E) (y : B) → onward r f ≡ Ok y → (x : A) × (r ≡ Ok x) × (f x ≡ Ok y)
step_of (Ok x) f y e = (x, refl, e)
step_of (Err v) f y e = cc

ok_start : {x y : Start} → ◌≡◌ {A = Result Start EngineFail} (Ok x) (Ok y) → x ≡ y
ok_start e = cc

pub ring_behind : (rows : List GitRow) (task : Task) (start : Start) → start_of rows task ≡ Ok start → ring_of rows task ≡ Ok start.ring
ring_behind rows task start begins =
    let target = step_of (target_of rows task) _ start begins in
    let intro = step_of (intro_of rows task) _ start target.2 in
    let ring = step_of (ring_of rows task) _ start intro.2 in
    let same : ◌≡◌ {A = Start} (record { target = target.0.id; ring = ring.0 }) start = ok_start ring.2 in
    let ok : Ring → Result Ring EngineFail = λ r. Ok r in
    ring.1 ∙ ap (λ (begun : Start). ok begun.ring) same

unread : (w : World) (task : Task) (start : Start) (entries : List Id) (fail : HistoryFail) → IsHistoryAnswer w start.target task.intro (Err fail)
    → OnFinding {T = Verdict} (Err (engine_fail fail)) (IsFinding w task start entries (Err (engine_fail fail)))
unread w task start entries read.TooMany answer = answer
unread w task start entries (read.Object id what) answer = answer
unread w task start entries (read.Cycle id) answer = answer
unread w task start entries read.GitFault answer = tt
unread w task start entries read.Memory answer = tt

-- what is found once target, introduction, keyring and cache are there is the outcome
pub finding_outcome : (rows : List GitRow) (sigs : List SigRow) (task : Task) (kept : Option (List ℕ)) (start : Start) (entries : List Id) (result : Result Verdict EngineFail)
    → Ok start ≡ start_of rows task → Ok entries ≡ entries_of (scope_of task start.ring) kept
    → IsFinding (world_in rows sigs task start.ring) task start entries result → IsOutcome rows sigs task kept result
finding_outcome rows sigs task kept start entries result begins cached finding =
    subst (λ (s : Result Start EngineFail). MatchResult s (FindsUnder rows sigs task kept result) (λ why. result ≡ Err why)) begins
    (subst (λ (c : Result (List Id) CacheFail). MatchResult c (λ entries. IsFinding (world_in rows sigs task start.ring) task start entries result) (λ fail. result ≡ Err (Cache fail))) cached finding)

-- the verdict under a start is that over what is kept
pub verdict_over : (rows : List GitRow) (sigs : List SigRow) (task : Task) (kept : Option (List ℕ)) (start : Start) (entries : List Id) (result : Result Verdict EngineFail)
    → Ok start ≡ start_of rows task → Ok entries ≡ entries_of (scope_of task start.ring) kept
    → IfOk result (IsJudgedVerdict (world_in rows sigs task start.ring) task start entries) → IfOk result (IsVerdictOver rows sigs task kept)
verdict_over rows sigs task kept start entries (Err fail) begins cached is = tt
verdict_over rows sigs task kept start entries (Ok verdict) begins cached is =
    subst (λ (s : Result Start EngineFail). MatchResult s (λ start. MatchResult (entries_of (scope_of task start.ring) kept) (λ entries. IsJudgedVerdict (world_in rows sigs task start.ring) task start entries verdict) (λ _. ⊥)) (λ _. ⊥)) begins
    (subst (λ (c : Result (List Id) CacheFail). MatchResult c (λ entries. IsJudgedVerdict (world_in rows sigs task start.ring) task start entries verdict) (λ _. ⊥)) cached is)

-- what is kept gives these entries
pub cached_ok : (entries : List Id) (v : Result (List Id) CacheFail) → ◌≡◌ {A = Result (List Id) EngineFail} (Ok entries) (result_map_both (λ (entries : List Id). entries) Cache v) → Ok entries ≡ v
cached_ok entries (Ok found) gives = cc
cached_ok entries (Err why) gives = grind (arith, gives)

-- what is kept gives no entries
cached_err : (fail : EngineFail) (v : Result (List Id) CacheFail) → ◌≡◌ {A = Result (List Id) EngineFail} (Err fail) (result_map_both (λ (entries : List Id). entries) Cache v)
    → (why : CacheFail) × (fail ≡ Cache why) × (v ≡ Err why)
cached_err fail (Ok entries) gives = grind (arith, gives)
cached_err fail (Err why) gives = (why, cc, refl)

module _ (rows : List GitRow) (sigs : List SigRow) (task : Task) (kept : Option (List ℕ)) (start : Start) (begins : Ok start ≡ start_of rows task) where
  by_cache : (fail : EngineFail) → (why : CacheFail) × (fail ≡ Cache why) × (entries_of (scope_of task start.ring) kept ≡ Err why) → IsOutcome rows sigs task kept (Err fail)
  by_cache fail cached = subst (λ (f : EngineFail). IsOutcome rows sigs task kept (Err f)) (sym cached.1)
      (subst (λ (s : Result Start EngineFail). MatchResult s (FindsUnder rows sigs task kept (Err (Cache cached.0))) (λ why. ◌≡◌ {A = Result Verdict EngineFail} (Err (Cache cached.0)) (Err why))) begins
      (subst (λ (c : Result (List Id) CacheFail). MatchResult c (λ entries. IsFinding (world_in rows sigs task start.ring) task start entries (Err (Cache cached.0))) (λ why. ◌≡◌ {A = Result Verdict EngineFail} (Err (Cache cached.0)) (Err (Cache why)))) (sym cached.2) refl))

  pub uncached_outcome : (fail : EngineFail) → Gives (Err fail) (cached_of (scope_of task start.ring) kept) → OnFinding {T = Verdict} (Err fail) (IsOutcome rows sigs task kept (Err fail))
  uncached_outcome GitFault gives = tt
  uncached_outcome SigFault gives = tt
  uncached_outcome KeepFault gives = tt
  uncached_outcome Memory gives = tt
  uncached_outcome (Name which what) gives = by_cache (Name which what) (cached_err (Name which what) (entries_of (scope_of task start.ring) kept) gives)
  uncached_outcome (Keyring why) gives = by_cache (Keyring why) (cached_err (Keyring why) (entries_of (scope_of task start.ring) kept) gives)
  uncached_outcome (Cache why) gives = by_cache (Cache why) (cached_err (Cache why) (entries_of (scope_of task start.ring) kept) gives)
  uncached_outcome TooMany gives = by_cache TooMany (cached_err TooMany (entries_of (scope_of task start.ring) kept) gives)
  uncached_outcome (OfObject id what) gives = by_cache (OfObject id what) (cached_err (OfObject id what) (entries_of (scope_of task start.ring) kept) gives)
  uncached_outcome (Cycle id) gives = by_cache (Cycle id) (cached_err (Cycle id) (entries_of (scope_of task start.ring) kept) gives)
  uncached_outcome (Intro id why) gives = by_cache (Intro id why) (cached_err (Intro id why) (entries_of (scope_of task start.ring) kept) gives)
  uncached_outcome (Unrelated target intro) gives = by_cache (Unrelated target intro) (cached_err (Unrelated target intro) (entries_of (scope_of task start.ring) kept) gives)
  uncached_outcome (Commit id why) gives = by_cache (Commit id why) (cached_err (Commit id why) (entries_of (scope_of task start.ring) kept) gives)

-- a history that can't be judged is the outcome
pub unread_outcome : (rows : List GitRow) (sigs : List SigRow) (task : Task) (kept : Option (List ℕ)) (start : Start) (entries : List Id) (fail : HistoryFail)
    → Ok start ≡ start_of rows task → Ok entries ≡ entries_of (scope_of task start.ring) kept
    → IsHistoryAnswer (world_in rows sigs task start.ring) start.target task.intro (Err fail)
    → OnFinding {T = Verdict} (Err (engine_fail fail)) (IsOutcome rows sigs task kept (Err (engine_fail fail)))
unread_outcome rows sigs task kept start entries fail begins cached answer =
    on_map {T = Verdict} (Err (engine_fail fail)) _ _ (finding_outcome rows sigs task kept start entries (Err (engine_fail fail)) begins cached)
    (unread (world_in rows sigs task start.ring) task start entries fail answer)

-- ---- an accepted target is authentic, and none else

no_finding : (w : World) (task : Task) (start : Start) (entries : List Id) (fail : EngineFail) → IsAuthentic w (scope_of task start.ring) start.ring.keys start.target
    → IsFinding w task start entries (Err fail) → ⊥
no_finding w task start entries TooMany auth finding = not_both 1000000 _ auth.whole.few finding
no_finding w task start entries (OfObject id what) auth finding = ok_err (w.commit id) (auth.whole.sound id finding.1.is.0) finding.1.is.1
no_finding w task start entries (Cycle id) auth finding = let g = auth.whole.ranked id finding.2.is.0 in finding.2.is.1 g.0 g.1
no_finding w task start entries (Intro id why) auth finding = grind (arith, auth.introduced, finding.2)
no_finding w task start entries (Unrelated target intro) auth finding = finding.4 auth.related
no_finding w task start entries (Commit id why) auth finding = let none = auth.authorised id finding.3.within in grind (arith, none, finding.3.refused)
no_finding w task start entries (Name which what) auth finding = finding
no_finding w task start entries (Keyring why) auth finding = finding
no_finding w task start entries (Cache why) auth finding = finding
no_finding w task start entries GitFault auth finding = finding
no_finding w task start entries SigFault auth finding = finding
no_finding w task start entries KeepFault auth finding = finding
no_finding w task start entries Memory auth finding = finding

finding_at : (rows : List GitRow) (sigs : List SigRow) (task : Task) (kept : Option (List ℕ)) (start : Start) (entries : List Id) (result : Result Verdict EngineFail)
    → start_of rows task ≡ Ok start → entries_of (scope_of task start.ring) kept ≡ Ok entries → IsOutcome rows sigs task kept result
    → IsFinding (world_in rows sigs task start.ring) task start entries result
finding_at rows sigs task kept start entries result begins cached outcome =
    subst (λ (c : Result (List Id) CacheFail). MatchResult c (λ entries. IsFinding (world_in rows sigs task start.ring) task start entries result) (λ fail. result ≡ Err (Cache fail))) cached
    (subst (λ (s : Result Start EngineFail). MatchResult s (FindsUnder rows sigs task kept result) (λ fail. result ≡ Err fail)) begins outcome)

-- the entries of a sound value
sound_entries : (w : World) (s : Scope) (keys : Keys) (kept : Option (List ℕ)) (v : Result (List Id) CacheFail) → entries_of s kept ≡ v
    → MatchResult v (All (IsSoundEntry w s keys)) (λ _. ⊥) → (entries : List Id) × (entries_of s kept ≡ Ok entries)
sound_entries w s keys kept (Ok entries) is sound = (entries, is)
sound_entries w s keys kept (Err fail) is sound = absurd sound

-- a sound cache is sound, or no cache text
value_or_none : (w : World) (s : Scope) (keys : Keys) (v : Result (List Id) CacheFail) → MatchResult v (All (IsSoundEntry w s keys)) (λ _. ⊥) → IfOk v (All (IsSoundEntry w s keys))
value_or_none w s keys (Ok entries) sound = sound
value_or_none w s keys (Err fail) sound = tt

ring_or_none : (rows : List GitRow) (sigs : List SigRow) (task : Task) (kept : Option (List ℕ)) (v : Result Ring EngineFail)
    → IfOk v (λ ring. IsSoundValue (world_in rows sigs task ring) (scope_of task ring) ring.keys kept)
    → IfOk v (λ ring. HasSoundEntries (world_in rows sigs task ring) (scope_of task ring) ring.keys kept)
ring_or_none rows sigs task kept (Ok ring) sound = value_or_none (world_in rows sigs task ring) (scope_of task ring) ring.keys (entries_of (scope_of task ring) kept) sound
ring_or_none rows sigs task kept (Err fail) sound = tt

pub sound_or_none : (rows : List GitRow) (sigs : List SigRow) (task : Task) (kept : Option (List ℕ)) → IsSoundCache rows sigs task kept → IsSoundOrNone rows sigs task kept
sound_or_none rows sigs task kept sound = ring_or_none rows sigs task kept (ring_of rows task) sound

-- the entries that were read of what is sound or no cache text
pub entries_sound : (rows : List GitRow) (sigs : List SigRow) (task : Task) (kept : Option (List ℕ)) (start : Start) (entries : List Id)
    → Ok start ≡ start_of rows task → Ok entries ≡ entries_of (scope_of task start.ring) kept → IsSoundOrNone rows sigs task kept
    → All (IsSoundEntry (world_in rows sigs task start.ring) (scope_of task start.ring) start.ring.keys) entries
entries_sound rows sigs task kept start entries begins cached sound =
    let of_ring = subst (λ (r : Result Ring EngineFail). IfOk r (λ ring. HasSoundEntries (world_in rows sigs task ring) (scope_of task ring) ring.keys kept)) (ring_behind rows task start (sym begins)) sound in
    subst (λ (v : Result (List Id) CacheFail). IfOk v (All (IsSoundEntry (world_in rows sigs task start.ring) (scope_of task start.ring) start.ring.keys))) (sym cached) of_ring

no_target : (rows : List GitRow) (sigs : List SigRow) (task : Task) (kept : Option (List ℕ)) (fail : EngineFail) → IsSoundCache rows sigs task kept
    → IsOutcome rows sigs task kept (Err fail) → IsOk {T = Verdict} {E = EngineFail} (Err fail) ↔ HasAuthenticTarget rows sigs task
no_target rows sigs task kept fail sound outcome = (λ ok. absurd (false≢true ok), λ has. absurd (none has))
  where
    none : HasAuthenticTarget rows sigs task → ⊥
    none has =
        let w = world_in rows sigs task has.start.ring in
        let s = scope_of task has.start.ring in
        let value : IsSoundValue w s has.start.ring.keys kept = subst (λ (r : Result Ring EngineFail). IfOk r (λ ring. IsSoundValue (world_in rows sigs task ring) (scope_of task ring) ring.keys kept)) (ring_behind rows task has.start has.begins) sound in
        let found = sound_entries w s has.start.ring.keys kept (entries_of s kept) refl value in
        no_finding w task has.start found.0 fail has.authentic (finding_at rows sigs task kept has.start found.0 (Err fail) has.begins found.1 outcome)

has_target : (rows : List GitRow) (sigs : List SigRow) (task : Task) (kept : Option (List ℕ)) (verdict : Verdict) (s : Result Start EngineFail) → start_of rows task ≡ s
    → MatchResult s (FindsUnder rows sigs task kept (Ok verdict)) (λ fail. ◌≡◌ {A = Result Verdict EngineFail} (Ok verdict) (Err fail))
    → HasAuthenticTarget rows sigs task
has_target rows sigs task kept verdict (Err fail) begins finding = grind (arith, finding)
has_target rows sigs task kept verdict (Ok start) begins finding = by_entries (entries_of (scope_of task start.ring) kept) finding
  where
    by_entries : (c : Result (List Id) CacheFail)
        → MatchResult c (λ entries. IsFinding (world_in rows sigs task start.ring) task start entries (Ok verdict)) (λ fail. ◌≡◌ {A = Result Verdict EngineFail} (Ok verdict) (Err (Cache fail)))
        → HasAuthenticTarget rows sigs task
    by_entries (Ok entries) found = record { start = start; begins = begins; authentic = found.0 }
    by_entries (Err fail) found = grind (arith, found)

pub accepted_authentic : (rows : List GitRow) (sigs : List SigRow) (task : Task) (kept : Option (List ℕ)) (verdict : Verdict) → IsOutcome rows sigs task kept (Ok verdict) → HasAuthenticTarget rows sigs task
accepted_authentic rows sigs task kept verdict outcome = has_target rows sigs task kept verdict (start_of rows task) refl outcome

pub authentic : (rows : List GitRow) (sigs : List SigRow) (task : Task) (kept : Option (List ℕ)) (result : Result Verdict EngineFail) → IsSoundCache rows sigs task kept
    → OnFinding result (IsOutcome rows sigs task kept result) → OnFinding result (IsOk result ↔ HasAuthenticTarget rows sigs task)
authentic rows sigs task kept (Ok verdict) sound outcome = (λ ok. accepted_authentic rows sigs task kept verdict outcome, λ has. refl)
authentic rows sigs task kept (Err fail) sound outcome = on_map {T = Verdict} (Err fail) _ _ (no_target rows sigs task kept fail sound) outcome

-- ---- facts that were said of other places

pub moved : (P : List ℕ → List SigRow → List ℕ → Scope → Type 0) (dir dir' : List ℕ) (sigs sigs' : List SigRow) (bytes bytes' : List ℕ) (s s' : Scope)
    → dir ≡ dir' → sigs ≡ sigs' → bytes ≡ bytes' → s ≡ s' → P dir sigs bytes s → P dir' sigs' bytes' s'
moved P dir dir' sigs sigs' bytes bytes' s s' d g b c p =
    subst (λ (x : List ℕ). P x sigs' bytes' s') d (subst (λ (x : List SigRow). P dir x bytes' s') g (subst (λ (x : List ℕ). P dir sigs x s') b (subst (λ (x : Scope). P dir sigs bytes x) c p)))
