-- Questions, step by step.
use Rattle.std.proofs.Common.{◌≡◌, ◌≢◌, ◌⊎◌, inl, inr, ℕ, ◌+◌, ◌≤◌, Bool, true, false, cond, List, [], ◌∷◌, length, Option, Some, None, is_none, Result, Ok, Err, refl, sym, ap, ap₂, subst, ◌∙◌, arith}
use Rattle.std.specs.Prelude.{All, AllPairs, Contains, MatchResult}
use Rattle.std.specs.Result.{result_map_both}
use Rattle.child_ports.specs.declared.git.GitRow.{GitRow}
use Rattle.child_ports.specs.declared.sig.SigRow.{SigRow}
use Rattle.child_ports.specs.Causes.{AtMostOnce}
use Rattle.child_ports.specs.KeySet.{Keys}
use Rattle.child_ports.specs.declared.fingerprint.Fingerprint.{Fingerprint}
use Rattle.authorizations.specs.declared.scope.Scope.{Scope}
use Rattle.auth_cache.specs.declared.fail.CacheFail.{CacheFail}
use Rattle.commit_graph.specs.Covers.{Parenthood, IsCovered, AreUncovered}
use Rattle.commit_graph.specs.Chains.{Reaches}
use Rattle.commit_graph.specs.History.{Commits, History, IsParent}
use Rattle.auth_rules.specs.declared.cause.Cause.{Cause}
use Rattle.auth_rules.specs.Answers.{is_intro_asked, AskedWhen}
use Rattle.auth_rules.specs.Rules.{first, root_fault, unsigned, signature_cause, judged_of, has_file, intro_cause}
use Rattle.auth_rules.specs.World.{World, Id}
use Rattle.commit_history.specs.declared.fail.HistoryFail.{HistoryFail}
use Rattle.commit_history.specs.declared.fail.HistoryFail.TheVariants as read
use Rattle.commit_history.specs.Members.{history, IsWhole}
use Rattle.commit_history.specs.Answers.{HoldsHistory}
use Rattle.commit_history.proofs.CarryLemmas.{history_uncovered}
use Rattle.auth_engine.specs.declared.task.Task.{Task}
use Rattle.auth_engine.specs.declared.task.Verdict.{Verdict}
use Rattle.auth_engine.specs.declared.starting.Start.{Start}
use Rattle.auth_engine.specs.declared.engine_fail.EngineFail.{EngineFail}
use Rattle.auth_engine.specs.declared.engine_fail.EngineFail.TheVariants.{Name, Keyring, Cache, TooMany, Object as OfObject, Cycle, Intro, Unrelated, Commit, GitFault, SigFault, KeepFault, Memory}
use Rattle.auth_engine.specs.Answers.{Gives, IsStop}
use Rattle.auth_engine.specs.Asked.{intro_questions, AsksIntro, StandsBehind, AsksSome, AsksAtMost, AsksNew, AsksFor, Asks}
use Rattle.auth_engine.specs.Judging.{FirstRefused, AsksAll, JudgesAll, AskedAtMost, more, questions}
use Rattle.auth_engine.specs.Starting.{start_of, scope_of, world_in, entries_of, cached_of}
use Rattle.auth_engine.specs.Steps.{engine_fail, JudgesIntro, JudgesNew}
use Rattle.auth_engine.proofs.DistinctLemmas.{length-le_distinct}
use Rattle.auth_engine.proofs.NewLemmas.{different}

-- ---- the list of uncovered commits has one length

module _ (P : Parenthood) (target intro : Id) (entries : List Id) where
  pub uncovered_count : (one other : List Id) → AreUncovered P target intro entries one → AreUncovered P target intro entries other → length one ≤ length other
  uncovered_count one other new another =
      let pairs : AllPairs ◌≢◌ one = λ i j d lt low. different P _ _ (new.order i j d lt low) in
      let all : All (Contains other) one = λ k d low. elim (another.complete _ (new.reached k d low)) [
        | inl has ↦ has
        | inr covered ↦ absurd (new.bare k d low covered)
      ] in
      length-le_distinct one other pairs all

  -- what is said of some list is said of every one
  abbrev AsksEvery : ℕ → ℕ → Type 0
  AsksEvery before now = (commits : List Id) → AreUncovered P target intro entries commits → AskedAtMost (1 + length commits) before now

  pub some_at_most : (before mid now : ℕ) → AtMostOnce before mid → AsksSome P target intro entries mid now → AsksEvery before now
  some_at_most before mid now once (inl same) = λ commits new. (omega (arith, once, same), omega (arith, once, same))
  some_at_most before mid now once (inr some) = λ commits new.
      let count = uncovered_count some.0 commits some.1 new in
      (omega (arith, once, some.2), omega (arith, once, some.2, count))

-- at most one question over a history that can be judged
at_most_one : (w : World) (target intro : Id) (entries : List Id) (before now : ℕ) → IsWhole w target intro → AtMostOnce before now → AsksAtMost w target intro entries before now
at_most_one w target intro entries before now whole once = inr (whole, some_at_most (history w) target intro entries before now now once (inl refl))

-- ---- no question

module _ (w : World) (task : Task) (start : Start) (entries : List Id) (before now : ℕ) where
  pub stop_asks_for : (fail : EngineFail) → IsStop fail → now ≡ before → AsksFor w task start entries (Err fail) before now
  stop_asks_for GitFault stop same = inl same
  stop_asks_for SigFault stop same = inl same
  stop_asks_for KeepFault stop same = same
  stop_asks_for Memory stop same = inl same
  stop_asks_for (Name which what) stop same = absurd stop
  stop_asks_for (Keyring fail) stop same = absurd stop
  stop_asks_for (Cache fail) stop same = absurd stop
  stop_asks_for TooMany stop same = absurd stop
  stop_asks_for (OfObject id what) stop same = absurd stop
  stop_asks_for (Cycle id) stop same = absurd stop
  stop_asks_for (Intro id why) stop same = absurd stop
  stop_asks_for (Unrelated target intro) stop same = absurd stop
  stop_asks_for (Commit id why) stop same = absurd stop

  unread_asks_for : (fail : HistoryFail) → now ≡ before → AsksFor w task start entries (Err (engine_fail fail)) before now
  unread_asks_for read.TooMany same = same
  unread_asks_for (read.Object id what) same = same
  unread_asks_for (read.Cycle id) same = same
  unread_asks_for read.GitFault same = inl same
  unread_asks_for read.Memory same = inl same

gives_stop : {A : Type 0} (fail : EngineFail) (x : A) → Gives (Err fail) (Ok x) → IsStop fail
gives_stop GitFault x gives = tt
gives_stop SigFault x gives = tt
gives_stop KeepFault x gives = tt
gives_stop Memory x gives = tt
gives_stop (Name which what) x gives = grind (arith, gives)
gives_stop (Keyring fail) x gives = grind (arith, gives)
gives_stop (Cache fail) x gives = grind (arith, gives)
gives_stop TooMany x gives = grind (arith, gives)
gives_stop (OfObject id what) x gives = grind (arith, gives)
gives_stop (Cycle id) x gives = grind (arith, gives)
gives_stop (Intro id why) x gives = grind (arith, gives)
gives_stop (Unrelated target intro) x gives = grind (arith, gives)
gives_stop (Commit id why) x gives = grind (arith, gives)

module _ (rows : List GitRow) (sigs : List SigRow) (task : Task) (kept : Option (List ℕ)) (before now : ℕ) where
  abbrev AsksUnder : Result Verdict EngineFail → Start → Type 0
  AsksUnder result start = MatchResult (entries_of (scope_of task start.ring) kept)
      (λ entries. AsksFor (world_in rows sigs task start.ring) task start entries result before now)
      (λ _. now ≡ before)

  stop_under : (fail : EngineFail) (start : Start) → IsStop fail → now ≡ before → (v : Result (List Id) CacheFail)
      → MatchResult v (λ entries. AsksFor (world_in rows sigs task start.ring) task start entries (Err fail) before now) (λ _. now ≡ before)
  stop_under fail start stop same (Ok entries) = stop_asks_for (world_in rows sigs task start.ring) task start entries before now fail stop same
  stop_under fail start stop same (Err why) = same

  stop_at : (fail : EngineFail) → IsStop fail → now ≡ before → (v : Result Start EngineFail) → MatchResult v (AsksUnder (Err fail)) (λ _. now ≡ before)
  stop_at fail stop same (Ok start) = stop_under fail start stop same (entries_of (scope_of task start.ring) kept)
  stop_at fail stop same (Err why) = same

  -- a fault and want of memory before any question
  pub stop_asks : (fail : EngineFail) → IsStop fail → now ≡ before → Asks rows sigs task kept (Err fail) before now
  stop_asks fail stop same = stop_at fail stop same (start_of rows task)

  unstarted : (fail : EngineFail) → now ≡ before → (v : Result Start EngineFail) → Gives (Err fail) v → MatchResult v (AsksUnder (Err fail)) (λ _. now ≡ before)
  unstarted fail same (Ok start) gives = stop_under fail start (gives_stop fail start gives) same (entries_of (scope_of task start.ring) kept)
  unstarted fail same (Err why) gives = same

  -- target, introduction or keyring can't be had
  pub unstarted_asks : (fail : EngineFail) → Gives (Err fail) (start_of rows task) → now ≡ before → Asks rows sigs task kept (Err fail) before now
  unstarted_asks fail gives same = unstarted fail same (start_of rows task) gives

  module _ (start : Start) (begins : Ok start ≡ start_of rows task) where
    at_start : (result : Result Verdict EngineFail) → AsksUnder result start → Asks rows sigs task kept result before now
    at_start result asks = subst (λ (s : Result Start EngineFail). MatchResult s (AsksUnder result) (λ _. now ≡ before)) begins asks

    uncached : (fail : EngineFail) → now ≡ before → (v : Result (List Id) CacheFail) → entries_of (scope_of task start.ring) kept ≡ v → Gives (Err fail) (cached_of (scope_of task start.ring) kept) → AsksUnder (Err fail) start
    uncached fail same (Err why) is gives = subst (λ (c : Result (List Id) CacheFail). MatchResult c (λ entries. AsksFor (world_in rows sigs task start.ring) task start entries (Err fail) before now) (λ _. now ≡ before)) (sym is) same
    uncached fail same (Ok entries) is gives =
        let stop : IsStop fail = gives_stop fail entries (subst (λ (c : Result (List Id) CacheFail). Gives (Err fail) (result_map_both (λ entries. entries) Cache c)) is gives) in
        stop_under fail start stop same (entries_of (scope_of task start.ring) kept)

    -- what is kept gives no entries
    pub uncached_asks : (fail : EngineFail) → Gives (Err fail) (cached_of (scope_of task start.ring) kept) → now ≡ before → Asks rows sigs task kept (Err fail) before now
    uncached_asks fail gives same = at_start (Err fail) (uncached fail same (entries_of (scope_of task start.ring) kept) refl gives)

    module _ (entries : List Id) (cached : Ok entries ≡ entries_of (scope_of task start.ring) kept) where
      -- the questions of what was found
      pub finding_asks : (result : Result Verdict EngineFail) → AsksFor (world_in rows sigs task start.ring) task start entries result before now → Asks rows sigs task kept result before now
      finding_asks result asks = at_start result (subst (λ (c : Result (List Id) CacheFail). MatchResult c (λ entries. AsksFor (world_in rows sigs task start.ring) task start entries result before now) (λ _. now ≡ before)) cached asks)

      pub unread_asks : (fail : HistoryFail) → now ≡ before → Asks rows sigs task kept (Err (engine_fail fail)) before now
      unread_asks fail same = finding_asks (Err (engine_fail fail)) (unread_asks_for (world_in rows sigs task start.ring) task start entries before now fail same)

-- ---- the introduction

none_first : {A : Type 0} (o p : Option A) (rest : List (Option A)) → first (o ∷ p ∷ rest) ≡ None → (o ≡ None) × (p ≡ None)
none_first (Some x) p rest e = cc
none_first None (Some x) rest e = cc
none_first None None rest e = (refl, refl)

head_none : {A : Type 0} (o : Option A) (rest : List (Option A)) → first (o ∷ rest) ≡ None → o ≡ None
head_none (Some x) rest e = cc
head_none None rest e = refl

-- an introduction that has no cause against it was asked about
intro_was_asked : (w : World) (s : Scope) (keys : Keys) → intro_cause w s keys ≡ None → is_intro_asked w s.intro ≡ true
intro_was_asked w s keys e =
    let both = none_first (root_fault w s.intro) (signature_cause (judged_of w s.intro) (has_file w s.intro) keys) _ e in
    ap₂ (λ o p. is_none (first (o ∷ p ∷ []))) both.0 (head_none (unsigned (judged_of w s.intro)) _ both.1)

as_more : (due : Bool) (before now : ℕ) → AskedWhen due before now → now ≡ more (cond due 1 0) before
as_more true before now h = h
as_more false before now h = omega arith

pub intro_accepted_asks : (w : World) (s : Scope) (keys : Keys) (before now : ℕ) → intro_cause w s keys ≡ None → AskedWhen (is_intro_asked w s.intro) before now → now ≡ more 1 before
intro_accepted_asks w s keys before now none asked = subst (λ due. now ≡ more (cond due 1 0) before) (intro_was_asked w s keys none) (as_more (is_intro_asked w s.intro) before now asked)

pub intro_refused_asks : (w : World) (i : Id) (before now : ℕ) → AskedWhen (is_intro_asked w i) before now → now ≡ more (intro_questions w i) before
intro_refused_asks w i before now asked = as_more (is_intro_asked w i) before now asked

-- an introduction that isn't accepted
pub intro_asks_for : (w : World) (task : Task) (start : Start) (entries : List Id) (keys : Keys) (fail : EngineFail) (before now : ℕ)
    → IsWhole w start.target task.intro → JudgesIntro {T = Unit {0}} w (scope_of task start.ring) keys (Err fail) → AsksIntro {T = Unit {0}} w task.intro (Err fail) before now → AtMostOnce before now
    → AsksFor w task start entries (Err fail) before now
intro_asks_for w task start entries keys (Intro id why) before now whole judges asks once = asks
intro_asks_for w task start entries keys GitFault before now whole judges asks once = at_most_one w start.target task.intro entries before now whole once
intro_asks_for w task start entries keys SigFault before now whole judges asks once = at_most_one w start.target task.intro entries before now whole once
intro_asks_for w task start entries keys Memory before now whole judges asks once = at_most_one w start.target task.intro entries before now whole once
intro_asks_for w task start entries keys KeepFault before now whole judges asks once = absurd judges
intro_asks_for w task start entries keys (Name which what) before now whole judges asks once = absurd judges
intro_asks_for w task start entries keys (Keyring fail) before now whole judges asks once = absurd judges
intro_asks_for w task start entries keys (Cache fail) before now whole judges asks once = absurd judges
intro_asks_for w task start entries keys TooMany before now whole judges asks once = absurd judges
intro_asks_for w task start entries keys (OfObject id what) before now whole judges asks once = absurd judges
intro_asks_for w task start entries keys (Cycle id) before now whole judges asks once = absurd judges
intro_asks_for w task start entries keys (Unrelated target intro) before now whole judges asks once = absurd judges
intro_asks_for w task start entries keys (Commit id why) before now whole judges asks once = absurd judges

-- ---- the commits that aren't covered

module _ (w : World) (s : Scope) (keys : Keys) (P : Parenthood) (target : Id) (entries commits : List Id) (new : AreUncovered P target s.intro entries commits) (before now : ℕ) where
  pub refused_asks_new : (fail : EngineFail) → AskedAtMost (length commits) before now → AsksAll w s keys commits (Err fail) before now → AsksNew w P target s.intro entries (Err fail) before now
  refused_asks_new (Commit id why) most asks = (asks.0.front, record { commits = commits; uncovered = new; rest = asks.0.rest; parts = asks.0.parts }, asks.1)
  refused_asks_new GitFault most asks = inr (commits, new, most)
  refused_asks_new SigFault most asks = inr (commits, new, most)
  refused_asks_new KeepFault most asks = inr (commits, new, most)
  refused_asks_new Memory most asks = inr (commits, new, most)
  refused_asks_new (Name which what) most asks = inr (commits, new, most)
  refused_asks_new (Keyring fail) most asks = inr (commits, new, most)
  refused_asks_new (Cache fail) most asks = inr (commits, new, most)
  refused_asks_new TooMany most asks = inr (commits, new, most)
  refused_asks_new (OfObject id what) most asks = inr (commits, new, most)
  refused_asks_new (Cycle id) most asks = inr (commits, new, most)
  refused_asks_new (Intro id why) most asks = inr (commits, new, most)
  refused_asks_new (Unrelated other intro) most asks = inr (commits, new, most)

-- the refusal among the uncovered commits
pub refused_judges_new : (w : World) (task : Task) (s : Scope) (keys : Keys) (held : Commits) (target : Id) (entries commits : List Id) (older : Bool) (fail : EngineFail)
    → AreUncovered (IsParent held) target s.intro entries commits → JudgesAll w s keys commits (Err fail) → JudgesNew w task s keys held target entries older (Err fail)
refused_judges_new w task s keys held target entries commits older (Commit id why) new judges = record { commits = commits; uncovered = new; first = judges }
refused_judges_new w task s keys held target entries commits older GitFault new judges = tt
refused_judges_new w task s keys held target entries commits older SigFault new judges = tt
refused_judges_new w task s keys held target entries commits older Memory new judges = tt
refused_judges_new w task s keys held target entries commits older KeepFault new judges = absurd judges
refused_judges_new w task s keys held target entries commits older (Name which what) new judges = absurd judges
refused_judges_new w task s keys held target entries commits older (Keyring fail) new judges = absurd judges
refused_judges_new w task s keys held target entries commits older (Cache fail) new judges = absurd judges
refused_judges_new w task s keys held target entries commits older TooMany new judges = absurd judges
refused_judges_new w task s keys held target entries commits older (OfObject id what) new judges = absurd judges
refused_judges_new w task s keys held target entries commits older (Cycle id) new judges = absurd judges
refused_judges_new w task s keys held target entries commits older (Intro id why) new judges = absurd judges
refused_judges_new w task s keys held target entries commits older (Unrelated other intro) new judges = absurd judges

pub stop_asks_new : (w : World) (P : Parenthood) (target intro : Id) (entries : List Id) (before now : ℕ) (fail : EngineFail) → IsStop fail → now ≡ before → AsksNew w P target intro entries (Err fail) before now
stop_asks_new w P target intro entries before now GitFault stop same = inl same
stop_asks_new w P target intro entries before now SigFault stop same = inl same
stop_asks_new w P target intro entries before now KeepFault stop same = inl same
stop_asks_new w P target intro entries before now Memory stop same = inl same
stop_asks_new w P target intro entries before now (Name which what) stop same = absurd stop
stop_asks_new w P target intro entries before now (Keyring fail) stop same = absurd stop
stop_asks_new w P target intro entries before now (Cache fail) stop same = absurd stop
stop_asks_new w P target intro entries before now TooMany stop same = absurd stop
stop_asks_new w P target intro entries before now (OfObject id what) stop same = absurd stop
stop_asks_new w P target intro entries before now (Cycle id) stop same = absurd stop
stop_asks_new w P target intro entries before now (Intro id why) stop same = absurd stop
stop_asks_new w P target intro entries before now (Unrelated other intro2) stop same = absurd stop
stop_asks_new w P target intro entries before now (Commit id why) stop same = absurd stop

-- ---- the whole decision, in a graph that holds the history

summed : (n before mid now : ℕ) → mid ≡ more 1 before → now ≡ more n mid → now ≡ more (1 + n) before
summed n before mid now h k = omega arith

one_once : (before mid : ℕ) → mid ≡ more 1 before → AtMostOnce before mid
one_once before mid h = (omega arith, omega arith)

module _ (w : World) (task : Task) (start : Start) (entries : List Id) (graph : History) (whole : IsWhole w start.target task.intro) (holds : HoldsHistory w start.target task.intro graph) (before mid now : ℕ) (intro : mid ≡ more 1 before) where
  behind_there : (id : Id) (front : List Id) → StandsBehind (IsParent graph.held) start.target task.intro entries id front → StandsBehind (history w) start.target task.intro entries id front
  behind_there id front behind = record { commits = behind.commits; uncovered = history_uncovered w start.target task.intro graph holds entries behind.commits behind.uncovered; rest = behind.rest; parts = behind.parts }

  some_there : AsksSome (IsParent graph.held) start.target task.intro entries mid now → AsksAtMost w start.target task.intro entries before now
  some_there (inl same) = inr (whole, some_at_most (history w) start.target task.intro entries before mid now (one_once before mid intro) (inl same))
  some_there (inr some) = inr (
    whole,
    some_at_most (history w) start.target task.intro entries before mid now (one_once before mid intro)
        (inr (some.0, history_uncovered w start.target task.intro graph holds entries some.0 some.1, some.2)),
  )

  pub decided_asks : (s : Scope) (keys : Keys) (older : Bool) (result : Result Verdict EngineFail) → JudgesNew w task s keys graph.held start.target entries older result
      → AsksNew w (IsParent graph.held) start.target task.intro entries result mid now → AsksFor w task start entries result before now
  decided_asks s keys older (Ok verdict) judges asks = summed verdict.judged before mid now intro asks
  decided_asks s keys older (Err (Commit id why)) judges asks = (asks.0, behind_there id asks.0 asks.1, summed (length asks.0 + questions w id) before mid now intro asks.2)
  decided_asks s keys older (Err GitFault) judges asks = some_there asks
  decided_asks s keys older (Err SigFault) judges asks = some_there asks
  decided_asks s keys older (Err Memory) judges asks = some_there asks
  decided_asks s keys older (Err KeepFault) judges asks = absurd judges
  decided_asks s keys older (Err (Name which what)) judges asks = absurd judges
  decided_asks s keys older (Err (Keyring fail)) judges asks = absurd judges
  decided_asks s keys older (Err (Cache fail)) judges asks = absurd judges
  decided_asks s keys older (Err TooMany) judges asks = absurd judges
  decided_asks s keys older (Err (OfObject id what)) judges asks = absurd judges
  decided_asks s keys older (Err (Cycle id)) judges asks = absurd judges
  decided_asks s keys older (Err (Intro id why)) judges asks = absurd judges
  decided_asks s keys older (Err (Unrelated target other)) judges asks = absurd judges
