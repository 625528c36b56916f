-- What channels come to over what is kept for them, and their questions, step by step.
use Rattle.std.proofs.Common.{◌≡◌, ◌⊎◌, inl, inr, ℕ, ◌+◌, ◌≤◌, List, [], ◌∷◌, ◌++◌, map, length, length-append, take, drop, Option, Some, Ok, Err, refl, sym, ap, subst, ◌∙◌, arith}
use Rattle.std.specs.Prelude.{Result, flat_map, MatchResult}
use Rattle.std.proofs.lemmas.List.{take-append-drop}
use Rattle.child_ports.specs.declared.git.GitRow.{GitRow}
use Rattle.child_ports.specs.declared.sig.SigRow.{SigRow}
use Rattle.auth_cache.specs.declared.fail.CacheFail.{CacheFail}
use Rattle.auth_rules.specs.World.{Id}
use Rattle.auth_engine.specs.declared.task.Task.{Task}
use Rattle.auth_engine.specs.declared.task.Verdict.{Verdict}
use Rattle.auth_engine.specs.declared.starting.Start.{Start}
use Rattle.auth_engine.specs.declared.engine_fail.EngineFail.{EngineFail}
use Rattle.auth_engine.specs.Asked.{Asks, AsksFor}
use Rattle.auth_engine.specs.Judging.{more}
use Rattle.auth_engine.specs.Outcome.{IsJudgedVerdict, IsVerdictOver}
use Rattle.auth_engine.specs.Starting.{start_of, scope_of, world_in, entries_of}
use Rattle.channel_file.specs.declared.channel.Channel.{Channel}
use Rattle.channel_file.specs.declared.channel.Introduction.{Introduction}
use Rattle.channel_deps.specs.declared.set.SetTask.{SetTask}
use Rattle.channel_deps.specs.declared.set.SetVerdict.{SetVerdict}
use Rattle.channel_deps.specs.declared.set.Move.{Move}
use Rattle.channel_deps.specs.declared.set_fail.SetFail.{SetFail}
use Rattle.channel_deps.specs.declared.set_fail.SetFail.TheVariants as fail
use Rattle.channel_deps.specs.declared.known.Known.{Known}
use Rattle.channel_deps.specs.declared.known.Checked.{Checked}
use Rattle.channel_deps.specs.declared.known.Taken.{Taken}
use Rattle.channel_deps.specs.declared.walking.Walk.{Walk}
use Rattle.channel_deps.specs.Answers.{Gives}
use Rattle.channel_deps.specs.Asked.{AsksToPass, AsksToRefuse, StopsUnasked, AsksPassed, AsksStopped, AsksEach, AsksUpTo, AsksChecking, GoesOn, GoesNext}
use Rattle.channel_deps.specs.Members.{with_mentions}
use Rattle.channel_deps.specs.Moves.{IsMove}
use Rattle.channel_deps.specs.Outcome.{taken_as, listed}
use Rattle.channel_deps.specs.Outside.{Outside}
use Rattle.channel_deps.specs.Over.{IsChannelVerdict, IsCheckedOver, IsTakenOver, AreTakenOver, HasTakenOver, IsSetVerdictOver}
use Rattle.channel_deps.specs.Reading.{known_of}
use Rattle.channel_deps.specs.Standings.{introduction_for, standing_of}
use Rattle.channel_deps.specs.Steps.{IsAt, HasTakenUp, TakesUp}
use Rattle.channel_deps.proofs.MemberLemmas.{no_shorter}
use Rattle.channel_deps.proofs.WalkLemmas.{map_more, flat_more, listed_more, known_none, known_more, front_channels, next_channels, take_whole, drop_whole}

-- ---- one check

module _ (rows : List GitRow) (sigs : List SigRow) (task : Task) (kept : Option (List ℕ)) (verdict : Verdict) (before now : ℕ) where
  at_entries : (start : Start) (v : Result (List Id) CacheFail)
      → MatchResult v (λ entries. IsJudgedVerdict (world_in rows sigs task start.ring) task start entries verdict) (λ _. ⊥)
      → MatchResult v (λ entries. AsksFor (world_in rows sigs task start.ring) task start entries (Ok verdict) before now) (λ _. now ≡ before)
      → now ≡ more (1 + verdict.judged) before
  at_entries start (Ok entries) over asks = asks
  at_entries start (Err why) over asks = absurd over

  at_start : (v : Result Start EngineFail)
      → MatchResult v (λ start. MatchResult (entries_of (scope_of task start.ring) kept) (λ entries. IsJudgedVerdict (world_in rows sigs task start.ring) task start entries verdict) (λ _. ⊥)) (λ _. ⊥)
      → MatchResult v (λ start. MatchResult (entries_of (scope_of task start.ring) kept) (λ entries. AsksFor (world_in rows sigs task start.ring) task start entries (Ok verdict) before now) (λ _. now ≡ before)) (λ _. now ≡ before)
      → now ≡ more (1 + verdict.judged) before
  at_start (Ok start) over asks = at_entries start (entries_of (scope_of task start.ring) kept) over asks
  at_start (Err why) over asks = absurd over

  -- what an accepted target takes
  pub accepted_asks : IsVerdictOver rows sigs task kept verdict → Asks rows sigs task kept (Ok verdict) before now → now ≡ more (1 + verdict.judged) before
  accepted_asks over asks = at_start (start_of rows task) over asks

pub checked_over : (o : Outside) (s : SetTask) (channel : Channel) (known : Known) (introduction : Introduction) (verdict : Verdict) → IsChannelVerdict o s channel known introduction verdict
    → IsCheckedOver o s channel known (Some introduction) (record { standing = standing_of verdict.older; cache = verdict.store })
checked_over o s channel known introduction verdict over = (verdict, over, refl)

-- ---- one channel

gives_asks : (e : SetFail) (v : Result Known SetFail) (P : Known → Type 0) (count : ℕ) → Gives {T = Known} (Err e) v → StopsUnasked e count count ⊎ MatchResult v P (λ _. count ≡ count)
gives_asks fail.GitFault v P count given = inl refl
gives_asks fail.SigFault v P count given = inl refl
gives_asks fail.KeepFault v P count given = inl refl
gives_asks fail.Memory v P count given = inl refl
gives_asks e v P count given = inr (subst (λ (k : Result Known SetFail). MatchResult k P (λ _. count ≡ count)) given refl)

module _ (o : Outside) (s : SetTask) (channel : Channel) where
  abbrev StopsWith : SetFail → ℕ → ℕ → Result Known SetFail → Type 0
  StopsWith e before now known = MatchResult known
      (λ k. AsksToPass o s channel k (introduction_for s channel) before now ⊎ AsksToRefuse o s channel k (introduction_for s channel) e before now)
      (λ _. now ≡ before)

  pub taken_over : (known : Known) (check : Checked) (to : Move) (t : Taken) → Ok known ≡ known_of o.answers s.clones channel → IsCheckedOver o s channel known (introduction_for s channel) check
      → IsMove o s.clones s.allow_downgrades channel known.target (Ok to) → t ≡ taken_as channel known check to → IsTakenOver o s channel t
  taken_over known check to t is checked moved made =
      subst (λ (k : Result Known SetFail). MatchResult k (λ known. (check : Checked) × IsCheckedOver o s channel known (introduction_for s channel) check
      × (to : Move) × IsMove o s.clones s.allow_downgrades channel known.target (Ok to) × (t ≡ taken_as channel known check to)) (λ _. ⊥)) is (check, checked, to, moved, made)

  -- it can't be read
  pub unread_asks : (e : SetFail) (count : ℕ) → Gives {T = Known} (Err e) (known_of o.answers s.clones channel) → AsksStopped o s channel e count count
  unread_asks e count given = gives_asks e (known_of o.answers s.clones channel) _ count given

  -- its check ends the set
  pub refused_asks : (known : Known) (e : SetFail) (before now : ℕ) → Ok known ≡ known_of o.answers s.clones channel → AsksChecking o s channel known (introduction_for s channel) (Err e) before now
      → AsksStopped o s channel e before now
  refused_asks known e before now is (inl stop) = inl stop
  refused_asks known e before now is (inr refused) = inr (subst (StopsWith e before now) is (inr refused))

  pub passed_asks : (known : Known) (before now : ℕ) → Ok known ≡ known_of o.answers s.clones channel → AsksToPass o s channel known (introduction_for s channel) before now → AsksPassed o s channel before now
  passed_asks known before now is asks = subst (λ (k : Result Known SetFail). MatchResult k (λ known. AsksToPass o s channel known (introduction_for s channel) before now) (λ _. ⊥)) is asks

  -- it passes, and what follows ends the set
  pub passed_stops : (e : SetFail) (before now : ℕ) → AsksPassed o s channel before now → AsksStopped o s channel e before now
  passed_stops e before now asks = inr (by_known (known_of o.answers s.clones channel) asks)
    where
      by_known : (k : Result Known SetFail) → MatchResult k (λ known. AsksToPass o s channel known (introduction_for s channel) before now) (λ _. ⊥) → StopsWith e before now k
      by_known (Ok known) passed = inl passed
      by_known (Err why) passed = absurd passed

  pub goes_on : (walk : Walk) (t : Taken) (result : Result Walk SetFail) (before now : ℕ) → IsTakenOver o s channel t → AsksPassed o s channel before now → TakesUp walk t result
      → GoesOn o s channel walk result before now
  goes_on walk t (Ok new) before now over asks up = (t, over, up, asks)
  goes_on walk t (Err e) before now over asks up = passed_stops e before now asks

-- ---- the walk

over_more : (o : Outside) (s : SetTask) (cs : List Channel) (ts : List Taken) (c : Channel) (t : Taken) → AreTakenOver o s cs ts → IsTakenOver o s c t → AreTakenOver o s (cs ++ c ∷ []) (ts ++ t ∷ [])
over_more o s [] [] c t all one = (one, tt)
over_more o s [] (x ∷ ts) c t all one = absurd all
over_more o s (d ∷ cs) [] c t all one = absurd all
over_more o s (d ∷ cs) (x ∷ ts) c t all one = (all.0, over_more o s cs ts c t all.1 one)

asks_more : (o : Outside) (s : SetTask) (cs : List Channel) (c : Channel) (before mid now : ℕ) → AsksEach o s cs before mid → AsksPassed o s c mid now → AsksEach o s (cs ++ c ∷ []) before now
asks_more o s [] c before mid now same passed = (now, subst (λ (n : ℕ). AsksPassed o s c n now) same passed, refl)
asks_more o s (d ∷ cs) c before mid now each passed = (each.0, each.1, asks_more o s cs c each.0 mid now each.2 passed)

-- the channels before a place passed, with these questions, and the walk has what was found of them
pub record HasGone (o : Outside) (s : SetTask) (i : ℕ) (walk : Walk) (before now : ℕ) : Type 0 where
  pub taken : List Taken
  pub front : HasTakenOver o s (take i walk.list) taken (drop i walk.list)
  pub members : walk.members ≡ map (λ (t : Taken). t.member) taken
  pub store : walk.store ≡ flat_map (λ (t : Taken). t.store) taken
  pub count : length taken ≡ i
  pub within : i ≤ length walk.list
  pub asks : AsksEach o s (take i walk.list) before now

pub none_gone : (o : Outside) (s : SetTask) (walk : Walk) (count : ℕ) → walk ≡ record { list = s.channels; members = []; store = [] } → length s.channels ≤ 256 → HasGone o s 0 walk count count
none_gone o s walk count is few = subst (λ (w : Walk). HasGone o s 0 w count count) (sym is) (record {
  taken = [];
  front = record { found = tt; list = refl; few = few; known = known_none s };
  members = refl;
  store = refl;
  count = refl;
  within = omega arith;
  asks = refl;
})

pub gone_more : (o : Outside) (s : SetTask) (i : ℕ) (walk new : Walk) (before mid now : ℕ) → HasGone o s i walk before mid → GoesNext o s i walk (Ok new) mid now → HasGone o s (i + 1) new before now
gone_more o s i walk new before mid now gone next =
    let channel = next.0 in
    let at : IsAt walk.list i channel = next.1 in
    let one = next.2 in
    let t = one.0 in
    let up : HasTakenUp walk t new = one.2 in
    let front = front_channels i walk channel at t new up in
    let whole : listed s gone.taken ≡ walk.list = gone.front.list ∙ take-append-drop i walk.list in
    record {
      taken = gone.taken ++ t ∷ [];
      front = record {
        found = subst (λ (cs : List Channel). AreTakenOver o s cs (gone.taken ++ t ∷ [])) (sym front) (over_more o s (take i walk.list) gone.taken channel t gone.front.found one.1);
        list = listed_more s gone.taken t ∙ ap (λ (l : List Channel). with_mentions l t.mentions) whole ∙ sym up.list ∙ sym (take-append-drop (i + 1) new.list);
        few = subst (λ (l : List Channel). length l ≤ 256) (sym (take-append-drop (i + 1) new.list)) up.few;
        known = known_more s gone.taken t gone.front.known (let low = at.within in omega (arith, gone.count, ap length whole));
      };
      members = up.members ∙ ap (λ l. l ++ t.member ∷ []) gone.members ∙ sym (map_more gone.taken t);
      store = up.store ∙ ap (λ l. l ++ t.store) gone.store ∙ sym (flat_more (λ (x : Taken). x.store) gone.taken t);
      count = omega (arith, length-append gone.taken (t ∷ []), gone.count);
      within = let low = at.within in omega (arith, ap length up.list, no_shorter walk.list t.mentions);
      asks = subst (λ (cs : List Channel). AsksEach o s cs before now) (sym front) (asks_more o s (take i walk.list) channel before mid now gone.asks one.3);
    }

-- the set ends with the next channel
pub gone_stops : (o : Outside) (s : SetTask) (i : ℕ) (walk : Walk) (e : SetFail) (before mid now : ℕ) → HasGone o s i walk before mid → GoesNext o s i walk (Err e) mid now → AsksUpTo o s e before now
gone_stops o s i walk e before mid now gone next = record {
  channels = take i walk.list;
  taken = gone.taken;
  channel = next.0;
  left = drop (i + 1) walk.list;
  front = subst (λ (l : List Channel). HasTakenOver o s (take i walk.list) gone.taken l) (next_channels i walk next.0 next.1) gone.front;
  between = mid;
  passed = gone.asks;
  last = next.2;
}

-- all of the list passed
pub all_gone : (o : Outside) (s : SetTask) (i : ℕ) (walk : Walk) (verdict : SetVerdict) (before now : ℕ) → HasGone o s i walk before now → length walk.list ≤ i → verdict.members ≡ walk.members → verdict.store ≡ walk.store
    → (over : IsSetVerdictOver o s verdict) × AsksEach o s over.channels before now
all_gone o s i walk verdict before now gone all members store =
    let is : i ≡ length walk.list = omega (arith, gone.within, all) in
    let before_all = subst (λ (n : ℕ). HasTakenOver o s (take n walk.list) gone.taken (drop n walk.list)) is gone.front in
    let taken = subst (λ (l : List Channel). HasTakenOver o s l gone.taken (drop (length walk.list) walk.list)) (take_whole walk.list) before_all in
    let asks = subst (λ (n : ℕ). AsksEach o s (take n walk.list) before now) is gone.asks in (
      record {
        channels = walk.list;
        taken = gone.taken;
        whole = subst (λ (l : List Channel). HasTakenOver o s walk.list gone.taken l) (drop_whole walk.list) taken;
        members = members ∙ gone.members;
        store = store ∙ gone.store;
      },
      subst (λ (cs : List Channel). AsksEach o s cs before now) (take_whole walk.list) asks,
    )

pub all_over : (o : Outside) (s : SetTask) (i : ℕ) (walk : Walk) (verdict : SetVerdict) (before now : ℕ) → HasGone o s i walk before now → length walk.list ≤ i → verdict.members ≡ walk.members → verdict.store ≡ walk.store
    → IsSetVerdictOver o s verdict
all_over o s i walk verdict before now gone all members store = (all_gone o s i walk verdict before now gone all members store).0
