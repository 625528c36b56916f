-- What stands behind a channel that was taken.
use Rattle.std.proofs.Common.{◌≡◌, ◌≢◌, ◌⊎◌, inl, inr, ℕ, List, [], ◌∷◌, ◌++◌, Option, Some, None, Ok, Err, refl, sym, ap, subst, ◌∙◌}
use Rattle.std.specs.Prelude.{Result, IfOk, MatchResult}
use Rattle.std.specs.FinMap as map
use Rattle.std.proofs.lemmas.Bool.{false≢true}
use Rattle.child_ports.specs.declared.git.GitRow.{GitRow}
use Rattle.child_ports.specs.declared.keeper.Pair.{Pair}
use Rattle.channel_file.specs.declared.channel.Channel.{Channel}
use Rattle.channel_file.specs.declared.channel.Introduction.{Introduction}
use Rattle.child_ports.specs.declared.sig.SigRow.{SigRow}
use Rattle.auth_cache.specs.declared.fail.CacheFail.{CacheFail}
use Rattle.auth_rules.specs.World.{World, Id}
use Rattle.auth_engine.specs.Answers.{IsStop}
use Rattle.auth_engine.specs.Outcome.{IsFinding, IsOutcome, HasAuthenticTarget}
use Rattle.auth_engine.specs.SoundCache.{IsSoundCache}
use Rattle.auth_engine.specs.Starting.{start_of, scope_of, world_in, entries_of}
use Rattle.auth_engine.specs.declared.starting.Start.{Start}
use Rattle.auth_engine.specs.declared.engine_fail.EngineFail.{EngineFail}
use Rattle.auth_engine.specs.declared.engine_fail.EngineFail.TheVariants.{GitFault, SigFault, KeepFault, Memory, Cache}
use Rattle.auth_engine.specs.declared.task.Task.{Task}
use Rattle.auth_engine.specs.declared.task.Verdict.{Verdict}
use Rattle.auth_engine.proofs.OutcomeLemmas.{FindsUnder, accepted_authentic, authentic}
use Rattle.channel_deps.specs.Moves.{IsMove}
use Rattle.channel_deps.specs.Outcome.{taken_as, IsTakenAs, HasSoundCache}
use Rattle.channel_deps.specs.Outside.{Outside}
use Rattle.channel_deps.specs.Places.{task_of, cache_key}
use Rattle.channel_deps.specs.Reading.{known_of}
use Rattle.channel_deps.specs.Standings.{introduction_for, checked_as, IsChecked, IsCheckedBy, HasSound, HasAuthenticTargetFor}
use Rattle.channel_deps.specs.declared.known.Checked.{Checked}
use Rattle.channel_deps.specs.declared.known.Known.{Known}
use Rattle.channel_deps.specs.declared.known.Taken.{Taken}
use Rattle.channel_deps.specs.declared.set.Move.{Move}
use Rattle.channel_deps.specs.declared.set.SetTask.{SetTask}
use Rattle.channel_deps.specs.declared.set_fail.SetFail.{SetFail}
use Rattle.set_laws.proofs.MovedLemmas.{one_move}

-- ---- an authentic target isn't refused over a sound cache

stop_found : (e : EngineFail) → IsStop e → (w : World) (task : Task) (start : Start) (entries : List Id) → IsFinding w task start entries (Err e) → ⊥
stop_found GitFault stop w task start entries finding = finding
stop_found SigFault stop w task start entries finding = finding
stop_found KeepFault stop w task start entries finding = finding
stop_found Memory stop w task start entries finding = finding
stop_found e stop w task start entries finding = absurd stop

module _ (rows : List GitRow) (sigs : List SigRow) (task : Task) (kept : Option (List ℕ)) where
  stop_under : (e : EngineFail) → IsStop e → (start : Start) (c : Result (List Id) CacheFail)
      → MatchResult c (λ entries. IsFinding (world_in rows sigs task start.ring) task start entries (Err e)) (λ why. ◌≡◌ {A = Result Verdict EngineFail} (Err e) (Err (Cache why))) → ⊥
  stop_under e stop start (Ok entries) finding = stop_found e stop (world_in rows sigs task start.ring) task start entries finding
  stop_under e stop start (Err why) finding = let same : e ≡ Cache why = cc in subst IsStop same stop

  -- a fault is no outcome of a task whose target is authentic
  no_stop : (e : EngineFail) → IsStop e → HasAuthenticTarget rows sigs task → IsOutcome rows sigs task kept (Err e) → ⊥
  no_stop e stop has outcome = stop_under e stop has.start (entries_of (scope_of task has.start.ring) kept)
      (subst (λ (s : Result Start EngineFail). MatchResult s (FindsUnder rows sigs task kept (Err e)) (λ why. ◌≡◌ {A = Result Verdict EngineFail} (Err e) (Err why))) has.begins outcome)

  no_refusal : (e : EngineFail) → IsSoundCache rows sigs task kept → HasAuthenticTarget rows sigs task → IsOutcome rows sigs task kept (Err e) → ⊥
  no_refusal GitFault sound has outcome = no_stop GitFault tt has outcome
  no_refusal SigFault sound has outcome = no_stop SigFault tt has outcome
  no_refusal KeepFault sound has outcome = no_stop KeepFault tt has outcome
  no_refusal Memory sound has outcome = no_stop Memory tt has outcome
  no_refusal e sound has outcome = false≢true ((authentic rows sigs task kept (Err e) sound outcome).1 has)

-- ---- a channel that was taken

-- what was read of it, its check and its move
pub record IsFound (o : Outside) (s : SetTask) (channel : Channel) (t : Taken) : Type 0 where
  pub known : Known
  pub check : Checked
  pub to : Move
  pub read : known_of o.answers s.clones channel ≡ Ok known
  pub checked : IsChecked o s channel known (introduction_for s channel) (Ok check)
  pub made : IsMove o s.clones s.allow_downgrades channel known.target (Ok to)
  pub is : t ≡ taken_as channel known check to

-- what a channel mentions
abbrev pub mentions_in : Result Known SetFail → List Channel
mentions_in (Ok known) = known.metadata.dependencies
mentions_in (Err e) = []

abbrev pub mentioned : List GitRow → List ℕ → Channel → List Channel
mentioned answers clones channel = mentions_in (known_of answers clones channel)

module _ (o : Outside) (s : SetTask) (channel : Channel) where
  -- what it comes to, once its metadata is read or not
  abbrev By : Result Taken SetFail → Result Known SetFail → Type 0
  By result known = MatchResult known
      (λ k. (checked : Result Checked SetFail) × IsChecked o s channel k (introduction_for s channel) checked × MatchResult checked
      (λ check. (moved : Result Move SetFail) × IsMove o s.clones s.allow_downgrades channel k.target moved × MatchResult moved
      (λ to. result ≡ Ok (taken_as channel k check to))
      (λ e. result ≡ Err e))
      (λ e. result ≡ Err e))
      (λ e. result ≡ Err e)

  module _ (t : Taken) where
    by_move : (known : Known) → known_of o.answers s.clones channel ≡ Ok known → (check : Checked) → IsChecked o s channel known (introduction_for s channel) (Ok check)
        → (moved : Result Move SetFail) → IsMove o s.clones s.allow_downgrades channel known.target moved
        → MatchResult moved (λ to. ◌≡◌ {A = Result Taken SetFail} (Ok t) (Ok (taken_as channel known check to))) (λ e. ◌≡◌ {A = Result Taken SetFail} (Ok t) (Err e)) → IsFound o s channel t
    by_move known read check checked (Ok to) made is = record { known = known; check = check; to = to; read = read; checked = checked; made = made; is = (cc) }
    by_move known read check checked (Err e) made is = absurd (cc)

    by_check : (known : Known) → known_of o.answers s.clones channel ≡ Ok known → (checked : Result Checked SetFail) → IsChecked o s channel known (introduction_for s channel) checked
        → MatchResult checked (λ check. (moved : Result Move SetFail) × IsMove o s.clones s.allow_downgrades channel known.target moved × MatchResult moved
        (λ to. ◌≡◌ {A = Result Taken SetFail} (Ok t) (Ok (taken_as channel known check to))) (λ e. ◌≡◌ {A = Result Taken SetFail} (Ok t) (Err e)))
        (λ e. ◌≡◌ {A = Result Taken SetFail} (Ok t) (Err e)) → IsFound o s channel t
    by_check known read (Ok check) checked next = by_move known read check checked next.0 next.1 next.2
    by_check known read (Err e) checked next = absurd (cc)

    by_known : (k : Result Known SetFail) → known_of o.answers s.clones channel ≡ k → By (Ok t) k → IsFound o s channel t
    by_known (Ok known) read is = by_check known read is.0 is.1 is.2
    by_known (Err e) read is = absurd (cc)

    pub found_of : IsTakenAs o s channel (Ok t) → IsFound o s channel t
    found_of is = by_known (known_of o.answers s.clones channel) refl is

    pub mentions_are : IsFound o s channel t → t.mentions ≡ mentioned o.answers s.clones channel
    mentions_are found = ap (λ (x : Taken). x.mentions) found.is ∙ ap mentions_in (sym found.read)

  -- ---- it isn't refused

  verdict_authentic : (task : Task) (check : Checked) (result : Result Verdict EngineFail) → IsOutcome o.answers o.verdicts task (map.get o.kept (cache_key channel)) result
      → Ok check ≡ checked_as channel result → HasAuthenticTarget o.answers o.verdicts task
  verdict_authentic task check (Ok verdict) outcome is = accepted_authentic o.answers o.verdicts task (map.get o.kept (cache_key channel)) verdict outcome
  verdict_authentic task check (Err e) outcome is = absurd (cc)

  verdict_none : (task : Task) (fail : SetFail) (result : Result Verdict EngineFail) → IsSoundCache o.answers o.verdicts task (map.get o.kept (cache_key channel))
      → IsOutcome o.answers o.verdicts task (map.get o.kept (cache_key channel)) result → Err fail ≡ checked_as channel result → HasAuthenticTarget o.answers o.verdicts task → ⊥
  verdict_none task fail (Ok verdict) sound outcome is has = absurd (cc)
  verdict_none task fail (Err e) sound outcome is has = no_refusal o.answers o.verdicts task (map.get o.kept (cache_key channel)) e sound has outcome

  one_check : (known : Known) (introduction : Option Introduction) (check : Checked) (fail : SetFail) → HasSound o s channel known introduction
      → IsChecked o s channel known introduction (Ok check) → IsChecked o s channel known introduction (Err fail) → ⊥
  one_check known None check fail sound passed refused = absurd (cc)
  one_check known (Some introduction) check fail sound passed refused =
      let task = task_of s.clones channel introduction known.metadata.keyring_reference known.target in
      verdict_none task fail refused.0 sound refused.1 refused.2 (verdict_authentic task check passed.0 passed.1 passed.2)

  module _ (t : Taken) (found : IsFound o s channel t) (sound : HasSound o s channel found.known (introduction_for s channel)) (fail : SetFail) where
    not_moved : (check : Checked) (moved : Result Move SetFail) → IsMove o s.clones s.allow_downgrades channel found.known.target moved
        → MatchResult moved (λ to. ◌≡◌ {A = Result Taken SetFail} (Err fail) (Ok (taken_as channel found.known check to))) (λ e. ◌≡◌ {A = Result Taken SetFail} (Err fail) (Err e)) → ⊥
    not_moved check (Ok to) made is = absurd (cc)
    not_moved check (Err e) made is =
        let same : e ≡ fail = cc in
        one_move o s.clones s.allow_downgrades channel found.known.target found.to fail found.made (subst (λ (x : SetFail). IsMove o s.clones s.allow_downgrades channel found.known.target (Err x)) same made)

    not_checked : (checked : Result Checked SetFail) → IsChecked o s channel found.known (introduction_for s channel) checked
        → MatchResult checked (λ check. (moved : Result Move SetFail) × IsMove o s.clones s.allow_downgrades channel found.known.target moved × MatchResult moved
        (λ to. ◌≡◌ {A = Result Taken SetFail} (Err fail) (Ok (taken_as channel found.known check to))) (λ e. ◌≡◌ {A = Result Taken SetFail} (Err fail) (Err e)))
        (λ e. ◌≡◌ {A = Result Taken SetFail} (Err fail) (Err e)) → ⊥
    not_checked (Ok check) is next = not_moved check next.0 next.1 next.2
    not_checked (Err e) is next = one_check found.known (introduction_for s channel) found.check e sound found.checked is

    not_refused_by : By (Err fail) (Ok found.known) → ⊥
    not_refused_by is = not_checked is.0 is.1 is.2

  -- what is kept for it is sound for what was read
  pub sound_at : (known : Known) → known_of o.answers s.clones channel ≡ Ok known → HasSoundCache o s channel → HasSound o s channel known (introduction_for s channel)
  sound_at known read sound = subst (λ (k : Result Known SetFail). IfOk k (λ x. HasSound o s channel x (introduction_for s channel))) read sound

  -- a channel that was taken isn't refused, where what is kept for it is sound
  pub not_refused : (t : Taken) → IsFound o s channel t → HasSoundCache o s channel → (fail : SetFail) → IsTakenAs o s channel (Err fail) → ⊥
  not_refused t found sound fail is = not_refused_by t found (sound_at found.known found.read sound) fail (subst (By (Err fail)) found.read is)
