-- One channel of a set, step by step.
use Rattle.std.proofs.Common.{◌≡◌, ℕ, Bool, true, false, List, length, ◌≤◌, Option, Some, None, Ok, Err, refl, sym, subst, codes}
use Rattle.std.specs.Prelude.{All, Result, IfOk, MatchResult}
use Rattle.std.specs.Result.{result_map_both}
use Rattle.std.specs.FinMap as map
use Rattle.child_ports.specs.declared.git.GitRow.{GitRow}
use Rattle.commit_graph.specs.declared.relation.Relation.{Relation}
use Rattle.commit_graph.specs.declared.relation.Relation.TheVariants as relation
use Rattle.auth_rules.specs.World.{Id, onward}
use Rattle.auth_engine.specs.Answers as engine
use Rattle.auth_engine.specs.Outcome.{IsOutcome}
use Rattle.auth_engine.specs.declared.task.Task.{Task}
use Rattle.auth_engine.specs.declared.task.Verdict.{Verdict}
use Rattle.auth_engine.specs.declared.engine_fail.EngineFail.{EngineFail}
use Rattle.channel_file.specs.Limits.{IsFit}
use Rattle.channel_file.specs.declared.channel.Channel.{Channel}
use Rattle.channel_file.specs.declared.channel.Introduction.{Introduction}
use Rattle.channel_file.specs.declared.fail.ChannelFail.{ChannelFail}
use Rattle.channel_clone.specs.Files.{file_of}
use Rattle.channel_clone.specs.Resolving.{resolved}
use Rattle.channel_deps.specs.declared.set.SetTask.{SetTask}
use Rattle.channel_deps.specs.declared.set.Move.{Move}
use Rattle.channel_deps.specs.declared.set_fail.SetFail.{SetFail}
use Rattle.channel_deps.specs.declared.set_fail.SetFail.TheVariants as fail
use Rattle.channel_deps.specs.declared.known.Known.{Known}
use Rattle.channel_deps.specs.declared.known.Checked.{Checked}
use Rattle.channel_deps.specs.declared.known.Taken.{Taken}
use Rattle.channel_deps.specs.declared.walking.Walk.{Walk}
use Rattle.channel_deps.specs.Answers.{Gives, OnFinding, IsPlain, is_git_fault, is_sig_fault, is_keep_fault}
use Rattle.channel_deps.specs.Moves.{if_allowed, move_of, IsMove, IsMoveIn, IsMoveFrom}
use Rattle.channel_deps.specs.Outcome.{taken_as, IsTakenAs, HasSoundRecord}
use Rattle.channel_deps.specs.Outside.{Outside}
use Rattle.channel_deps.specs.Places.{cache_key, target_names}
use Rattle.channel_deps.specs.Reading.{in_channel, metadata_in, known_in, known_of}
use Rattle.channel_deps.specs.Standings.{introduction_for, standing_of, checked_as, IsChecked, IsCheckedBy, HasSoundOrNone}
use Rattle.channel_deps.specs.Steps.{IsToldOf, IsAt, TakesOne, TakesNext, TakesUp}
use Rattle.channel_deps.proofs.AnswerLemmas.{refusal_on, refused_finding, told_finding, finding_on}
use Rattle.channel_deps.proofs.KnownLemmas.{with_file, with_target}
use Rattle.channel_deps.proofs.MemberLemmas.{mentions_fit}

-- ---- the check

module _ (o : Outside) (task : Task) (channel : Channel) where
  pub accepted : (verdict : Verdict) → IsOutcome o.answers o.verdicts task (map.get o.kept (cache_key channel)) (Ok verdict) → IsCheckedBy o task channel (Ok (record { standing = standing_of verdict.older; cache = verdict.store }))
  accepted verdict outcome = (Ok verdict, outcome, refl)

  pub refused : (e : EngineFail) (answer : SetFail) → IsToldOf channel e answer → engine.OnFinding {T = Verdict} (Err e) (IsOutcome o.answers o.verdicts task (map.get o.kept (cache_key channel)) (Err e))
      → OnFinding {T = Checked} (Err answer) (IsCheckedBy o task channel (Err answer))
  refused e answer told outcome = told_finding Verdict channel e answer (IsOutcome o.answers o.verdicts task (map.get o.kept (cache_key channel)) (Err e)) (IsCheckedBy o task channel) told outcome (λ is. (Err e, is, refl))

-- ---- the whole

module _ (o : Outside) (s : SetTask) (channel : Channel) where
  -- what it comes to, once its metadata is read or not
  abbrev By : Result Taken SetFail → Result Known SetFail → Type 0
  By result known = MatchResult known
      (λ k. (checked : Result Checked SetFail) × IsChecked o s channel k (introduction_for s channel) checked × MatchResult checked
      (λ check. (moved : Result Move SetFail) × IsMove o s.clones s.allow_downgrades channel k.target moved × MatchResult moved
      (λ to. result ≡ Ok (taken_as channel k check to))
      (λ e. result ≡ Err e))
      (λ e. result ≡ Err e))
      (λ e. result ≡ Err e)

  -- what is kept for it is sound for what was read
  pub sound_known : (known : Known) → Ok known ≡ known_of o.answers s.clones channel → HasSoundRecord o s channel → HasSoundOrNone o s channel known (introduction_for s channel)
  sound_known known is sound = subst (λ (k : Result Known SetFail). IfOk k (λ x. HasSoundOrNone o s channel x (introduction_for s channel))) (sym is) sound

  pub not_known : (e : SetFail) → Gives {T = Known} (Err e) (known_of o.answers s.clones channel) → OnFinding {T = Taken} (Err e) (IsTakenAs o s channel (Err e))
  not_known e given = refused_finding Taken e (known_of o.answers s.clones channel) (IsTakenAs o s channel (Err e)) given (λ is. subst (By (Err e)) is refl)

  pub not_checked : (known : Known) (e : SetFail) → Ok known ≡ known_of o.answers s.clones channel → OnFinding {T = Checked} (Err e) (IsChecked o s channel known (introduction_for s channel) (Err e)) → OnFinding {T = Taken} (Err e) (IsTakenAs o s channel (Err e))
  not_checked known e is checked = refusal_on Checked Taken e (IsChecked o s channel known (introduction_for s channel) (Err e)) (IsTakenAs o s channel (Err e)) (λ c. subst (By (Err e)) is (Err e, c, refl)) checked

  pub not_moved : (known : Known) (check : Checked) (e : SetFail) → Ok known ≡ known_of o.answers s.clones channel → IsChecked o s channel known (introduction_for s channel) (Ok check)
      → OnFinding {T = Move} (Err e) (IsMove o s.clones s.allow_downgrades channel known.target (Err e)) → OnFinding {T = Taken} (Err e) (IsTakenAs o s channel (Err e))
  not_moved known check e is checked moved = refusal_on Move Taken e (IsMove o s.clones s.allow_downgrades channel known.target (Err e)) (IsTakenAs o s channel (Err e)) (λ m. subst (By (Err e)) is (Ok check, checked, (Err e, m, refl))) moved

  pub taken : (known : Known) (check : Checked) (to : Move) (t : Taken) → Ok known ≡ known_of o.answers s.clones channel → IsChecked o s channel known (introduction_for s channel) (Ok check)
      → IsMove o s.clones s.allow_downgrades channel known.target (Ok to) → t ≡ taken_as channel known check to → IsTakenAs o s channel (Ok t)
  taken known check to t is checked moved made = subst (By (Ok t)) is (Ok check, checked, (Ok to, moved, cc))

-- ---- the refusal of one channel is never that of too many

channel_never : {A : Type 0} (channel : Channel) (found : Result A EngineFail) → in_channel channel found ≡ Err fail.TooManyChannels → ⊥
channel_never channel (Ok x) is = absurd (cc)
channel_never channel (Err e) is = absurd (cc)

metadata_never : {A : Type 0} (channel : Channel) (found : Result A ChannelFail) → result_map_both (λ x. x) (fail.Metadata channel.name) found ≡ Err fail.TooManyChannels → ⊥
metadata_never channel (Ok x) is = absurd (cc)
metadata_never channel (Err e) is = absurd (cc)

onward_never : {A B : Type 0} (r : Result A SetFail) (next : A → Result B SetFail) → (r ≡ Err fail.TooManyChannels → ⊥) → ((a : A) → next a ≡ Err fail.TooManyChannels → ⊥) → onward r next ≡ Err fail.TooManyChannels → ⊥
onward_never (Ok a) next first rest is = rest a is
onward_never (Err e) next first rest is = let same : e ≡ fail.TooManyChannels = cc in first (cc)

ok_never : {A : Type 0} (x : A) → ◌≡◌ {A = Result A SetFail} (Ok x) (Err fail.TooManyChannels) → ⊥
ok_never x is = absurd (cc)

file_never : (channel : Channel) (target : Id) (file : Option (List ℕ)) → with_file channel target file ≡ Err fail.TooManyChannels → ⊥
file_never channel target file is = onward_never (result_map_both (λ x. x) (fail.Metadata channel.name) (metadata_in file)) (λ metadata. Ok (record { target = target; metadata = metadata }))
    (metadata_never channel (metadata_in file)) (λ metadata. ok_never (let known : Known = record { target = target; metadata = metadata } in known)) is

target_never : (rows : List GitRow) (dir : List ℕ) (channel : Channel) (target : Id) → with_target rows dir channel target ≡ Err fail.TooManyChannels → ⊥
target_never rows dir channel target is = onward_never (in_channel channel (file_of rows dir target (codes ".guix-channel"))) (with_file channel target) (channel_never channel (file_of rows dir target (codes ".guix-channel"))) (file_never channel target) is

known_never : (rows : List GitRow) (dir : List ℕ) (channel : Channel) → known_in rows dir channel ≡ Err fail.TooManyChannels → ⊥
known_never rows dir channel is = onward_never (in_channel channel (resolved rows dir (target_names channel))) (with_target rows dir channel) (channel_never channel (resolved rows dir (target_names channel))) (target_never rows dir channel) is

verdict_never : (channel : Channel) (result : Result Verdict EngineFail) → ◌≡◌ {A = Result Checked SetFail} (Err fail.TooManyChannels) (checked_as channel result) → ⊥
verdict_never channel (Ok verdict) is = absurd (cc)
verdict_never channel (Err e) is = absurd (cc)

check_never : (o : Outside) (s : SetTask) (channel : Channel) (known : Known) (introduction : Option Introduction) → IsChecked o s channel known introduction (Err fail.TooManyChannels) → ⊥
check_never o s channel known (Some introduction) h = verdict_never channel h.0 h.2
check_never o s channel known None h = absurd (cc)

relation_never : (allowed : Bool) (channel : Channel) (old new : Id) (found : Result Relation EngineFail) → ◌≡◌ {A = Result Move SetFail} (Err fail.TooManyChannels) (move_of allowed channel old new found) → ⊥
relation_never true channel old new (Ok relation.Same) is = absurd (cc)
relation_never true channel old new (Ok relation.Ancestor) is = absurd (cc)
relation_never true channel old new (Ok relation.Descendant) is = absurd (cc)
relation_never true channel old new (Ok relation.Unrelated) is = absurd (cc)
relation_never false channel old new (Ok relation.Same) is = absurd (cc)
relation_never false channel old new (Ok relation.Ancestor) is = absurd (cc)
relation_never false channel old new (Ok relation.Descendant) is = absurd (cc)
relation_never false channel old new (Ok relation.Unrelated) is = absurd (cc)
relation_never allowed channel old new (Err e) is = absurd (cc)

lost_never : (allowed : Bool) (moved : Move) (name : List ℕ) (old : Id) → ◌≡◌ {A = Result Move SetFail} (Err fail.TooManyChannels) (if_allowed allowed moved (fail.DeployedMissing name old)) → ⊥
lost_never true moved name old is = absurd (cc)
lost_never false moved name old is = absurd (cc)

from_never : (rows : List GitRow) (dir : List ℕ) (allowed : Bool) (channel : Channel) (old new : Id) → IsMoveFrom rows dir allowed channel old new (Err fail.TooManyChannels) → ⊥
from_never rows dir allowed channel old new h =
    let step = h.there (λ missing. lost_never allowed _ channel.name old (h.lost missing)) in
    relation_never allowed channel old new step.0 step.3

move_never : (rows : List GitRow) (kept : Option (List ℕ)) (dir : List ℕ) (allowed : Bool) (channel : Channel) (new : Id) → IsMoveIn rows kept dir allowed channel new (Err fail.TooManyChannels) → ⊥
move_never rows None dir allowed channel new h = absurd (cc)
move_never rows (Some bytes) dir allowed channel new h =
    let refusal = h.1 (λ old is. from_never rows dir allowed channel old new (h.0 old is)) in
    absurd (cc)

moved_never : (o : Outside) (s : SetTask) (channel : Channel) (known : Known) (check : Checked) (moved : Result Move SetFail) → IsMove o s.clones s.allow_downgrades channel known.target moved
    → MatchResult moved (λ to. ◌≡◌ {A = Result Taken SetFail} (Err fail.TooManyChannels) (Ok (taken_as channel known check to))) (λ e. ◌≡◌ {A = Result Taken SetFail} (Err fail.TooManyChannels) (Err e)) → ⊥
moved_never o s channel known check (Ok to) is h = absurd (cc)
moved_never o s channel known check (Err e) is h =
    let same : e ≡ fail.TooManyChannels = cc in
    move_never o.answers _ _ s.allow_downgrades channel known.target (subst (λ (x : SetFail). IsMove o s.clones s.allow_downgrades channel known.target (Err x)) same is)

checked_never : (o : Outside) (s : SetTask) (channel : Channel) (known : Known) (checked : Result Checked SetFail) → IsChecked o s channel known (introduction_for s channel) checked
    → MatchResult checked (λ check. (moved : Result Move SetFail) × IsMove o s.clones s.allow_downgrades channel known.target moved × MatchResult moved
    (λ to. ◌≡◌ {A = Result Taken SetFail} (Err fail.TooManyChannels) (Ok (taken_as channel known check to))) (λ e. ◌≡◌ {A = Result Taken SetFail} (Err fail.TooManyChannels) (Err e)))
    (λ e. ◌≡◌ {A = Result Taken SetFail} (Err fail.TooManyChannels) (Err e)) → ⊥
checked_never o s channel known (Ok check) is h = moved_never o s channel known check h.0 h.1 h.2
checked_never o s channel known (Err e) is h =
    let same : e ≡ fail.TooManyChannels = cc in
    check_never o s channel known (introduction_for s channel) (subst (λ (x : SetFail). IsChecked o s channel known (introduction_for s channel) (Err x)) same is)

by_never : (o : Outside) (s : SetTask) (channel : Channel) (k : Result Known SetFail) → (k ≡ Err fail.TooManyChannels → ⊥) → By o s channel (Err fail.TooManyChannels) k → ⊥
by_never o s channel (Ok known) never h = checked_never o s channel known h.0 h.1 h.2
by_never o s channel (Err e) never h = let same : e ≡ fail.TooManyChannels = cc in never (cc)

taken_never : (o : Outside) (s : SetTask) (channel : Channel) → IsTakenAs o s channel (Err fail.TooManyChannels) → ⊥
taken_never o s channel h = by_never o s channel (known_of o.answers s.clones channel) (known_never o.answers _ channel) h

-- a channel that is refused is taken up as refused
pub not_taken : (o : Outside) (s : SetTask) (channel : Channel) (walk : Walk) (e : SetFail) → OnFinding {T = Taken} (Err e) (IsTakenAs o s channel (Err e)) → OnFinding {T = Walk} (Err e) (TakesOne o s channel walk (Err e))
not_taken o s channel walk fail.GitFault h = tt
not_taken o s channel walk fail.SigFault h = tt
not_taken o s channel walk fail.KeepFault h = tt
not_taken o s channel walk fail.Memory h = tt
not_taken o s channel walk fail.TooManyChannels h = absurd (taken_never o s channel h)
not_taken o s channel walk e h = h

-- ---- the next channel

pub next_not_taken : (o : Outside) (s : SetTask) (i : ℕ) (walk : Walk) (channel : Channel) → IsAt walk.list i channel → (e : SetFail) → OnFinding {T = Taken} (Err e) (IsTakenAs o s channel (Err e)) → OnFinding {T = Walk} (Err e) (TakesNext o s i walk (Err e))
next_not_taken o s i walk channel at e refused =
    finding_on {A = Walk} (Err e) (TakesOne o s channel walk (Err e)) (TakesNext o s i walk (Err e)) (λ one. (channel, at, one)) (not_taken o s channel walk e refused)

pub next_taken : (o : Outside) (s : SetTask) (i : ℕ) (walk : Walk) (channel : Channel) → IsAt walk.list i channel → (t : Taken) → IsTakenAs o s channel (Ok t) → (result : Result Walk SetFail) → TakesUp walk t result → OnFinding result (TakesNext o s i walk result)
next_taken o s i walk channel at t is (Ok new) up = (channel, at, (t, is, up))
next_taken o s i walk channel at t is (Err fail.TooManyChannels) up = (channel, at, (t, is, up))
next_taken o s i walk channel at t is (Err fail.GitFault) up = tt
next_taken o s i walk channel at t is (Err fail.SigFault) up = tt
next_taken o s i walk channel at t is (Err fail.KeepFault) up = tt
next_taken o s i walk channel at t is (Err fail.Memory) up = tt
next_taken o s i walk channel at t is (Err e) up = absurd up

pub up_few : (walk : Walk) (t : Taken) (result : Result Walk SetFail) → TakesUp walk t result → IfOk result (λ new. length new.list ≤ 256)
up_few walk t (Ok new) up = up.few
up_few walk t (Err e) up = tt

pub up_fit : (walk : Walk) (t : Taken) (result : Result Walk SetFail) → All IsFit walk.list → All IsFit t.mentions → TakesUp walk t result → IfOk result (λ new. All IsFit new.list)
up_fit walk t (Ok new) all more up = subst (λ (l : List Channel). All IsFit l) (sym up.list) (mentions_fit walk.list t.mentions all more)
up_fit walk t (Err e) all more up = tt

-- no port is asked
pub record AsksNone (result : Result Walk SetFail) : Type 0 where
  pub git : is_git_fault result ≡ false
  pub sig : is_sig_fault result ≡ false
  pub keep : is_keep_fault result ≡ false
  pub plain : IsPlain result

pub up_asks_none : (walk : Walk) (t : Taken) (result : Result Walk SetFail) → TakesUp walk t result → AsksNone result
up_asks_none walk t (Ok new) up = record { git = refl; sig = refl; keep = refl; plain = tt }
up_asks_none walk t (Err fail.TooManyChannels) up = record { git = refl; sig = refl; keep = refl; plain = tt }
up_asks_none walk t (Err fail.Memory) up = record { git = refl; sig = refl; keep = refl; plain = tt }
up_asks_none walk t (Err e) up = absurd up
