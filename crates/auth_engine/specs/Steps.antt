-- What the steps of a check answer.
use Rattle.std.specs.Prelude.{◌≡◌, ◌≢◌, ◌↔◌, Bool, List, [], ◌∷◌, length, Option, Some, None, Result, Ok, Err, IsTrue, IfSome}
use Rattle.child_ports.specs.declared.fingerprint.Fingerprint.{Fingerprint}
use Rattle.child_ports.specs.declared.keeper.Pair.{Pair}
use Rattle.child_ports.specs.KeySet.{Keys}
use Rattle.authorizations.specs.declared.scope.Scope.{Scope}
use Rattle.auth_cache.specs.Entries.{with_id}
use Rattle.auth_cache.specs.Found.{CanBeRecorded}
use Rattle.commit_graph.specs.Chains.{Reaches}
use Rattle.commit_graph.specs.Covers.{Parenthood, IsRelated, AreUncovered}
use Rattle.commit_graph.specs.History.{Commits, IsParent}
use Rattle.auth_rules.specs.declared.cause.Cause.{Cause}
use Rattle.commit_history.specs.declared.fail.HistoryFail.{HistoryFail}
use Rattle.commit_history.specs.declared.fail.HistoryFail.TheVariants as read
use Rattle.auth_rules.specs.World.{World, Id}
use Rattle.auth_rules.specs.Rules.{intro_cause}
use Rattle.auth_engine.specs.declared.engine_fail.EngineFail.{EngineFail}
use Rattle.auth_engine.specs.declared.engine_fail.EngineFail.TheVariants.{TooMany, Object as OfObject, Cycle, Intro, Commit, GitFault, SigFault, Memory}
use Rattle.auth_engine.specs.declared.task.Task.{Task}
use Rattle.auth_engine.specs.declared.task.Verdict.{Verdict}
use Rattle.auth_engine.specs.Outcome.{pair_of}
use Rattle.auth_engine.specs.Judging.{AreSigned, FirstRefused}
use Rattle.auth_engine.specs.Tally.{IsTally}

-- the introduction's judgement: no cause of refusal, or its cause; a fault and want of memory apart
abbrev pub JudgesIntro : {T : Type 0} → World → Scope → Keys → Result T EngineFail → Type 0
JudgesIntro w s keys (Ok value) = intro_cause w s keys ≡ None
JudgesIntro w s keys (Err (Intro id why)) = (id ≡ s.intro) × (intro_cause w s keys ≡ Some why)
JudgesIntro w s keys (Err GitFault) = Unit {0}
JudgesIntro w s keys (Err SigFault) = Unit {0}
JudgesIntro w s keys (Err Memory) = Unit {0}
JudgesIntro w s keys (Err _) = ⊥

-- the target is an ancestor of the introduction, and another commit
abbrev pub IsOlder : Parenthood → Id → Id → Type 0
IsOlder IsParent target intro = Reaches IsParent intro target × (target ≢ intro)

-- one of the two reaches the other, and whether the target is older; or neither does
abbrev pub Relates : Parenthood → Id → Id → Option Bool → Type 0
Relates IsParent target intro (Some older) = IsRelated IsParent target intro × (IsTrue older ↔ IsOlder IsParent target intro)
Relates IsParent target intro None = ¬ IsRelated IsParent target intro

-- why a history can't be judged, as a refusal of the target
abbrev pub engine_fail : HistoryFail → EngineFail
engine_fail read.TooMany = TooMany
engine_fail (read.Object id what) = OfObject id what
engine_fail (read.Cycle id) = Cycle id
engine_fail read.GitFault = GitFault
engine_fail read.Memory = Memory

-- what is to be kept: nothing where nothing was left to judge
abbrev pub store_of : Task → Scope → Id → List Id → List Id → Option Pair
store_of task s target entries [] = None
store_of task s target entries (c ∷ commits) = Some (pair_of task s target entries)

-- the verdict on what is left of the target's history
pub record JudgesWell (w : World) (task : Task) (s : Scope) (keys : Keys) (held : Commits) (target : Id) (entries : List Id) (older : Bool) (verdict : Verdict) : Type 0 where
  pub target_is : verdict.target ≡ target
  pub older_is : verdict.older ≡ older
  pub commits : List Id
  pub signers : List Fingerprint
  pub uncovered : AreUncovered (IsParent held) target s.intro entries commits
  pub signed : AreSigned w s keys commits signers
  pub number : verdict.judged ≡ length commits
  pub tally : IsTally signers verdict.signers
  pub store_is : verdict.store ≡ store_of task s target entries commits
  pub recorded : IfSome verdict.store (λ _. CanBeRecorded s (with_id target entries))

-- the refusal of the first of these commits that is refused
pub record JudgesBadly (w : World) (s : Scope) (keys : Keys) (held : Commits) (target : Id) (entries : List Id) (id : Id) (why : Cause) : Type 0 where
  pub commits : List Id
  pub uncovered : AreUncovered (IsParent held) target s.intro entries commits
  pub first : FirstRefused w s keys commits id why

abbrev pub JudgesNew : World → Task → Scope → Keys → Commits → Id → List Id → Bool → Result Verdict EngineFail → Type 0
JudgesNew w task s keys held target entries older (Ok verdict) = JudgesWell w task s keys held target entries older verdict
JudgesNew w task s keys held target entries older (Err (Commit id why)) = JudgesBadly w s keys held target entries id why
JudgesNew w task s keys held target entries older (Err GitFault) = Unit {0}
JudgesNew w task s keys held target entries older (Err SigFault) = Unit {0}
JudgesNew w task s keys held target entries older (Err Memory) = Unit {0}
JudgesNew w task s keys held target entries older (Err _) = ⊥
