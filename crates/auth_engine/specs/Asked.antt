-- How many questions gpgv is asked.
use Rattle.std.specs.Prelude.{◌≡◌, ◌⊎◌, ◌+◌, ◌++◌, ◌∷◌, ℕ, List, length, if◌then◌else◌, Option, Result, Ok, Err, MatchResult}
use Rattle.child_ports.specs.KeySet.{Keys}
use Rattle.child_ports.specs.declared.git.GitRow.{GitRow}
use Rattle.child_ports.specs.declared.sig.SigRow.{SigRow}
use Rattle.commit_graph.specs.Covers.{Parenthood, AreUncovered}
use Rattle.auth_rules.specs.Answers.{is_intro_asked}
use Rattle.auth_rules.specs.World.{World, Id}
use Rattle.commit_history.specs.Members.{history, IsWhole}
use Rattle.auth_engine.specs.declared.task.Task.{Task}
use Rattle.auth_engine.specs.declared.task.Verdict.{Verdict}
use Rattle.auth_engine.specs.declared.starting.Start.{Start}
use Rattle.auth_engine.specs.declared.engine_fail.EngineFail.{EngineFail}
use Rattle.auth_engine.specs.declared.engine_fail.EngineFail.TheVariants.{Name, Keyring, Cache, TooMany, Object, Cycle, Intro, Unrelated, Commit, GitFault, SigFault, KeepFault, Memory}
use Rattle.auth_engine.specs.Judging.{more, questions, AskedAtMost}
use Rattle.auth_engine.specs.Starting.{start_of, world_in, scope_of, entries_of}

-- the questions that the introduction takes
abbrev pub intro_questions : World → Id → ℕ
intro_questions w i = if is_intro_asked w i then 1 else 0

-- one question for the introduction where it is accepted, or where it is signed and can be read. A fault and want of memory may
-- come before it or behind it.
abbrev pub AsksIntro : {T : Type 0} → World → Id → Result T EngineFail → ℕ → ℕ → Type 0
AsksIntro w i (Ok value) before now = now ≡ more 1 before
AsksIntro w i (Err (Intro id why)) before now = now ≡ more (intro_questions w i) before
AsksIntro w i (Err fail) before now = Unit {0}

-- the uncovered commits before this one
pub record StandsBehind (IsParent : Parenthood) (target intro : Id) (entries : List Id) (id : Id) (front : List Id) : Type 0 where
  pub commits : List Id
  pub uncovered : AreUncovered IsParent target intro entries commits
  pub rest : List Id
  pub parts : commits ≡ front ++ id ∷ rest

-- no question was asked, or at most one for each uncovered commit
abbrev pub AsksSome : Parenthood → Id → Id → List Id → ℕ → ℕ → Type 0
AsksSome IsParent target intro entries before now =
    (now ≡ before) ⊎ ((commits : List Id) × AreUncovered IsParent target intro entries commits × AskedAtMost (length commits) before now)

-- No question was asked; or the history can be judged, and at most one was asked, and one for each uncovered commit.
abbrev pub AsksAtMost : World → Id → Id → List Id → ℕ → ℕ → Type 0
AsksAtMost w target intro entries before now = (now ≡ before)
    ⊎ (IsWhole w target intro × ((commits : List Id) → AreUncovered (history w) target intro entries commits → AskedAtMost (1 + length commits) before now))

-- one question was asked for each uncovered commit; where one is refused, for each before it, and for it where one was due
abbrev pub AsksNew : World → Parenthood → Id → Id → List Id → Result Verdict EngineFail → ℕ → ℕ → Type 0
AsksNew w IsParent target intro entries (Ok verdict) before now = now ≡ more verdict.judged before
AsksNew w IsParent target intro entries (Err (Commit id why)) before now =
    (front : List Id) × StandsBehind IsParent target intro entries id front × (now ≡ more (length front + questions w id) before)
AsksNew w IsParent target intro entries (Err fail) before now = AsksSome IsParent target intro entries before now

-- The questions that an answer took, once target, introduction, keyring and cache are there: none where the history can't be
-- judged; one for the introduction; then one for each commit that isn't covered, up to the first that is refused.
abbrev pub AsksFor : World → Task → Start → List Id → Result Verdict EngineFail → ℕ → ℕ → Type 0
AsksFor w task start entries (Ok verdict) before now = now ≡ more (1 + verdict.judged) before
AsksFor w task start entries (Err (Commit id why)) before now =
    (front : List Id) × StandsBehind (history w) start.target task.intro entries id front × (now ≡ more (1 + (length front + questions w id)) before)
AsksFor w task start entries (Err (Unrelated target intro)) before now = now ≡ more 1 before
AsksFor w task start entries (Err (Intro id why)) before now = now ≡ more (intro_questions w task.intro) before
AsksFor w task start entries (Err GitFault) before now = AsksAtMost w start.target task.intro entries before now
AsksFor w task start entries (Err SigFault) before now = AsksAtMost w start.target task.intro entries before now
AsksFor w task start entries (Err KeepFault) before now = now ≡ before
AsksFor w task start entries (Err Memory) before now = AsksAtMost w start.target task.intro entries before now
AsksFor w task start entries (Err _) before now = now ≡ before

-- the questions that the answer to a task took
abbrev pub Asks : List GitRow → List SigRow → Task → Option (List ℕ) → Result Verdict EngineFail → ℕ → ℕ → Type 0
Asks rows sigs task kept result before now = MatchResult (start_of rows task)
    (λ start. MatchResult (entries_of (scope_of task start.ring) kept)
    (λ entries. AsksFor (world_in rows sigs task start.ring) task start entries result before now)
    (λ _. now ≡ before))
    (λ _. now ≡ before)
