-- What the judging of commits in their order answers.
use Rattle.std.specs.Prelude.{◌≡◌, ◌≤◌, ◌+◌, ◌-◌, ◌^◌, ℕ, min, max, List, ◌∷◌, ◌++◌, length, map, All, if◌then◌else◌, Some, None, Result, Ok, Err}
use Rattle.child_ports.specs.KeySet.{Keys}
use Rattle.child_ports.specs.declared.fingerprint.Fingerprint.{Fingerprint}
use Rattle.authorizations.specs.declared.scope.Scope.{Scope}
use Rattle.auth_rules.specs.declared.cause.Cause.{Cause}
use Rattle.auth_rules.specs.Answers.{is_asked}
use Rattle.auth_rules.specs.Rules.{cause, signer}
use Rattle.auth_rules.specs.World.{World, Id}
use Rattle.auth_engine.specs.declared.engine_fail.EngineFail.{EngineFail}
use Rattle.auth_engine.specs.declared.engine_fail.EngineFail.TheVariants.{Commit, GitFault, SigFault, Memory}

-- no commit has a cause against it, and these are their signers
pub record AreSigned (w : World) (s : Scope) (keys : Keys) (commits : List Id) (signers : List Fingerprint) : Type 0 where
  pub causeless : All (λ c. cause w s keys c ≡ None) commits
  pub signed : map (signer w) commits ≡ map Some signers

-- this is the first commit that has a cause against it, and its cause
pub record FirstRefused (w : World) (s : Scope) (keys : Keys) (commits : List Id) (id : Id) (why : Cause) : Type 0 where
  pub front : List Id
  pub rest : List Id
  pub parts : commits ≡ front ++ id ∷ rest
  pub passed : All (λ c. cause w s keys c ≡ None) front
  pub refused : cause w s keys id ≡ Some why

-- the signers of commits that have no cause against them, else the first that is refused. A fault and want of memory have
-- clauses of their own.
abbrev pub JudgesAll : World → Scope → Keys → List Id → Result (List Fingerprint) EngineFail → Type 0
JudgesAll w s keys commits (Ok signers) = AreSigned w s keys commits signers
JudgesAll w s keys commits (Err (Commit id why)) = FirstRefused w s keys commits id why
JudgesAll w s keys commits (Err GitFault) = Unit {0}
JudgesAll w s keys commits (Err SigFault) = Unit {0}
JudgesAll w s keys commits (Err Memory) = Unit {0}
JudgesAll w s keys commits (Err _) = ⊥

-- ---- questions

-- n more, up to the last u64
abbrev pub more : ℕ → ℕ → ℕ
more n count = max count (min (count + n) (2 ^ 64 - 1))

-- at most n questions were asked
abbrev pub AskedAtMost : ℕ → ℕ → ℕ → Type 0
AskedAtMost n before now = (before ≤ now) × (now ≤ more n before)

-- the questions that a commit takes
abbrev pub questions : World → Id → ℕ
questions w c = if is_asked w c then 1 else 0

-- One question was asked for each commit; where one is refused, for each before it, and for it where one was due. A fault and
-- want of memory may come before a question or behind it.
abbrev pub AsksAll : World → Scope → Keys → List Id → Result (List Fingerprint) EngineFail → ℕ → ℕ → Type 0
AsksAll w s keys commits (Ok signers) before now = now ≡ more (length commits) before
AsksAll w s keys commits (Err (Commit id why)) before now =
    (first : FirstRefused w s keys commits id why) × (now ≡ more (length first.front + questions w id) before)
AsksAll w s keys commits (Err GitFault) before now = Unit {0}
AsksAll w s keys commits (Err SigFault) before now = Unit {0}
AsksAll w s keys commits (Err Memory) before now = Unit {0}
AsksAll w s keys commits (Err _) before now = ⊥

-- ---- one commit

-- the signer of a commit that has no cause against it, else its cause
abbrev pub JudgesOne : World → Scope → Keys → Id → Result Fingerprint EngineFail → Type 0
JudgesOne w s keys c (Ok key) = (cause w s keys c ≡ None) × (signer w c ≡ Some key)
JudgesOne w s keys c (Err (Commit id why)) = (id ≡ c) × (cause w s keys c ≡ Some why)
JudgesOne w s keys c (Err GitFault) = Unit {0}
JudgesOne w s keys c (Err SigFault) = Unit {0}
JudgesOne w s keys c (Err Memory) = Unit {0}
JudgesOne w s keys c (Err _) = ⊥

-- one question, where it was due
abbrev pub AsksOne : World → Id → Result Fingerprint EngineFail → ℕ → ℕ → Type 0
AsksOne w c (Ok key) before now = now ≡ more (questions w c) before
AsksOne w c (Err (Commit id why)) before now = now ≡ more (questions w c) before
AsksOne w c (Err _) before now = Unit {0}
