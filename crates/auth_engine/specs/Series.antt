-- A series of checks in one directory, under one key of a cache.
use Rattle.std.specs.Prelude.{◌≡◌, ◌⊎◌, ℕ, List, [], ◌∷◌, Option, Some, None, Ok, Contains}
use Rattle.child_ports.specs.declared.git.GitRow.{GitRow}
use Rattle.child_ports.specs.declared.sig.SigRow.{SigRow}
use Rattle.child_ports.specs.declared.keeper.Pair.{Pair}
use Rattle.child_ports.specs.Git.{answer}
use Rattle.object_frames.specs.declared.object.Object.{Object}
use Rattle.object_frames.specs.declared.object.Fetched.TheVariants.{Found}
use Rattle.object_frames.specs.Fetched.{fetched_of}
use Rattle.auth_engine.specs.declared.task.Task.{Task}
use Rattle.auth_engine.specs.declared.task.Verdict.{Verdict}
use Rattle.auth_engine.specs.Growth.{KeepsObjects, KeepsVerdicts}
use Rattle.auth_engine.specs.Outcome.{IsOutcome}

-- one check: what git and gpgv answer in it, its task, and what is kept before it
pub record Check : Type 0 where
  pub answers : List GitRow
  pub verdicts : List SigRow
  pub task : Task
  pub kept : Option (List ℕ)

-- What is kept behind a check is what was kept before or, only where its target is accepted, what its verdict has to be kept.
-- Whether the check was refused or failed makes no difference.
abbrev pub Leaves : Check → Option (List ℕ) → Type 0
Leaves check after = (after ≡ check.kept)
    ⊎ ((verdict : Verdict) × (pair : Pair) × IsOutcome check.answers check.verdicts check.task check.kept (Ok verdict) × (verdict.store ≡ Some pair) × (after ≡ Some pair.value))

-- A check after another, in the same directory: each object that was found by its id is found again, each verdict is given
-- again, and what is kept is what the one before has left. Target, scope and keyring may be any.
pub record Follows (one next : Check) : Type 0 where
  pub dir : next.task.dir ≡ one.task.dir
  pub objects : KeepsObjects one.task.dir one.answers next.answers
  pub verdicts : KeepsVerdicts one.verdicts next.verdicts
  pub left : Leaves one next.kept

-- a series of checks, the last one first: it begins with nothing that is kept
abbrev pub IsSeries : List Check → Type 0
IsSeries [] = Unit {0}
IsSeries (check ∷ []) = check.kept ≡ None
IsSeries (next ∷ one ∷ before) = Follows one next × IsSeries (one ∷ before)

-- the object is found under some name in one of the checks
pub record IsFoundIn (checks : List Check) (object : Object) : Type 0 where
  pub check : Check
  pub listed : Contains checks check
  pub name : List ℕ
  pub limit : ℕ
  pub found : fetched_of limit name (answer check.answers check.task.dir name) ≡ Ok (Found object)

-- no two different objects that are found in the checks have one id
abbrev pub HaveOwnIds : List Check → Type 0
HaveOwnIds checks = (a b : Object) → IsFoundIn checks a → IsFoundIn checks b → a.id ≡ b.id → a ≡ b
