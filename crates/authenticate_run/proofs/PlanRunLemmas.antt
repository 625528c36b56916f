-- A run of a plan: its file, and then its task.
use Rattle.std.proofs.Common.{◌≡◌, ◌⊎◌, inl, inr, ℕ, List, Option, Some, option_map, Result, Ok, Err, refl, sym, ap, subst}
use Rattle.std.specs.Prelude.{IfOk, IfErr, IsOk, MatchResult}
use Rattle.child_ports.specs.Keeper.{Kept}
use Rattle.child_ports.specs.KeySet.{Keys}
use Rattle.auth_engine.specs.declared.engine_fail.EngineFail.TheVariants.{Memory}
use Rattle.auth_engine.specs.Outcome.{HasAuthenticTarget}
use Rattle.auth_report.specs.declared.files.FileFail.{FileFail}
use Rattle.auth_report.specs.declared.files.FileFail.TheVariants as file
use Rattle.auth_report.specs.FileTexts.{file_line}
use Rattle.auth_words.specs.declared.plan.Plan.{Plan}
use Rattle.run_answers.specs.Answers.{Answer, refused}
use Rattle.authenticate_run.specs.Answers.{file_refused, file_unread, path_line, IsDue, IsAnswerBy, unread_of}
use Rattle.run_answers.specs.Faults.{Counts}
use Rattle.authenticate_run.specs.Historical.{keys_at}
use Rattle.channel_deps.specs.Outside.{Outside}
use Rattle.authenticate_run.specs.Outside.{task_for, keys_named, historical_of}
use Rattle.run_answers.specs.Ended.{Sunk, Stored, Shows, stored, IsItOrStopped, IsItOrUnread, TellsNone}
use Rattle.authenticate_run.specs.Run.{IsAuthenticFor, TellsNoKeys, AsksAsTold, StopsUnasked, AsksFor}
use Rattle.run_answers.specs.Shown.{IsPut}
use Rattle.run_answers.proofs.ShownLemmas.{no_output}
use Rattle.run_answers.proofs.FinishLemmas.{stop_shown}

-- ---- facts of a value that may not be there

pub if_at : {T E : Type 0} (r : Result T E) (x : T) (P : T → Type 0) → r ≡ Ok x → IfOk r P → P x
if_at r x P is h = subst (λ v. IfOk v P) is h

pub if_from : {T E : Type 0} (r : Result T E) (x : T) (P : T → Type 0) → r ≡ Ok x → P x → IfOk r P
if_from r x P is h = subst (λ v. IfOk v P) (sym is) h

pub if_all : {T E : Type 0} (r : Result T E) (P : T → Type 0) → ((x : T) → P x) → IfOk r P
if_all (Ok x) P h = h x
if_all (Err e) P h = tt

same_keys : {T E : Type 0} (r : Result T E) (x y : T) → r ≡ Ok x → r ≡ Ok y → x ≡ y
same_keys r x y a b = cc

module _ (o : Outside) (files : Kept) (plan : Plan) where
  -- ---- the file gave keys
  module _ (keys : Keys) (is : historical_of files plan ≡ Ok keys) where
    pub task_answers : (before now : Counts) (room room' : ℕ) (answer : Answer) → IsItOrStopped (IsDue o plan keys) o.kept before now answer
        → IsItOrUnread (IsAnswerBy o files plan) (unread_of o.kept plan) o.kept before now room room' answer
    task_answers before now room room' answer (inl due) =
        inl (inl (subst (λ (r : Result Keys FileFail). MatchResult r (λ keys. IsDue o plan keys answer) (λ fail. answer ≡ file_refused o.kept plan fail)) (sym is) due))
    task_answers before now room room' answer (inr stop) = inl (inr stop)

    pub task_complete : (status : ℕ) → IsAuthenticFor o files plan → (HasAuthenticTarget o.answers o.verdicts (task_for plan keys) → (status ≡ 0) ⊎ (status ≡ 4) ⊎ (status ≡ 5) ⊎ (status ≡ 6))
        → (status ≡ 0) ⊎ (status ≡ 4) ⊎ (status ≡ 5) ⊎ (status ≡ 6)
    task_complete status auth complete = complete (subst (λ (k : Keys). HasAuthenticTarget o.answers o.verdicts (task_for plan k)) (same_keys (historical_of files plan) auth.0 keys auth.1 is) auth.2)

    pub task_asks : (status before now : ℕ) → AsksAsTold o plan keys status before now → AsksFor o files plan status before now
    task_asks status before now asks =
        subst (λ (r : Result Keys FileFail). MatchResult r (λ keys. AsksAsTold o plan keys status before now ⊎ StopsUnasked status before now) (λ fail. ((now ≡ before) × (status ≡ 3)) ⊎ StopsUnasked status before now)) (sym is) (inl asks)

  -- ---- it gave none
  pub no_asks : (status before now : ℕ) → now ≡ before → (IsOk (historical_of files plan) → (status ≡ 5) ⊎ (status ≡ 6)) → (status ≡ 3) ⊎ (status ≡ 5) ⊎ (status ≡ 6)
      → AsksFor o files plan status before now
  no_asks status before now same given own = by_keys (historical_of files plan) given
    where
      by_keys : (r : Result Keys FileFail) → (IsOk r → (status ≡ 5) ⊎ (status ≡ 6))
          → MatchResult r (λ keys. AsksAsTold o plan keys status before now ⊎ StopsUnasked status before now) (λ fail. ((now ≡ before) × (status ≡ 3)) ⊎ StopsUnasked status before now)
      by_keys (Ok keys) stops = inr (same, stops refl)
      by_keys (Err fail) stops = elim own [
        | inl three ↦ inl (same, three)
        | inr later ↦ inr (same, later)
      ]

  module _ (status : ℕ) (before now : Counts) (room room' : ℕ) (store' : Stored) (out err err' : Sunk) (keeps : store'.kept ≡ o.kept) where
    abbrev Untold : Answer → Type 0
    Untold answer = IsItOrUnread (IsAnswerBy o files plan) (unread_of o.kept plan) o.kept before now room room' answer

    by_path : (path : List ℕ) → plan.historical ≡ Some path → TellsNone (historical_of files plan) (file_line path) (file_line path file.Failed) status err err' room room'
        → (answer : Answer) × Untold answer × Shows answer status (stored o.kept before.keeper) store' out out err err'
    by_path path named (inl told) = (
      file_refused o.kept plan told.0,
      inl (inl (subst (λ (r : Result Keys FileFail). MatchResult r (λ keys. IsDue o plan keys (file_refused o.kept plan told.0)) (λ fail. file_refused o.kept plan told.0 ≡ file_refused o.kept plan fail)) (sym told.1) refl)),
      record {
        status_is = inl told.2;
        output = no_output out err err';
        line = subst (λ (p : Option (List ℕ)). IsPut err.taken err'.taken (path_line p told.0) err.failed err'.failed) (sym named) told.3;
        records = λ _. keeps;
      },
    )
    by_path path named (inr (inl told)) = (refused o.kept Memory, inl (inr (Memory, tt, refl)), stop_shown o.kept Memory status (stored o.kept before.keeper) store' out err err' told.0 (λ _. keeps) told.1)
    by_path path named (inr (inr told)) = (
      file_unread o.kept plan,
      inr (subst (λ (p : Option (List ℕ)). option_map (λ path. file_unread o.kept plan) p ≡ Some (file_unread o.kept plan)) (sym named) refl, told.2),
      record {
        status_is = inl told.0;
        output = no_output out err err';
        line = subst (λ (p : Option (List ℕ)). IsPut err.taken err'.taken (path_line p file.Failed) err.failed err'.failed) (sym named) told.1;
        records = λ _. keeps;
      },
    )

    pub no_keys_shown : TellsNoKeys files plan status err err' room room' → (answer : Answer) × Untold answer × Shows answer status (stored o.kept before.keeper) store' out out err err'
    no_keys_shown told = by_path told.0 told.1 told.2

-- what was told of the file that a plan names
pub named_tells : (files : Kept) (plan : Plan) (path named : List ℕ) (A B : Type 0) (r : Result Keys ℕ) (err err' : Sunk) (room room' : ℕ) → plan.historical ≡ Some path → named ≡ path
    → IfErr r (λ status. A → B → TellsNone (keys_at files named) (file_line named) (file_line named file.Failed) status err err' room room') → IfErr r (λ status. A → B → TellsNoKeys files plan status err err' room room')
named_tells files plan path named A B (Ok keys) err err' room room' is same told = tt
named_tells files plan path named A B (Err status) err err' room room' is same told = λ a b. (
  path,
  is,
  subst (λ (keys : Result Keys FileFail). TellsNone keys (file_line path) (file_line path file.Failed) status err err' room room') (sym (ap (keys_named files) is))
      (subst (λ (p : List ℕ). TellsNone (keys_at files p) (file_line p) (file_line p file.Failed) status err err' room room') same (told a b)),
)
