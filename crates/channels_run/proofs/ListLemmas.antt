-- A run of a list: its file, and then its set.
use Rattle.std.proofs.Common.{◌≡◌, ◌⊎◌, inl, inr, ℕ, List, Option, Some, Result, Ok, Err, refl, sym, subst}
use Rattle.std.specs.Prelude.{IfOk, IsOk, MatchResult}
use Rattle.std.proofs.lemmas.Bool.{false≢true}
use Rattle.child_ports.specs.Causes.{RoseWhen}
use Rattle.child_ports.specs.Keeper.{Kept}
use Rattle.auth_engine.specs.declared.engine_fail.EngineFail.TheVariants.{Memory}
use Rattle.auth_report.specs.declared.files.FileFail.TheVariants as file
use Rattle.auth_report.specs.FileTexts.{file_line}
use Rattle.auth_words.specs.declared.plan.ChannelsPlan.{ChannelsPlan}
use Rattle.channel_file.specs.declared.channel.Channel.{Channel}
use Rattle.channel_deps.specs.declared.set.SetTask.{SetTask}
use Rattle.channel_deps.specs.Outside.{Outside}
use Rattle.run_answers.specs.Answers.{Answer, refused}
use Rattle.run_answers.specs.Ended.{Sunk, Stored, Shows, stored, IsItOrStopped, IsItOrUnread, TellsNone}
use Rattle.run_answers.specs.Faults.{Counts}
use Rattle.run_answers.proofs.FinishLemmas.{stop_shown}
use Rattle.run_answers.proofs.ShownLemmas.{no_output}
use Rattle.channels_run.specs.declared.listing.ListFail.{ListFail}
use Rattle.channels_run.specs.declared.listing.ListFail.TheVariants.{File, Malformed}
use Rattle.channels_run.specs.Answers.{set_for, IsSetDue, IsListAnswer, list_refused, list_unread, OfSet}
use Rattle.channels_run.specs.Listing.{GivesList, is_unread, list_of, trouble_line}
use Rattle.channels_run.specs.Shown.{IsListStatus, ShowsList}

module _ (o : Outside) (files : Kept) (plan : ChannelsPlan) where
  -- ---- the file gave channels
  module _ (channels : List Channel) (is : list_of files plan ≡ Ok channels) where
    pub set_answers : (before now : Counts) (room room' : ℕ) (answer : Answer) → IsItOrStopped (IsSetDue o plan channels) o.kept before now answer
        → IsItOrUnread (IsListAnswer o files plan) (Some (list_unread o.kept plan)) o.kept before now room room' answer
    set_answers before now room room' answer (inl due) =
        inl (inl (subst (λ (r : Result (List Channel) ListFail). MatchResult r (λ channels. IsSetDue o plan channels answer) (λ fail. answer ≡ list_refused o.kept plan fail)) (sym is) due))
    set_answers before now room room' answer (inr stop) = inl (inr stop)

    -- a fact of the set
    pub at_set : (fact : SetTask → Type 0) → OfSet files plan fact → fact (set_for plan channels)
    at_set fact all = subst (λ (r : Result (List Channel) ListFail). IfOk r (λ channels. fact (set_for plan channels))) is all

    pub from_set : (fact : SetTask → Type 0) → fact (set_for plan channels) → OfSet files plan fact
    from_set fact own = subst (λ (r : Result (List Channel) ListFail). IfOk r (λ channels. fact (set_for plan channels))) (sym is) own

  -- ---- it gave none
  pub of_all : (fact : SetTask → Type 0) → ((s : SetTask) → fact s) → OfSet files plan fact
  of_all fact all = by_list (list_of files plan)
    where
      by_list : (r : Result (List Channel) ListFail) → IfOk r (λ channels. fact (set_for plan channels))
      by_list (Ok channels) = all (set_for plan channels)
      by_list (Err fail) = tt

  module _ (status : ℕ) (before now : Counts) (room room' : ℕ) (store' : Stored) (out err err' : Sunk) (keeps : store'.kept ≡ o.kept) where
    pub no_list_shown : TellsNone (list_of files plan) (trouble_line plan.file) (file_line plan.file file.Failed) status err err' room room'
        → (answer : Answer) × IsItOrUnread (IsListAnswer o files plan) (Some (list_unread o.kept plan)) o.kept before now room room' answer
        × Shows answer status (stored o.kept before.keeper) store' out out err err'
    no_list_shown (inl told) = (
      list_refused o.kept plan told.0,
      inl (inl (subst (λ (r : Result (List Channel) ListFail). MatchResult r (λ channels. IsSetDue o plan channels (list_refused o.kept plan told.0)) (λ fail. list_refused o.kept plan told.0 ≡ list_refused o.kept plan fail)) (sym told.1) refl)),
      record {
        status_is = inl told.2;
        output = no_output out err err';
        line = told.3;
        records = λ _. keeps;
      },
    )
    no_list_shown (inr (inl told)) = (refused o.kept Memory, inl (inr (Memory, tt, refl)), stop_shown o.kept Memory status (stored o.kept before.keeper) store' out err err' told.0 (λ _. keeps) told.1)
    no_list_shown (inr (inr told)) = (
      list_unread o.kept plan,
      inr (refl, told.2),
      record {
        status_is = inl told.0;
        output = no_output out err err';
        line = told.1;
        records = λ _. keeps;
      },
    )

-- what was shown of a file that gives no channels is what is told of it
pub tells_none : (found : Result (List Channel) ListFail) (path : List ℕ) (fail : ListFail) (status : ℕ) (err err' : Sunk) (room room' : ℕ) → GivesList (Err fail) found
    → RoseWhen (is_unread {T = List Channel} (Err fail)) room room' → ShowsList path fail status err.taken err'.taken err.failed err'.failed
    → TellsNone found (trouble_line path) (file_line path file.Failed) status err err' room room'
tells_none found path (File file.Missing) status err err' room room' given rose (inl told) = inl (File file.Missing, given, told.0, told.1)
tells_none found path (File file.Missing) status err err' room room' given rose (inr told) = inr (inl told)
tells_none found path (File file.TooLong) status err err' room room' given rose (inl told) = inl (File file.TooLong, given, told.0, told.1)
tells_none found path (File file.TooLong) status err err' room room' given rose (inr told) = inr (inl told)
tells_none found path (File (file.Malformed why)) status err err' room room' given rose (inl told) = inl (File (file.Malformed why), given, told.0, told.1)
tells_none found path (File (file.Malformed why)) status err err' room room' given rose (inr told) = inr (inl told)
tells_none found path (File file.Failed) status err err' room room' given rose told = inr (inr (told.0, told.1, rose))
tells_none found path (File file.Memory) status err err' room room' given rose told = inr (inl told)
tells_none found path (Malformed why) status err err' room room' given rose (inl told) = inl (Malformed why, given, told.0, told.1)
tells_none found path (Malformed why) status err err' room room' given rose (inr told) = inr (inl told)

not_given : (found : Result (List Channel) ListFail) (fail : ListFail) → found ≡ Err fail → IsOk found → ⊥
not_given found fail is ok = false≢true (subst (λ (r : Result (List Channel) ListFail). IsOk r) is ok)

-- the status of a file that gives channels, where none were read
pub given_status : (found : Result (List Channel) ListFail) (fail : ListFail) (status : ℕ) → GivesList (Err fail) found → IsListStatus fail status → IsOk found → (status ≡ 5) ⊎ (status ≡ 6)
given_status found (File file.Failed) status given own ok = inl own
given_status found (File file.Memory) status given own ok = inr own
given_status found fail status given own ok = absurd (not_given found fail given ok)
