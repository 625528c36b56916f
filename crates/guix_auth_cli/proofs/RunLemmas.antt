-- A run of words.
use Rattle.std.proofs.Common.{◌≡◌, ◌≢◌, ◌⊎◌, inl, inr, ℕ, List, Option, Some, None, Result, Ok, Err, cond, refl, sym, ap, ◌∙◌, subst, arith}
use Rattle.std.specs.Prelude.{IfOk, IfSome}
use Rattle.std.specs.FinMap as map
use Rattle.std.specs.FinMap.{get-insert}
use Rattle.std.specs.Cmp.Lexicographic.{nat_list_cmp_total}
use Rattle.std.proofs.lemmas.Map.Text.{is_eq-slice_cmp}
use Rattle.std.proofs.lemmas.Slice.Eq.{bytes_eq-Decides}
use Rattle.child_ports.specs.declared.keeper.Pair.{Pair}
use Rattle.child_ports.specs.Causes.{Rose}
use Rattle.child_ports.specs.Keeper.{Kept}
use Rattle.child_ports.specs.KeySet.{Keys}
use Rattle.auth_engine.specs.SoundCache.{IsSoundCache}
use Rattle.auth_engine.proofs.OutcomeLemmas.{sound_or_none}
use Rattle.auth_engine.proofs.StoredLemmas.{stored_sound}
use Rattle.auth_engine.specs.declared.engine_fail.EngineFail.TheVariants.{Memory}
use Rattle.auth_report.specs.Texts.{refusal_line}
use Rattle.auth_words.specs.declared.plan.Plan.{Plan}
use Rattle.auth_words.specs.declared.plan.ChannelsPlan.{ChannelsPlan}
use Rattle.auth_words.specs.declared.plan.Command.{Command}
use Rattle.auth_words.specs.declared.plan.Command.TheVariants.{Help, Authenticate, Channels}
use Rattle.auth_words.specs.Words.{command_of}
use Rattle.run_answers.specs.Answers.{Answer, refused}
use Rattle.authenticate_run.specs.Answers.{with_store}
use Rattle.run_answers.specs.Faults.{Counts, Ends, IsOtherFault}
use Rattle.channel_deps.specs.Outside.{Outside, outside}
use Rattle.authenticate_run.specs.Outside.{task_for, cache_in, HasSoundCache, HasSoundOrNone}
use Rattle.run_answers.specs.Ended.{Sunk, Stored, IsOutput, Shows, stored, IsItOrUnread}
use Rattle.authenticate_run.specs.Run.{KeepsOrStores}
use Rattle.guix_auth_cli.specs.Answers.{IsAnswerTo, unread_by, MayWarn, PutsBy, StoresBy}
use Rattle.run_answers.specs.Shown.{IsPut, IsStatus}
use Rattle.run_answers.proofs.FinishLemmas.{stop_shown}
use Rattle.authenticate_run.proofs.StoreLemmas.{no_puts, no_stores}
use Rattle.channels_run.proofs.PutLemmas.{no_set_puts, no_set_stores}

-- what was read is what the words state
pub read_is : {E : Type 0} (result : Result (Option Command) E) (read stated : Option Command) → IfOk result (λ command. command ≡ stated) → result ≡ Ok read → stated ≡ read
read_is {E = E} result read stated exact is = sym (subst (λ (r : Result (Option Command) E). IfOk r (λ command. command ≡ stated)) is exact)

some_plan : {a b : Plan} → ◌≡◌ {A = Option Command} (Some (Authenticate a)) (Some (Authenticate b)) → a ≡ b
some_plan e = cc

-- words state one plan
pub one_plan : (words : List (List ℕ)) (plan other : Plan) → command_of words ≡ Some (Authenticate plan) → command_of words ≡ Some (Authenticate other) → plan ≡ other
one_plan words plan other is also = some_plan (sym is ∙ also)

some_list : {a b : ChannelsPlan} → ◌≡◌ {A = Option Command} (Some (Channels a)) (Some (Channels b)) → a ≡ b
some_list e = cc

-- words state one list
pub one_list : (words : List (List ℕ)) (plan other : ChannelsPlan) → command_of words ≡ Some (Channels plan) → command_of words ≡ Some (Channels other) → plan ≡ other
one_list words plan other is also = some_list (sym is ∙ also)

-- a fault of a command is one of its words
pub fault_of_words : (words : List (List ℕ)) (command : Option Command) (status : ℕ) (before now : Ends) (room room' : ℕ) → command_of words ≡ command
    → IsOtherFault (MayWarn command) status before now room room' → IsOtherFault (MayWarn (command_of words)) status before now room room'
fault_of_words words command status before now room room' is = subst (λ (c : Option Command). IsOtherFault (MayWarn c) status before now room room') (sym is)

-- the help has none
pub help_has_none : (words : List (List ℕ)) (plan : Plan) → command_of words ≡ Some Help → command_of words ≡ Some (Authenticate plan) → ⊥
help_has_none words plan is also = let no : ◌≡◌ {A = Option Command} (Some Help) (Some (Authenticate plan)) = sym is ∙ also in grind (arith, no)

pub none_has_none : (words : List (List ℕ)) (plan : Plan) → command_of words ≡ None → command_of words ≡ Some (Authenticate plan) → ⊥
none_has_none words plan is also = let no : ◌≡◌ {A = Option Command} None (Some (Authenticate plan)) = sym is ∙ also in grind (arith, no)

module _ (o : Outside) (files : Kept) (words : List (List ℕ)) (before now : Counts) (room room' status : ℕ) (store' : Stored) (out out' err err' : Sunk) where
  -- how a run of a command ended
  abbrev pub Ran : Option Command → Type 0
  Ran command = (answer : Answer) × IsItOrUnread (IsAnswerTo o files command) (unread_by o.kept command) o.kept before now room room' answer
      × Shows answer status (stored o.kept before.keeper) store' out out' err err'

  pub ran : (command : Option Command) → command_of words ≡ command → Ran command → Ran (command_of words)
  ran command is ended = subst Ran (sym is) ended

  -- an answer that is given at once
  pub at_once : (command : Option Command) (answer : Answer) → command_of words ≡ command → IsAnswerTo o files command answer → IsStatus (Rose out.failed out'.failed ⊎ Rose err.failed err'.failed) answer.status status
      → IsOutput answer.out out out' err err' → IsPut err.taken err'.taken answer.err err.failed err'.failed → store'.kept ≡ answer.kept → Ran (command_of words)
  at_once command answer is it own put_out put_err keeps = ran command is (answer, inl (inl it), record { status_is = own; output = put_out; line = put_err; records = λ _. keeps })

pub wants_memory : (o : Outside) (files : Kept) (words : List (List ℕ)) (before now : Counts) (room room' status : ℕ) (store' : Stored) (out err err' : Sunk) → status ≡ 6 → store'.kept ≡ o.kept
    → IsPut err.taken err'.taken (refusal_line Memory) err.failed err'.failed → Ran o files words before now room room' status store' out out err err' (command_of words)
wants_memory o files words before now room room' status store' out err err' own keeps put =
    (refused o.kept Memory, inl (inr (Memory, tt, refl)), stop_shown o.kept Memory status (stored o.kept before.keeper) store' out err err' own (λ _. keeps) put)

-- ---- nothing was checked

pub puts_none : (o : Outside) (files : Kept) (command : Option Command) (after : Kept) → after ≡ o.kept → PutsBy o files command after
puts_none o files None after same = same
puts_none o files (Some Help) after same = same
puts_none o files (Some (Authenticate plan)) after same = no_puts o files plan after same
puts_none o files (Some (Channels plan)) after same = no_set_puts o files plan after same

pub stores_none : (o : Outside) (files : Kept) (command : Option Command) (status before now : ℕ) → now ≡ before → status ≢ 0 → StoresBy o files command status before now
stores_none o files None status before now same own = same
stores_none o files (Some Help) status before now same own = same
stores_none o files (Some (Authenticate plan)) status before now same own = no_stores o files plan status before now same own
stores_none o files (Some (Channels plan)) status before now same own = no_set_stores o files plan status before now same own

-- ---- the cache behind a run

pub if_map : {T E : Type 0} (r : Result T E) (P Q : T → Type 0) → ((x : T) → P x → Q x) → IfOk r P → IfOk r Q
if_map (Ok x) P Q f p = f x p
if_map (Err e) P Q f p = tt

-- what was put is found
found_there : (kept : Kept) (pair : Pair) (key : List ℕ) → pair.key ≡ key → map.get (with_store kept (Some pair)) key ≡ Some pair.value
found_there kept pair key same =
    get-insert nat_list_cmp_total kept pair.key pair.value key ∙ ap (λ b. cond b (Some pair.value) (map.get kept key)) (is_eq-slice_cmp key pair.key ∙ (bytes_eq-Decides key pair.key).1 (sym same))

-- a sound cache stays sound
pub sound_after : (o : Outside) (plan : Plan) (keys : Keys) (after : Kept) → HasSoundCache o plan keys → KeepsOrStores o plan keys after → HasSoundCache (outside o.answers o.verdicts after) plan keys
sound_after o plan keys after sound (inl same) = subst (λ (k : Kept). HasSoundCache (outside o.answers o.verdicts k) plan keys) (sym same) sound
sound_after o plan keys after sound (inr put) = by_store put.0.store refl
  where
    stays : (k : Kept) → after ≡ k → HasSoundCache (outside o.answers o.verdicts k) plan keys → HasSoundCache (outside o.answers o.verdicts after) plan keys
    stays k is h = subst (λ (k : Kept). HasSoundCache (outside o.answers o.verdicts k) plan keys) (sym is) h

    by_store : (store : Option Pair) → put.0.store ≡ store → HasSoundCache (outside o.answers o.verdicts after) plan keys
    by_store None is = stays o.kept (put.2 ∙ ap (with_store o.kept) is) sound
    by_store (Some pair) is =
        let kept_sound = subst (λ (store : Option Pair). IfSome store (λ pair. (pair.key ≡ plan.cache_key) × IsSoundCache o.answers o.verdicts (task_for plan keys) (Some pair.value))) is
        (stored_sound o.answers o.verdicts (task_for plan keys) (cache_in o.kept plan) put.0 sound put.1) in
        stays (with_store o.kept (Some pair)) (put.2 ∙ ap (with_store o.kept) is)
        (subst (λ (v : Option (List ℕ)). IsSoundCache o.answers o.verdicts (task_for plan keys) v) (sym (found_there o.kept pair plan.cache_key kept_sound.0)) kept_sound.1)

-- and so behind a run that keeps or stores
pub sound_behind : (o : Outside) (plan : Plan) (after : Kept) (keys : Keys) → (HasSoundOrNone o plan keys → KeepsOrStores o plan keys after) → HasSoundCache o plan keys → HasSoundCache (outside o.answers o.verdicts after) plan keys
sound_behind o plan after keys keeps sound = sound_after o plan keys after sound (keeps (sound_or_none o.answers o.verdicts (task_for plan keys) (cache_in o.kept plan) sound))
