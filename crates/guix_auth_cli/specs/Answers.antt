-- What is due to words: status, texts and records.
use Rattle.std.specs.Prelude.{◌≡◌, ℕ, Bool, true, false, List, [], codes, Option, Some, None}
use Rattle.child_ports.specs.Keeper.{Kept}
use Rattle.auth_report.specs.Parts.{line_of}
use Rattle.auth_words.specs.declared.plan.Command.{Command}
use Rattle.auth_words.specs.declared.plan.Command.TheVariants.{Help, Authenticate, Channels}
use Rattle.auth_words.specs.Words.{command_of}
use Rattle.channel_deps.specs.Outcome.{AreSoundOrNone}
use Rattle.channel_deps.specs.Outside.{Outside}
use Rattle.run_answers.specs.Answers.{Answer}
use Rattle.authenticate_run.specs.Answers.{IsAnswerBy, unread_of}
use Rattle.authenticate_run.specs.Outside.{OfKeys, HasSoundOrNone}
use Rattle.authenticate_run.specs.Run.{PutsFor, StoresFor}
use Rattle.channels_run.specs.Answers.{IsListAnswer, list_unread, OfSet, SetPutsFor, SetStoresFor}
use Rattle.guix_auth_cli.specs.Help.{help_text}

-- the answer to a command, or to words that state none
abbrev pub IsAnswerTo : Outside → Kept → Option Command → Answer → Type 0
IsAnswerTo o files None answer = answer ≡ record { status = 2; out = []; err = line_of (codes "bad words; see guix-auth --help"); kept = o.kept }
IsAnswerTo o files (Some Help) answer = answer ≡ record { status = 0; out = help_text; err = []; kept = o.kept }
IsAnswerTo o files (Some (Authenticate plan)) answer = IsAnswerBy o files plan answer
IsAnswerTo o files (Some (Channels plan)) answer = IsListAnswer o files plan answer

-- the answer to words
abbrev pub IsAnswerOf : Outside → Kept → List (List ℕ) → Answer → Type 0
IsAnswerOf o files words answer = IsAnswerTo o files (command_of words) answer

-- the answer to a command where its file can't be read
abbrev pub unread_by : Kept → Option Command → Option Answer
unread_by kept (Some (Authenticate plan)) = unread_of kept plan
unread_by kept (Some (Channels plan)) = Some (list_unread kept plan)
unread_by kept _ = None

-- what is kept for a command is sound, or no cache text
abbrev pub IsSoundOrNoneFor : Outside → Kept → Option Command → Type 0
IsSoundOrNoneFor o files (Some (Authenticate plan)) = OfKeys files plan (HasSoundOrNone o plan)
IsSoundOrNoneFor o files (Some (Channels plan)) = OfSet files plan (AreSoundOrNone o)
IsSoundOrNoneFor o files _ = Unit {0}

-- a command asks for a check
abbrev pub asks_for_check : Option Command → Bool
asks_for_check (Some (Authenticate plan)) = true
asks_for_check (Some (Channels plan)) = true
asks_for_check _ = false

-- a command may warn on standard error though it accepts
abbrev pub MayWarn : Option Command → Type 0
MayWarn (Some (Channels plan)) = Unit {0}
MayWarn _ = ⊥

-- what a command puts among the records, whatever is kept, sound or not
abbrev pub PutsBy : Outside → Kept → Option Command → Kept → Type 0
PutsBy o files (Some (Authenticate plan)) after = PutsFor o files plan after
PutsBy o files (Some (Channels plan)) after = SetPutsFor o files plan after
PutsBy o files _ after = after ≡ o.kept

-- how often the store is called by a command that ends with this status
abbrev pub StoresBy : Outside → Kept → Option Command → ℕ → ℕ → ℕ → Type 0
StoresBy o files (Some (Authenticate plan)) status before now = StoresFor o files plan status before now
StoresBy o files (Some (Channels plan)) status before now = SetStoresFor o files plan status before now
StoresBy o files _ status before now = now ≡ before
