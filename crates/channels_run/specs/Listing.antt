-- What a file of channels gives.
use Rattle.std.specs.Prelude.{◌≡◌, ℕ, Bool, true, false, nat_lt, if◌then◌else◌, List, length, Option, Some, None, Result, Ok, Err}
use Rattle.std.specs.FinMap as map
use Rattle.child_ports.specs.Keeper.{Kept}
use Rattle.auth_report.specs.declared.files.FileFail.TheVariants.{Missing, TooLong, Failed, Memory}
use Rattle.auth_report.specs.FileTexts.{file_line}
use Rattle.auth_words.specs.declared.plan.ChannelsPlan.{ChannelsPlan}
use Rattle.channel_file.specs.declared.channel.Channel.{Channel}
use Rattle.channel_file.specs.declared.fail.ChannelFail.{ChannelFail}
use Rattle.channel_file.specs.Channels.{channels_of}
use Rattle.set_report.specs.ListTexts.{list_line}
use Rattle.channels_run.specs.declared.listing.ListFail.{ListFail}
use Rattle.channels_run.specs.declared.listing.ListFail.TheVariants.{File, Malformed}

abbrev pub or_malformed : Result (List Channel) ChannelFail → Result (List Channel) ListFail
or_malformed (Ok channels) = Ok channels
or_malformed (Err fail) = Err (Malformed fail)

-- the channels of a file's bytes, which are at most 1,048,576
abbrev pub list_in : List ℕ → Result (List Channel) ListFail
list_in bytes = if nat_lt 1048576 (length bytes) then Err (File TooLong) else or_malformed (channels_of bytes)

abbrev pub list_found : Option (List ℕ) → Result (List Channel) ListFail
list_found (Some bytes) = list_in bytes
list_found None = Err (File Missing)

-- the channels of the file at a path
abbrev pub list_at : Kept → List ℕ → Result (List Channel) ListFail
list_at files path = list_found (map.get files path)

-- the channels of a plan
abbrev pub list_of : Kept → ChannelsPlan → Result (List Channel) ListFail
list_of files plan = list_at files plan.file

-- What was answered is this, unless the file couldn't be read or memory ran out.
abbrev pub GivesList : Result (List Channel) ListFail → Result (List Channel) ListFail → Type 0
GivesList (Ok channels) due = due ≡ Ok channels
GivesList (Err (File Failed)) due = Unit {0}
GivesList (Err (File Memory)) due = Unit {0}
GivesList (Err fail) due = due ≡ Err fail

-- the file couldn't be read
abbrev pub is_unread : {T : Type 0} → Result T ListFail → Bool
is_unread (Err (File Failed)) = true
is_unread _ = false

-- the line for a file that gives no channels
abbrev pub trouble_line : List ℕ → ListFail → List ℕ
trouble_line path (File fail) = file_line path fail
trouble_line path (Malformed fail) = list_line path fail
