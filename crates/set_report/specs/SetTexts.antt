-- The texts on a set of channels that isn't accepted. They are this project's own.
use Rattle.std.specs.Prelude.{ℕ, List, ◌++◌, codes}
use Rattle.hex.specs.Hex.{encode_lower}
use Rattle.channel_deps.specs.declared.set_fail.SetFail.{SetFail}
use Rattle.channel_deps.specs.declared.set_fail.SetFail.TheVariants as fail
use Rattle.auth_report.specs.Parts.{line_of, git_failed, gpgv_failed, store_failed, out_of_memory, shown}
use Rattle.auth_report.specs.Texts.{fail_text}
use Rattle.set_report.specs.ListTexts.{channel_text}

-- why a set isn't accepted
abbrev pub set_text : SetFail → List ℕ
set_text (fail.Channel name why) = codes "channel " ++ shown name ++ codes ": " ++ fail_text why
set_text (fail.Metadata name why) = codes "channel " ++ shown name ++ codes ": .guix-channel: " ++ channel_text why
set_text (fail.Record name) = codes "channel " ++ shown name ++ codes ": bad deployed record"
set_text (fail.Downgrade name old new) = codes "channel " ++ shown name ++ codes " would go back from " ++ encode_lower old ++ codes " to " ++ encode_lower new
set_text (fail.UnrelatedMove name old new) = codes "channel " ++ shown name ++ codes " would move from " ++ encode_lower old ++ codes " to unrelated " ++ encode_lower new
set_text (fail.DeployedMissing name old) = codes "channel " ++ shown name ++ codes ": deployed commit " ++ encode_lower old ++ codes " is missing"
set_text fail.TooManyChannels = codes "more than 256 channels"
set_text fail.GitFault = git_failed
set_text fail.SigFault = gpgv_failed
set_text fail.KeepFault = store_failed
set_text fail.Memory = out_of_memory

-- the line for a set that isn't accepted
abbrev pub set_refusal_line : SetFail → List ℕ
set_refusal_line fail = line_of (set_text fail)
