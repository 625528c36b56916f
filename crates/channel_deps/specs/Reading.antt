-- What is read of a channel's clone: its target and its metadata.
use Rattle.std.specs.Prelude.{ℕ, List, [], codes, Option, Some, None, Result, Ok}
use Rattle.std.specs.Result.{result_map_both}
use Rattle.child_ports.specs.declared.git.GitRow.{GitRow}
use Rattle.channel_file.specs.declared.channel.Channel.{Channel}
use Rattle.channel_file.specs.declared.channel.Metadata.{Metadata}
use Rattle.channel_file.specs.declared.fail.ChannelFail.{ChannelFail}
use Rattle.channel_file.specs.Metadata.{metadata_of}
use Rattle.auth_rules.specs.World.{onward}
use Rattle.auth_engine.specs.declared.engine_fail.EngineFail.{EngineFail}
use Rattle.channel_clone.specs.Files.{file_of}
use Rattle.channel_clone.specs.Resolving.{resolved}
use Rattle.channel_deps.specs.declared.set_fail.SetFail.{SetFail}
use Rattle.channel_deps.specs.declared.set_fail.SetFail.TheVariants.{Channel as OfChannel, Metadata as OfMetadata}
use Rattle.channel_deps.specs.declared.known.Known.{Known}
use Rattle.channel_deps.specs.Places.{clone_of, target_names}

-- a refusal of one channel, told with its name
abbrev pub in_channel : {T : Type 0} → Channel → Result T EngineFail → Result T SetFail
in_channel channel found = result_map_both (λ x. x) (OfChannel channel.name) found

-- a channel without a file of metadata says nothing of itself
abbrev pub no_metadata : Metadata
no_metadata = record { directory = None; url = None; keyring_reference = None; news_file = None; dependencies = [] }

abbrev pub metadata_in : Option (List ℕ) → Result Metadata ChannelFail
metadata_in None = Ok no_metadata
metadata_in (Some bytes) = metadata_of bytes

-- target and metadata of a channel in a directory, or the first refusal
abbrev pub known_in : List GitRow → List ℕ → Channel → Result Known SetFail
known_in rows dir channel =
    onward (in_channel channel (resolved rows dir (target_names channel))) (λ target.
    onward (in_channel channel (file_of rows dir target (codes ".guix-channel"))) (λ file.
    onward (result_map_both (λ x. x) (OfMetadata channel.name) (metadata_in file)) (λ metadata.
    Ok (record { target = target; metadata = metadata }))))

-- the same in its clone
abbrev pub known_of : List GitRow → List ℕ → Channel → Result Known SetFail
known_of rows clones channel = known_in rows (clone_of clones channel) channel
