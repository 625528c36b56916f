-- Which channels a set has.
use Rattle.std.specs.Prelude.{List, [], ◌∷◌, ◌++◌, if◌then◌else◌}
use Rattle.channel_file.specs.declared.channel.Channel.{Channel}
use Rattle.channel_file.specs.Channels.{has_name}

-- the list with one more channel behind it, unless it has one of this name
abbrev pub with_mention : List Channel → Channel → List Channel
with_mention list channel = if has_name list channel.name then list else list ++ channel ∷ []

-- the list with the first mention of each other name behind it
abbrev pub with_mentions : List Channel → List Channel → List Channel
with_mentions list [] = list
with_mentions list (channel ∷ mentions) = with_mentions (with_mention list channel) mentions
