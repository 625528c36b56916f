use Rattle.std.proofs.Common.{◌≡◌, take}
use Rattle.channel_deps.proofs.walking.copied_channels.Given as goal

abbrev pub invariant-loop-channel : goal.invariant-loop-channel
invariant-loop-channel l = l.list ≡ take l.channel-index l.channels
