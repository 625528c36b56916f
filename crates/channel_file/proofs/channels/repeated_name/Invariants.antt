use Rattle.std.proofs.Common.{◌≡◌, [], take, drop}
use Rattle.channel_file.specs.Channels.{repeated_name}
use Rattle.channel_file.proofs.channels.repeated_name.Given as goal

abbrev pub invariant-loop-index : goal.invariant-loop-index
invariant-loop-index l = repeated_name [] l.channels ≡ repeated_name (take l.index l.channels) (drop l.index l.channels)
