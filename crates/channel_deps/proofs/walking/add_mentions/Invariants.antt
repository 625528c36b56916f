use Rattle.std.proofs.Common.{◌≡◌, ◌≤◌, length, take}
use Rattle.channel_deps.specs.Members.{with_mentions}
use Rattle.channel_deps.proofs.walking.add_mentions.Given as goal

abbrev pub invariant-loop-channel : goal.invariant-loop-channel
invariant-loop-channel l = record {
  added : l.list ≡ with_mentions l.fn.list (take l.channel-index l.mentions);
  few : length l.list ≤ 256;
}
