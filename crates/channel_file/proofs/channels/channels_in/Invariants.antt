use Rattle.std.proofs.Common.{◌≡◌, map, drop}
use Rattle.sexp_reader.specs.Tree.{tree}
use Rattle.channel_file.specs.Channels.{each, listed_channel}
use Rattle.channel_file.proofs.ReadingLemmas.{after}
use Rattle.channel_file.proofs.channels.channels_in.Given as goal

abbrev pub invariant-loop-index : goal.invariant-loop-index
invariant-loop-index l = each listed_channel 0 (map tree l.elements) ≡ after l.channels (each listed_channel l.index (drop l.index (map tree l.elements)))
