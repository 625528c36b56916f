use Rattle.std.proofs.Common.{◌≡◌, map, drop}
use Rattle.sexp_reader.specs.Tree.{tree}
use Rattle.channel_file.specs.Channels.{each}
use Rattle.channel_file.specs.Dependencies.{dependency}
use Rattle.channel_file.proofs.ReadingLemmas.{after}
use Rattle.channel_file.proofs.dependencies.dependencies_in.Given as goal

abbrev pub invariant-loop-index : goal.invariant-loop-index
invariant-loop-index l = each dependency 0 (map tree l.elements) ≡ after l.channels (each dependency l.index (drop l.index (map tree l.elements)))
