use Rattle.std.proofs.Common.{◌≡◌, map, drop}
use Rattle.sexp_reader.specs.Tree.{tree}
use Rattle.channel_file.specs.Elements.{first_behind}
use Rattle.channel_file.proofs.elements.first_behind.Given as goal

abbrev pub invariant-loop-element : goal.invariant-loop-element
invariant-loop-element l = first_behind l.word (map tree l.elements) ≡ first_behind l.word (drop l.element-index (map tree l.elements))
