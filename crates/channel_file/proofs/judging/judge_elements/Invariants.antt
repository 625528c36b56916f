use Rattle.std.proofs.Common.{◌≡◌, [], map, take, drop}
use Rattle.sexp_reader.specs.Tree.{tree}
use Rattle.channel_file.specs.Judging.{elements_judged}
use Rattle.channel_file.proofs.judging.judge_elements.Given as goal

abbrev pub invariant-loop-place : goal.invariant-loop-place
invariant-loop-place l = elements_judged l.index [] (map tree l.elements) ≡ elements_judged l.index (take l.place (map tree l.elements)) (drop l.place (map tree l.elements))
