use Rattle.std.proofs.Common.{◌≡◌, ◌∷◌, ◌++◌, drop, true}
use Rattle.commit_objects.specs.Headers.{without_spaces}
use Rattle.commit_objects.proofs.lines.value_of.Given as goal

abbrev pub invariant-loop-byte : goal.invariant-loop-byte
invariant-loop-byte l = l.value.items ++ without_spaces l.begins (drop l.byte-index l.more) ≡ l.fn.first ++ 10 ∷ without_spaces true l.more
