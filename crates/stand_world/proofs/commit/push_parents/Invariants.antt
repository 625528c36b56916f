use Rattle.std.proofs.Common.{◌≡◌, ◌++◌, drop}
use Rattle.std.specs.List.{flat_map}
use Rattle.commit_objects.specs.Lines.{parent_line}
use Rattle.stand_world.proofs.commit.push_parents.Given as goal

abbrev pub invariant-loop-parent : goal.invariant-loop-parent
invariant-loop-parent l = l.text ++ flat_map parent_line (drop l.parent-index l.parents) ≡ l.fn.text ++ flat_map parent_line l.parents
