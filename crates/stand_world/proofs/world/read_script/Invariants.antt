use Rattle.std.proofs.Common.{◌≡◌, ◌≤◌, ◌+◌, length}
use Rattle.commit_objects.specs.Reading.{lines_of}
use Rattle.stand_world.specs.Script.{after_lines, declared_by}
use Rattle.stand_world.proofs.world.read_script.Given as goal

abbrev pub invariant-lines : goal.invariant-lines
invariant-lines l = record {
  so_far : declared_by l.script ≡ after_lines l.declared l.number (lines_of l.rest).whole (lines_of l.rest).left;
  within : l.number + length l.rest ≤ length l.script + 1;
}

abbrev pub decreases-lines : goal.decreases-lines
decreases-lines l = length l.rest
