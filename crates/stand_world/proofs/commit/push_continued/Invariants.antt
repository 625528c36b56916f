use Rattle.std.proofs.Common.{◌≡◌, ◌++◌, length}
use Rattle.std.specs.List.{flat_map}
use Rattle.commit_objects.specs.Lines.{continued}
use Rattle.commit_objects.specs.Reading.{lines_of}
use Rattle.stand_world.proofs.commit.push_continued.Given as goal

abbrev pub invariant-lines : goal.invariant-lines
invariant-lines l = l.text ++ flat_map continued (lines_of l.rest).whole ≡ l.fn.text ++ flat_map continued (lines_of l.lines).whole

abbrev pub decreases-lines : goal.decreases-lines
decreases-lines l = length l.rest
