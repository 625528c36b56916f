use Rattle.std.proofs.Common.{◌≡◌, ◌+◌, ◌≤◌, drop, length}
use Rattle.object_frames.specs.Fronts.{common}
use Rattle.object_frames.proofs.fronts.common.Given as goal

abbrev pub invariant-loop-i : goal.invariant-loop-i
invariant-loop-i l = record {
  within : l.i ≤ length l.other;
  so_far : common l.text l.other ≡ l.i + common (drop l.i l.text) (drop l.i l.other);
}
