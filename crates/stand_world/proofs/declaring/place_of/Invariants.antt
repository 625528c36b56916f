use Rattle.std.proofs.Common.{◌≡◌, ◌≤◌, ◌-◌, ◌++◌, length, take, drop}
use Rattle.stand_world.specs.Script.{put_key}
use Rattle.stand_world.proofs.declaring.place_of.Given as goal

abbrev pub invariant-loop-place : goal.invariant-loop-place
invariant-loop-place l = record {
  within : l.place ≤ length l.keys;
  so_far : put_key l.key l.keys ≡ take l.place l.keys ++ put_key l.key (drop l.place l.keys);
}

abbrev pub decreases-loop-place : goal.decreases-loop-place
decreases-loop-place l = length l.initial.keys - l.place
