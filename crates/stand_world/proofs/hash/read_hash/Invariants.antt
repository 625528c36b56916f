use Rattle.std.proofs.Common.{◌≡◌, ◌-◌}
use Rattle.stand_world.specs.Names.{number_among}
use Rattle.stand_world.proofs.hash.read_hash.Given as goal

abbrev pub invariant-loop-number : goal.invariant-loop-number
invariant-loop-number l = number_among 256 0 l.digits ≡ number_among (256 - l.number) l.number l.digits
