use Rattle.std.proofs.Common.{◌≡◌, ◌++◌, drop}
use Rattle.std.specs.Prelude.{option_map}
use Rattle.stand_world.specs.Script.{each_of, listed_named}
use Rattle.stand_world.proofs.declaring.each_listed.Given as goal

abbrev pub invariant-loop-name : goal.invariant-loop-name
invariant-loop-name l = each_of (listed_named l.keys) l.names ≡ option_map (λ more. l.all ++ more) (each_of (listed_named l.keys) (drop l.name-index l.names))
