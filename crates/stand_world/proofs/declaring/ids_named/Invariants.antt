use Rattle.std.proofs.Common.{◌≡◌, ◌++◌, drop}
use Rattle.std.specs.Prelude.{option_map}
use Rattle.stand_world.specs.Script.{each_of, id_named}
use Rattle.stand_world.proofs.declaring.ids_named.Given as goal

abbrev pub invariant-loop-name : goal.invariant-loop-name
invariant-loop-name l = each_of (id_named l.commits) l.names ≡ option_map (λ more. l.ids ++ more) (each_of (id_named l.commits) (drop l.name-index l.names))
