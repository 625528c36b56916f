-- What holds of every world.
use Rattle.std.specs.List.{AllByRecursion}
use Rattle.child_ports.specs.Framed.{RowFits}
use Rattle.stand_world.specs.World.{rows_of}
use Rattle.stand_world.specs.WorldState.{WorldState}
use Rattle.stand_world.specs.declared.world.World.TheInside.{Inside}

abbrev pub world_state : Inside → WorldState
world_state world = record { dir = world.dir; declared = world.declared }

-- its rows can stand for git's answers
abbrev pub IsFit : Inside → Type 0
IsFit world = AllByRecursion RowFits (rows_of world.dir world.declared)
