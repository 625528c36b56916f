-- How a keeper in memory keeps its state.
use Rattle.child_ports.specs.declared.memory.keeper.MemKeeper.TheInside.{Inside}
use Rattle.child_ports.specs.Keeper.{first_pairs}
use Rattle.child_ports.specs.MemKeeper.{KeeperState}

abbrev pub keeper_state : Inside → KeeperState
keeper_state a = record { kept = first_pairs a.pairs.items; script = a.script; stores = a.stores }
