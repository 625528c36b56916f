-- How files in memory are kept.
use Rattle.child_ports.specs.declared.memory.room.MemRoom.TheInside.{Inside}
use Rattle.child_ports.specs.Keeper.{first_pairs}
use Rattle.child_ports.specs.MemRoom.{RoomState}

abbrev pub room_state : Inside → RoomState
room_state a = record { files = first_pairs a.files.items; script = a.script }
