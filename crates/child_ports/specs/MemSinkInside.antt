-- How a sink in memory keeps its state.
use Rattle.std.specs.Prelude.{◌≤◌, take, length}
use Rattle.child_ports.specs.declared.memory.sink.MemSink.TheInside.{Inside}
use Rattle.child_ports.specs.MemSink.{SinkState}

abbrev pub sink_state : Inside → SinkState
sink_state a = record { taken = take a.used a.bytes.items; room = length a.bytes.items; script = a.script }

abbrev pub IsWithin : Inside → Type 0
IsWithin a = a.used ≤ length a.bytes.items
