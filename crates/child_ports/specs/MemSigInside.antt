-- How gpgv in memory keeps its state.
use Rattle.child_ports.specs.declared.memory.sig.MemSig.TheInside.{Inside}
use Rattle.child_ports.specs.MemSig.{SigState}
use Rattle.child_ports.specs.Places.{ArePlaced}

abbrev pub sig_state : Inside → SigState
sig_state a = record { rows = a.rows; script = a.script; loaded = a.loaded; asked = a.asked }

-- the rows are found by their payloads
abbrev pub IsFound : Inside → Type 0
IsFound a = ArePlaced (λ row. row.payload) a.rows a.places 0
