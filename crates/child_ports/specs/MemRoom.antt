-- Files in memory, as contracts see them.
use Rattle.std.specs.Prelude.{ℕ, List, refl}
use Rattle.std.specs.FinMap as map
use Rattle.std.specs.Coded.{Coded, code_by, coded×, coded_ℕ, coded_list}
use Rattle.child_ports.specs.declared.memory.script.Script.{Script}
use Rattle.child_ports.specs.Keeper.{Kept}

-- the files' bytes by their paths, and the calls
pub record RoomState : Type 0 where
  pub files : Kept
  pub script : Script

-- a state is stored as its parts
abbrev pub room_code : Coded RoomState
room_code = code_by (Kept × (List ℕ × (ℕ × ℕ))) (coded× (map.code (coded_list coded_ℕ) (coded_list coded_ℕ)) (coded× (coded_list coded_ℕ) (coded× coded_ℕ coded_ℕ)))
    (λ s. (s.files, (s.script.fails, (s.script.calls, s.script.faults)))) (λ p. record { files = p.0; script = record { fails = p.1.0; calls = p.1.1.0; faults = p.1.1.1 } }) (λ _. refl)
