-- A keeper in memory, as contracts see it.
use Rattle.std.specs.Prelude.{ℕ, List, refl}
use Rattle.std.specs.FinMap as map
use Rattle.std.specs.Coded.{Coded, code_by, coded×, coded_ℕ, coded_list}
use Rattle.child_ports.specs.declared.memory.script.Script.{Script}
use Rattle.child_ports.specs.Keeper.{Kept}

-- the values by their keys, its calls, and how often `store` was called
pub record KeeperState : Type 0 where
  pub kept : Kept
  pub script : Script
  pub stores : ℕ

-- a state is stored as its parts
abbrev pub keeper_code : Coded KeeperState
keeper_code = code_by (Kept × (List ℕ × (ℕ × (ℕ × ℕ)))) (coded× (map.code (coded_list coded_ℕ) (coded_list coded_ℕ)) (coded× (coded_list coded_ℕ) (coded× coded_ℕ (coded× coded_ℕ coded_ℕ))))
    (λ s. (s.kept, (s.script.fails, (s.script.calls, (s.script.faults, s.stores))))) (λ p. record { kept = p.0; script = record { fails = p.1.0; calls = p.1.1.0; faults = p.1.1.1.0 }; stores = p.1.1.1.1 }) (λ _. refl)
