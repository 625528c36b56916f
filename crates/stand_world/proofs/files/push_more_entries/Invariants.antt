use Rattle.std.proofs.Common.{◌≡◌, ◌∷◌, ◌++◌, drop}
use Rattle.std.specs.List.{flat_map}
use Rattle.stand_world.specs.Objects.{entry_text}
use Rattle.stand_world.proofs.files.push_more_entries.Given as goal

abbrev pub invariant-loop-key : goal.invariant-loop-key
invariant-loop-key l = l.text ++ flat_map (λ other. 32 ∷ entry_text other) (drop l.key-index l.keys) ≡ l.fn.text ++ flat_map (λ other. 32 ∷ entry_text other) l.keys
