use Rattle.std.proofs.Common.{◌≡◌, ◌*◌, ◌^◌, ◌<◌, take}
use Rattle.tree_entries.specs.Tree.{octal_value}
use Rattle.tree_entries.proofs.mode.octal_value.Given as goal

abbrev pub invariant-loop-digit : goal.invariant-loop-digit
invariant-loop-digit l = record { value : l.number ≡ octal_value (take l.digit-index l.digits); below : l.number < 2 ^ (3 * l.digit-index) }
