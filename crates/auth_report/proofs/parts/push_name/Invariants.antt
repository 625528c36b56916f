use Rattle.std.proofs.Common.{◌≡◌, ◌++◌, map, take}
use Rattle.auth_report.specs.Parts.{shown_byte}
use Rattle.auth_report.proofs.parts.push_name.Given as goal

abbrev pub invariant-loop-byte : goal.invariant-loop-byte
invariant-loop-byte l = l.text ≡ l.fn.text ++ map shown_byte (take l.byte-index l.name)
