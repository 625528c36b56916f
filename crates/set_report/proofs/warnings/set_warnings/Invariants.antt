use Rattle.std.proofs.Common.{◌≡◌, take}
use Rattle.std.specs.List.{flat_map}
use Rattle.set_report.specs.Warnings.{member_warnings}
use Rattle.set_report.proofs.warnings.set_warnings.Given as goal

abbrev pub invariant-loop-member : goal.invariant-loop-member
invariant-loop-member l = l.text ≡ flat_map member_warnings (take l.member-index l.verdict.members)
