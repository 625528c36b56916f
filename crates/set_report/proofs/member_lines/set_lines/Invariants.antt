use Rattle.std.proofs.Common.{◌≡◌, take}
use Rattle.std.specs.List.{flat_map}
use Rattle.set_report.specs.MemberLines.{member_line}
use Rattle.set_report.proofs.member_lines.set_lines.Given as goal

abbrev pub invariant-loop-member : goal.invariant-loop-member
invariant-loop-member l = l.text ≡ flat_map member_line (take l.member-index l.verdict.members)
