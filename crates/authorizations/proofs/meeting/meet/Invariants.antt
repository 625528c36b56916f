use Rattle.std.proofs.Common.{◌≡◌, take}
use Rattle.std.specs.FinSet.{from_list, intersection}
use Rattle.authorizations.proofs.meeting.meet.Given as goal

abbrev pub invariant-loop-key : goal.invariant-loop-key
invariant-loop-key l = l.keys ≡ intersection (from_list (take l.key-index l.key-items)) l.b
