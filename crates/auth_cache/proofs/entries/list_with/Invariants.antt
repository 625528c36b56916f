use Rattle.std.proofs.Common.{◌≡◌, take}
use Rattle.auth_cache.specs.Entries.{with_id}
use Rattle.auth_cache.proofs.entries.list_with.Given as goal

abbrev pub invariant-loop-other : goal.invariant-loop-other
invariant-loop-other l = l.ids ≡ with_id l.id (take l.other-index l.old)
