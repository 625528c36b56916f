use Rattle.std.proofs.Common.{sym, subst}
use Rattle.auth_cache.specs.Entries.{AreEntries}
use Rattle.auth_cache.proofs.EntryLemmas.{AreEntries-none}
use Rattle.auth_cache.proofs.entries.Entries.new.Goals as goal

pub invariant_of-result : goal.invariant_of-result
invariant_of-result c = subst AreEntries (sym c.new.ensures) AreEntries-none
