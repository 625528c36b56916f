use Rattle.std.proofs.Common.{sym, subst}
use Rattle.auth_cache.specs.Entries.{AreEntries}
use Rattle.auth_cache.proofs.EntryLemmas.{AreEntries-with_id}
use Rattle.auth_cache.proofs.entries.Entries.with.Goals as goal

pub of_list-requires : goal.of_list-requires
of_list-requires c =
    let old = subst AreEntries (sym c.as_slice.ensures.ids) c.as_slice.ensures.entries in
    subst AreEntries (sym c.in_ok-ids.ensures) (AreEntries-with_id c.args.id c.as_slice.result.now old.distinct)
