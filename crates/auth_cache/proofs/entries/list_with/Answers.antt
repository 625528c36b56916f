use Rattle.std.proofs.Common.{ap, ◌∙◌, take}
use Rattle.auth_cache.specs.Entries.{with_id}
use Rattle.auth_cache.specs.EntriesInside.{with_other}
use Rattle.auth_cache.proofs.EntryLemmas.{with_other-more}
use Rattle.auth_cache.proofs.entries.list_with.Goals as goal

pub loop-other-preserved : goal.loop-other-preserved
loop-other-preserved c =
    c.in_ok-push_other.ensures
    ∙ ap (λ ids. with_other ids c.args.id c.other-item.result) c.loop-other.invariant
    ∙ ap (λ other. with_other (with_id c.args.id (take c.loop-other.other-index c.args.old.now)) c.args.id other) c.other-item.is
    ∙ with_other-more c.args.id c.args.old.now c.loop-other.other-index c.other-item.result c.loop-other-test.true
