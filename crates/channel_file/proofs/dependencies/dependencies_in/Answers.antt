use Rattle.std.proofs.Common.{◌∙◌}
use Rattle.std.proofs.lemmas.Result.{err_from_is_err_and}
use Rattle.channel_file.specs.Dependencies.{dependency}
use Rattle.channel_file.proofs.ListLemmas.{tree_at, within}
use Rattle.channel_file.proofs.ReadingLemmas.{each_more, each_fault}
use Rattle.channel_file.proofs.dependencies.dependencies_in.Goals as goal

pub returns-in_err-channel-clause-channels : goal.returns-in_err-channel-clause-channels
returns-in_err-channel-clause-channels c =
    let p = err_from_is_err_and c.from_residual.result c.from_residual.ensures.1 in
    let h = within _ _ c.loop-index-test.true in
    let here = tree_at _ _ c.index-elements-index.result c.loop-index-test.true c.index-elements-index.is in
    rw (p.1, p.2) (each_fault dependency _ c.loop-index.index _ c.in_err-channel.field-0.0 c.loop-index.channels h here c.loop-index.invariant c.in_err-channel.ensures.channel)

pub loop-index-preserved : goal.loop-index-preserved
loop-index-preserved c =
    let h = within _ _ c.loop-index-test.true in
    let here = tree_at _ _ c.index-elements-index.result c.loop-index-test.true c.index-elements-index.is in
    c.loop-index.invariant ∙ each_more dependency _ c.loop-index.index _ c.in_ok-channel.channel c.loop-index.channels h here c.in_ok-channel.ensures.channel c.push.new.self c.in_ok-push.ensures.ok
