use Rattle.std.proofs.lemmas.Result.{err_from_is_err_and}
use Rattle.channel_deps.proofs.MemberLemmas.{adds_stopped, added_more}
use Rattle.channel_deps.proofs.walking.add_mentions.Goals as goal

pub returns-in_err-add_mention : goal.returns-in_err-add_mention
returns-in_err-add_mention c =
    let p = err_from_is_err_and c.from_residual.result c.from_residual.ensures.1 in
    rw (p.1, p.2) (adds_stopped c.args.list.now c.args.mentions.now c.loop-channel.list c.add_mention.new.list c.loop-channel.channel-index c.channel-item.result c.in_err-add_mention.field-0.0
    c.loop-channel-test.true c.channel-item.is c.loop-channel.invariant.added c.in_err-add_mention.ensures)

pub loop-channel-preserved : goal.loop-channel-preserved
loop-channel-preserved c = record {
  added = added_more c.args.list.now c.args.mentions.now c.loop-channel.channel-index c.channel-item.result c.loop-channel.list c.add_mention.new.list
      c.loop-channel-test.true c.channel-item.is c.loop-channel.invariant.added c.in_ok-add_mention.ensures.0;
  few = c.in_ok-add_mention.ensures.1;
}
