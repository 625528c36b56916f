use Rattle.auth_cache.specs.Keys.{IsKey}
use Rattle.auth_cache.specs.Text.{historical_line}
use Rattle.auth_cache.proofs.WritingLemmas.{text_more, each_more}
use Rattle.auth_cache.proofs.writing.push_keys.Goals as goal

pub loop-key-preserved : goal.loop-key-preserved
loop-key-preserved c = record {
  text = text_more historical_line c.args.keys.now c.loop-key.key-index _ c.args.text.now c.loop-key.text c.push_key.new.text c.loop-key-test.true c.loop-key.invariant.text c.in_ok-push_key.ensures.text;
  each = each_more IsKey c.args.keys.now c.loop-key.key-index _ c.loop-key-test.true c.loop-key.invariant.each c.in_ok-push_key.ensures.key;
}
