use Rattle.auth_words.proofs.MatchLemmas.{more_texts, more_utf8}
use Rattle.auth_words.proofs.texts.texts_of.Goals as goal

pub loop-word-preserved : goal.loop-word-preserved
loop-word-preserved c = (
  more_texts c.loop-word.texts.items c.push.new.self.items c.as_str.result c.args.words.now c.loop-word.word-index _ c.in_ok-push.ensures.items c.loop-word.invariant.0
      c.loop-word-test.true c.word-item.is c.as_str.ensures,
  more_utf8 c.loop-word.texts.items c.push.new.self.items c.as_str.result c.in_ok-push.ensures.items c.loop-word.invariant.1 c.as_str.utf8,
)
