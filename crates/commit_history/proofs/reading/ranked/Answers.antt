use Rattle.commit_history.proofs.AnswerLemmas.{only_cycles}
use Rattle.commit_history.proofs.reading.ranked.Goals as goal

pub unranked-requires : goal.unranked-requires
unranked-requires c = record { whole = only_cycles c.args.graph.held c.in-Err.fail c.requires.whole c.in-Err.ensures.cause }
