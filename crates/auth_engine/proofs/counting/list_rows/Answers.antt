use Rattle.std.proofs.Common.{rules, tests}
use Rattle.std.proofs.lemmas.Iterator.{items_from_collect, YieldsList-from_map}
use Rattle.std.proofs.lemmas.Iterator.Consumers.{YieldsList-at, YieldsList-from_rest}
use Rattle.auth_engine.specs.Counting.{signer_of}
use Rattle.auth_engine.proofs.counting.list_rows.Goals as goal

pub returns : goal.returns
returns c =
    items_from_collect c.collect.result c.collect.ensures.ran
    (YieldsList-from_map _ signer_of (YieldsList-at c.map.ensures.source (YieldsList-from_rest c.args.rows.now.keys c.iter.ensures.rest)) c.map.ensures.closure (λ x r q k. search (rules, tests)))
