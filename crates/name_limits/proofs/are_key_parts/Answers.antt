use Rattle.std.proofs.Common.{arith, rules, tests}
use Rattle.std.proofs.lemmas.Iterator.Search.{all_from_yields_List}
use Rattle.std.proofs.lemmas.Iterator.Splits.{YieldsList-from_str_split}
use Rattle.name_limits.specs.Limits.{is_key_part}
use Rattle.name_limits.proofs.are_key_parts.Goals as goal

pub returns : goal.returns
returns c =
    all_from_yields_List is_key_part _ _ _ c.all.ensures.ran
    (YieldsList-from_str_split 47 c.args.key.now (omega arith) c.split.ensures.text c.split.ensures.has_more c.split.ensures.pattern)
    (λ x b q k. search (rules, tests))
