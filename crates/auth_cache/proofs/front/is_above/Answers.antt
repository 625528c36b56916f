use Rattle.std.proofs.Common.{ap, ◌∙◌}
use Rattle.std.specs.Ordering.{is_lt}
use Rattle.auth_cache.specs.Reading.{above}
use Rattle.auth_cache.proofs.front.is_above.Goals as goal

pub returns-in-Some : goal.returns-in-Some
returns-in-Some c = c.is_lt.ensures ∙ ap is_lt c.cmp.ensures ∙ ap (λ o. above o c.args.key) c.in-Some.ensures.value
