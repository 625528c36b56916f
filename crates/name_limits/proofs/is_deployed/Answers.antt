use Rattle.std.proofs.Common.{codes}
use Rattle.std.proofs.lemmas.Str.Pattern.{starts_text}
use Rattle.name_limits.proofs.is_deployed.Goals as goal

pub returns : goal.returns
returns c = starts_text c.starts_with.result (codes "deployed/") c.args.key.now c.starts_with.ensures.cases
