use Rattle.stand_world.proofs.LineLemmas.{not_two}
use Rattle.stand_world.proofs.line.two_parts.Goals as goal

pub returns-in-Some : goal.returns-in-Some
returns-in-Some c = not_two c.args.end c.args.text.now c.in_ok-first.first.now c.in_ok-first.second.now _ _ c.in_ok-first.ensures.parts c.in-Some.ensures.parts
