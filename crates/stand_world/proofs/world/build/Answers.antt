use Rattle.stand_world.proofs.FitLemmas.{rows_fit}
use Rattle.stand_world.proofs.SoundLemmas.{declared_sound, commits_written}
use Rattle.stand_world.proofs.world.build.Goals as goal

pub invariant_of-result : goal.invariant_of-result
invariant_of-result c = rows_fit c.push.new.self c.in_ok-declared.declared (declared_sound c.args.script.now c.in_ok-declared.declared c.in_ok-declared.ensures)

pub returns-clause-written : goal.returns-clause-written
returns-clause-written c = commits_written c.in_ok-declared.declared.commits (declared_sound c.args.script.now c.in_ok-declared.declared c.in_ok-declared.ensures).commits
