use Rattle.real_ports.proofs.ConsumeLemmas.{keeps_same, keeps_on, consumes_on}
use Rattle.real_ports.proofs.asked_child.read_some.Goals as goal

pub loop-init : goal.loop-init
loop-init g c = record { kept = keeps_same (g.O.Read.remaining c.args.output.now) }

pub returns-in-Ok-clause-told : goal.returns-in-Ok-clause-told
returns-in-Ok-clause-told g c = consumes_on _ _ _ _ c.loop.invariant.kept c.in-Ok.ensures.bytes.0

pub loop-preserved : goal.loop-preserved
loop-preserved g c = record { kept = keeps_on _ _ _ c.loop.invariant.kept c.in-Err.ensures.bytes }
