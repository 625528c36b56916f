use Rattle.real_ports.proofs.child_git.ChildGit.try_read.Goals as goal

pub returns-in-Ok-clause-header : goal.returns-in-Ok-clause-header
returns-in-Ok-clause-header g c = rw (← c.in-Some.ensures.value) c.in-Ok.ensures.header
