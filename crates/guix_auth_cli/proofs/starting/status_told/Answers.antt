use Rattle.std.proofs.Common.{List, ℕ, true, false, sym, ◌∙◌}
use Rattle.run_answers.specs.Shown.{IsPut}
use Rattle.guix_auth_cli.proofs.StartingLemmas.{told_of}
use Rattle.guix_auth_cli.proofs.starting.status_told.Goals as goal

pub returns-in-Err-clause-line : goal.returns-in-Err-clause-line
returns-in-Err-clause-line g c = λ tells.
    told_of (λ (line : List ℕ). IsPut (g.E.Sink.taken c.args.err.now) (g.E.Sink.taken c.tell.new.err) line (g.E.Sink.faults c.args.err.now) (g.E.Sink.faults c.tell.new.err))
    c.args.ran c.in-Err.e true c.in-Err.is (rw c.in-Err.is at (sym c.is_want_of_memory.ensures ∙ c.if-is_want_of_memory.true)) (c.tell.ensures.put tells)

pub returns-in-Err-2-clause-line : goal.returns-in-Err-2-clause-line
returns-in-Err-2-clause-line g c = λ tells.
    told_of (λ (line : List ℕ). IsPut (g.E.Sink.taken c.args.err.now) (g.E.Sink.taken c.tell-in-Err-2.new.err) line (g.E.Sink.faults c.args.err.now) (g.E.Sink.faults c.tell-in-Err-2.new.err))
    c.args.ran c.in-Err.e false c.in-Err.is (rw c.in-Err.is at (sym c.is_want_of_memory.ensures ∙ c.if-is_want_of_memory.false)) (c.tell-in-Err-2.ensures.put tells)
