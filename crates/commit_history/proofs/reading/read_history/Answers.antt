use Rattle.std.proofs.Common.{Err, [], subst}
use Rattle.auth_rules.specs.Consulting.{git_world}
use Rattle.commit_history.specs.Walk.{IsRead}
use Rattle.commit_history.specs.declared.fail.HistoryFail.TheVariants.{Object}
use Rattle.commit_history.proofs.AnswerLemmas.{object_answer, ranked_answer, any_verdicts, usable_answer}
use Rattle.commit_history.proofs.reading.read_history.Goals as goal

pub returns-in-Some-clause-answer : goal.returns-in-Some-clause-answer
returns-in-Some-clause-answer g c = λ tells sigs keyring.
    let rows = g.G.GitPort.table c.args.git.now in
    any_verdicts rows c.args.dir.now [] sigs [] keyring c.args.target c.args.intro (Err (Object c.in-Some.unread.id c.in-Some.unread.what))
    (object_answer (git_world rows c.args.dir.now) c.args.target c.args.intro c.in_ok-graph.field-0.graph.held c.in-Some.unread
    (subst (IsRead (git_world rows c.args.dir.now) c.args.target c.args.intro c.in_ok-graph.field-0.graph.held) c.in-Some.is (c.in_ok-graph.ensures.exact tells)))

pub returns-clause-answer : goal.returns-clause-answer
returns-clause-answer g c = λ tells sigs keyring.
    let rows = g.G.GitPort.table c.args.git.now in
    any_verdicts rows c.args.dir.now [] sigs [] keyring c.args.target c.args.intro c.ranked.result
    (ranked_answer (git_world rows c.args.dir.now) c.args.target c.args.intro c.in_ok-graph.field-0.graph.held
    (subst (IsRead (git_world rows c.args.dir.now) c.args.target c.args.intro c.in_ok-graph.field-0.graph.held) c.in_default.is (c.in_ok-graph.ensures.exact tells))
    c.in_ok-graph.ensures.whole c.ranked.result c.ranked.ensures)

pub returns-clause-usable : goal.returns-clause-usable
returns-clause-usable g c = usable_answer c.args.target c.args.intro c.in_ok-graph.field-0.graph.held c.ranked.result
    c.in_ok-graph.ensures.whole c.in_ok-graph.ensures.few c.in_ok-graph.ensures.both c.ranked.ensures
