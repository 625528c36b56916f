use Rattle.commit_objects.proofs.HeadingLemmas.{parents_more}
use Rattle.commit_objects.proofs.heading.parent_lines.Goals as goal

pub parents-preserved : goal.parents-preserved
parents-preserved c =
    let line = c.in-Some.line in
    let found = c.in-Some.ensures.some in
    rw c.in_ok-push.ensures.ok (parents_more c.args.text.now c.parents.rest.now line.rest.now line.id c.parents.parents c.parents.invariant found.0 found.1)
