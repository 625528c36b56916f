use Rattle.std.proofs.Common.{List, ℕ, subst}
use Rattle.child_ports.specs.Git.{answer}
use Rattle.object_frames.specs.Fetched.{fetched_of, Gives}
use Rattle.object_frames.proofs.OutcomeLemmas.{IsGiven, given_of_id}
use Rattle.object_frames.proofs.fetching.fetch_by_id.Goals as goal

pub returns-clause-exact : goal.returns-clause-exact
returns-clause-exact g c = λ tells.
    subst (λ (name : List ℕ). Gives c.fetch.result (fetched_of c.args.limit name (answer (g.G.GitPort.table c.args.git.now) c.args.dir.now name))) c.write_hex.ensures.digits (c.fetch.ensures.exact tells)

pub returns-clause-genuine : goal.returns-clause-genuine
returns-clause-genuine g c =
    given_of_id c.args.limit c.args.id.now c.write_hex.ensures.id c.fetch.result
    (subst (λ (name : List ℕ). IsGiven c.args.limit name c.fetch.result) c.write_hex.ensures.digits c.fetch.ensures.genuine)

pub returns-clause-named : goal.returns-clause-named
returns-clause-named g c = c.fetch.ensures.by_id c.write_hex.ensures.full
