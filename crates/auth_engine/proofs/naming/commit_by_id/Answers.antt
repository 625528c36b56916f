use Rattle.std.proofs.Common.{◌≡◌, List, ℕ, subst}
use Rattle.std.specs.Prelude.{IfOk, IsTrue}
use Rattle.auth_engine.specs.Reading.{commit_named}
use Rattle.auth_engine.proofs.naming.commit_by_id.Goals as goal

pub returns-clause-named : goal.returns-clause-named
returns-clause-named g c = c.name_commit.ensures.by_id c.write_hex.ensures.full

pub returns-clause-found : goal.returns-clause-found
returns-clause-found g c =
    subst (λ (name : List ℕ). IfOk c.name_commit.result (λ found. IsTrue (g.G.GitPort.tells c.args.git.now) → found ≡ commit_named (g.G.GitPort.table c.args.git.now) c.args.dir.now name)) c.write_hex.ensures.digits c.name_commit.ensures.found
