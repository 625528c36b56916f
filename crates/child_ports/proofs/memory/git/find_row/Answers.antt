use Rattle.std.proofs.Common.{sym, ◌∙◌}
use Rattle.child_ports.specs.Git.{answer}
use Rattle.child_ports.proofs.PlaceLemmas.{from_place, no_place}
use Rattle.child_ports.proofs.RowLemmas.{passed_over}
use Rattle.child_ports.proofs.memory.git.find_row.Goals as goal

pub returns-in_err-start : goal.returns-in_err-start
returns-in_err-start c =
    let dir = c.args.dir.now in
    let name = c.args.name.now in
    rw c.from_residual.ensures (no_place (λ row. row.name) (λ rows. answer rows dir name) c.args.rows.now c.args.places.now name (λ row rest ne. passed_over row rest dir name ne) c.requires (sym c.get.ensures ∙ c.in_err-start.was))

pub returns : goal.returns
returns c =
    let dir = c.args.dir.now in
    let name = c.args.name.now in
    let same = from_place (λ row. row.name) (λ rows. answer rows dir name) c.args.rows.now c.args.places.now name c.in_ok-start.start (λ row rest ne. passed_over row rest dir name ne) c.requires (sym c.get.ensures ∙ c.in_ok-start.was) in
    rw same at c.find_from.ensures
