use Rattle.std.proofs.Common.{sym, ◌∙◌}
use Rattle.child_ports.specs.Sig.{verdict}
use Rattle.child_ports.proofs.PlaceLemmas.{from_place, no_place}
use Rattle.child_ports.proofs.RowLemmas.{not_asked}
use Rattle.child_ports.proofs.memory.sig.status_of.Goals as goal

pub returns-in-Some : goal.returns-in-Some
returns-in-Some c =
    let keyring = c.args.keyring.now in
    let signature = c.args.signature.now in
    let payload = c.args.payload.now in
    c.status_from.ensures
    ∙ from_place (λ row. row.payload) (λ rows. verdict rows keyring signature payload) c.args.rows.now c.args.places.now payload c.in-Some.start (λ row rest ne. not_asked row rest keyring signature payload ne) c.requires (sym c.get.ensures ∙ c.in-Some.is)

pub returns-in-None : goal.returns-in-None
returns-in-None c =
    let keyring = c.args.keyring.now in
    let signature = c.args.signature.now in
    let payload = c.args.payload.now in
    sym (no_place (λ row. row.payload) (λ rows. verdict rows keyring signature payload) c.args.rows.now c.args.places.now payload (λ row rest ne. not_asked row rest keyring signature payload ne) c.requires (sym c.get.ensures ∙ c.in-None.is))
