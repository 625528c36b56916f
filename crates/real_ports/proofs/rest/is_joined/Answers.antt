use Rattle.std.proofs.lemmas.Bool.Decides.{Decides-eqb}
use Rattle.std.proofs.lemmas.Slice.Eq.{slice_eq-Decides}
use Rattle.real_ports.proofs.JoinLemmas.{joined_iff}
use Rattle.real_ports.proofs.rest.is_joined.Goals as goal

pub returns-in-Some : goal.returns-in-Some
returns-in-Some c =
    joined_iff c.args.front.now c.in-Some.rest.now c.args.end.now c.args.whole.now c.eq.result c.in-Some.ensures (slice_eq-Decides Decides-eqb _ _ _ c.eq.ensures)
