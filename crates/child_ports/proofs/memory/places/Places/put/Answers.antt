use Rattle.std.proofs.Common.{List, ℕ, ap, ◌∙◌, cond, bytes_eq, Some}
use Rattle.child_ports.specs.Places.{place_of}
use Rattle.child_ports.proofs.PlaceLemmas.{updated_bytes}
use Rattle.child_ports.proofs.memory.places.Places.put.Goals as goal

pub returns : goal.returns
returns c = λ other.
    updated_bytes (λ k. k.items) c.args.self.now.map c.insert.new.self (Some c.args.place) c.in_ok-key.key.items c.in_ok-insert.ensures.updates other
    ∙ ap (λ (b : List ℕ). cond (bytes_eq b other) (Some c.args.place) (place_of c.args.self.now other)) c.in_ok-key.ensures.items
