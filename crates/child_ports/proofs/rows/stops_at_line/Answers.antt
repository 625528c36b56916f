use Rattle.std.proofs.Common.{◌++◌, sym, ◌∙◌, refl, append_assoc}
use Rattle.std.proofs.lemmas.List.{append_cancel_left}
use Rattle.child_ports.proofs.rows.stops_at_line.Goals as goal

pub returns-in_default-after : goal.returns-in_default-after
returns-in_default-after c = (
  λ _ rest whole. absurd (c.in_default-after.ensures rest (append_cancel_left c.args.name.now c.in-Some.rest.now (c.args.end.now ++ rest) (sym c.in-Some.ensures ∙ whole ∙ append_assoc c.args.name.now c.args.end.now rest))),
  λ _. refl,
)
