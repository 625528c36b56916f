use Rattle.std.proofs.Common.{◌≡◌, inl, inr, ℕ, List, [], ◌++◌, sym, ap, ◌∙◌, refl}
use Rattle.std.proofs.lemmas.Bool.{false≢true}
use Rattle.child_ports.specs.Git.{missing, ambiguous}
use Rattle.child_ports.specs.Framed.{IsFramed, IsObjectFrame}
use Rattle.child_ports.proofs.rows.is_framed.Goals as goal
use Rattle.child_ports.proofs.rows.is_framed.Goals.{then-stops_at_line, else-stops_at_line}

from_parts : (name answer : List ℕ) → ((rest : List ℕ) → answer ≡ missing name ++ rest → rest ≡ []) → ((rest : List ℕ) → answer ≡ ambiguous name ++ rest → rest ≡ [])
    → ((front rest : List ℕ) → answer ≡ front ++ rest → IsObjectFrame front → rest ≡ []) → IsFramed name answer
from_parts name answer one two three front rest split (inl is) = one rest (split ∙ ap (λ l. l ++ rest) is)
from_parts name answer one two three front rest split (inr (inl is)) = two rest (split ∙ ap (λ l. l ++ rest) is)
from_parts name answer one two three front rest split (inr (inr o)) = three front rest split o

pub returns-then-stops_at_line-2 : goal.returns-then-stops_at_line-2
returns-then-stops_at_line-2 c =
    elim c.if-stops_at_line.branch [
      | then-stops_at_line w ↦ (
        λ t. from_parts c.args.name.now c.args.answer.now (c.stops_at_line.ensures.0 w.if-stops_at_line.true) (w.stops_at_line-then-stops_at_line.ensures.0 (sym w.value-is ∙ c.if-stops_at_line-2.true)) (c.stops_at_object.ensures.0 t),
        λ framed. c.stops_at_object.ensures.1 (λ front rest split o. framed front rest split (inr (inr o))),
      )
      | else-stops_at_line w ↦ absurd (false≢true (sym w.if-stops_at_line.false ∙ sym w.value-is ∙ c.if-stops_at_line-2.true))
    ]

pub returns-else-stops_at_line-2 : goal.returns-else-stops_at_line-2
returns-else-stops_at_line-2 c = (
  λ t. absurd (false≢true (sym c.if-stops_at_line-2.false ∙ t)),
  λ framed. elim c.if-stops_at_line.branch [
    | then-stops_at_line w ↦ w.value-is ∙ w.stops_at_line-then-stops_at_line.ensures.1 (λ rest split. framed (ambiguous c.args.name.now) rest split (inr (inl refl)))
    | else-stops_at_line w ↦ absurd (false≢true (sym w.if-stops_at_line.false ∙ c.stops_at_line.ensures.1 (λ rest split. framed (missing c.args.name.now) rest split (inl refl))))
  ],
)
