use Rattle.std.proofs.Common.{◌≡◌, ◌≤◌, ℕ, List, [], ◌∷◌, ◌+◌, length, get_or, sym, ap, ◌∙◌, refl, arith, length-append, true, not, eqb}
use Rattle.std.proofs.lemmas.Bool.{false≢true, eq-eqb, ne_eqb, le-leb}
use Rattle.std.proofs.Math.Seq.{get_or-append_seam}
use Rattle.child_ports.proofs.HeaderLemmas.{behind, goes_on}
use Rattle.child_ports.proofs.rows.stops_at_object.Goals as goal

empty : (xs : List ℕ) → length xs ≤ 0 → xs ≡ []
empty [] h = refl
empty (x ∷ xs) h = absurd (omega arith)

no_end : (b : ℕ) → (b ≡ 10 → ⊥) → not (eqb b 10) ≡ true
no_end b ne = ap not (ne_eqb b 10 ne)

pub returns-then-header-size : goal.returns-then-header-size
returns-then-header-size c = (
  λ _ front rest split o.
      let is = behind c.args.answer.now front rest _ _ c.in-Some.header.size c.in-Some.header.rest.now c.in-Some.ensures.0 c.in-Some.ensures.1 split o in
      empty rest (omega (arith, is.0, ap length is.1, length-append o.content (10 ∷ rest), c.if-header-size.true)),
  λ _. le-leb (length c.in-Some.header.rest.now) (c.in-Some.header.size + 1) c.if-header-size.true,
)

pub returns-else-header-size : goal.returns-else-header-size
returns-else-header-size c =
    let h = c.in-Some.header in (
      λ t front rest split o.
          let is = behind c.args.answer.now front rest _ _ h.size h.rest.now c.in-Some.ensures.0 c.in-Some.ensures.1 split o in
          let end : get_or h.rest.now h.size 0 ≡ 10 = ap (λ (n : ℕ). get_or h.rest.now n 0) is.0 ∙ ap (λ l. get_or l (length o.content) 0) is.1 ∙ get_or-append_seam o.content 10 rest 0 in
          absurd (false≢true (ap not (sym (eq-eqb (get_or h.rest.now h.size 0) 10 end)) ∙ t)),
      λ stops. no_end (get_or h.rest.now h.size 0) (λ end. goes_on c.args.answer.now _ _ h.size h.rest.now c.in-Some.ensures.0 c.in-Some.ensures.1 c.if-header-size.false end stops),
    )
