use Rattle.std.proofs.Common.{ℕ, List, ◌∷◌, [], ◌++◌, sym, ap, ◌∙◌, codes, ⊎_elim, inl, inr, length, ◌+◌}
use Rattle.std.proofs.lemmas.List.{append_assoc, append_cancel_right}
use Rattle.object_frames.specs.Frame.{header_line}
use Rattle.object_frames.proofs.HeadLemmas.{odd_is_head, no_header_line}
use Rattle.object_frames.proofs.head.head_of.Goals as goal

pub returns-in_default : goal.returns-in_default
returns-in_default c =
    let none = c.in_default.ensures in
    let name = c.args.name.now in
    odd_is_head name c.args.line.now (no_header_line name c.args.line.now
    (λ e. none (name ++ codes " missing") (e ∙ sym (append_assoc name (codes " missing") (10 ∷ []))))
    (λ e. none (name ++ codes " ambiguous") (e ∙ sym (append_assoc name (codes " ambiguous") (10 ∷ []))))
    (λ id kind size is small e. none (header_line id kind size) e)) c.odd_head.result c.odd_head.ensures

pub returns-then-is_missing : goal.returns-then-is_missing
returns-then-is_missing c =
    let name = c.args.name.now in
    ⊎_elim (λ e. inl (c.in-Some.ensures ∙ ap (λ l. l ++ 10 ∷ []) e ∙ append_assoc name (codes " missing") (10 ∷ [])))
    (λ e. inr (c.in-Some.ensures ∙ ap (λ l. l ++ 10 ∷ []) e ∙ append_assoc name (codes " ambiguous") (10 ∷ []))) c.if-is_missing.ensures

pub returns-in-Some-header_of : goal.returns-in-Some-header_of
returns-in-Some-header_of c =
    let name = c.args.name.now in
    let text = c.in-Some.text.now in
    let is = c.in-Some.ensures in
    let no = c.if-is_missing.ensures in
    let said = c.in-Some-header_of.ensures.some in (
      record { id = said.0; size = said.1; len = said.3 ∙ ap (λ (l : List ℕ). length l + 1) said.2; whole = is ∙ ap (λ l. l ++ 10 ∷ []) said.2 },
      λ e. no.0 (append_cancel_right text (name ++ codes " missing") (10 ∷ []) (sym is ∙ e ∙ sym (append_assoc name (codes " missing") (10 ∷ [])))),
      λ e. no.1 (append_cancel_right text (name ++ codes " ambiguous") (10 ∷ []) (sym is ∙ e ∙ sym (append_assoc name (codes " ambiguous") (10 ∷ [])))),
    )

pub returns-in-None : goal.returns-in-None
returns-in-None c =
    let name = c.args.name.now in
    let text = c.in-Some.text.now in
    let is = c.in-Some.ensures in
    let no = c.if-is_missing.ensures in
    let none = c.in-None.ensures.none in
    odd_is_head name c.args.line.now (no_header_line name c.args.line.now
    (λ e. no.0 (append_cancel_right text (name ++ codes " missing") (10 ∷ []) (sym is ∙ e ∙ sym (append_assoc name (codes " missing") (10 ∷ [])))))
    (λ e. no.1 (append_cancel_right text (name ++ codes " ambiguous") (10 ∷ []) (sym is ∙ e ∙ sym (append_assoc name (codes " ambiguous") (10 ∷ [])))))
    (λ id kind size id_is small e. none id kind size id_is small (append_cancel_right text (header_line id kind size) (10 ∷ []) (sym is ∙ e))))
    c.odd_head-in-None.result c.odd_head-in-None.ensures
