use Rattle.std.proofs.Common.{◌≡◌, ◌++◌, ◌∷◌, [], take, ap, ◌∙◌, subst, List, ℕ, codes, append_assoc}
use Rattle.std.proofs.lemmas.List.{take_rest}
use Rattle.commit_objects.proofs.SignatureLemmas.{WritesLines, writes_more, writes_all}
use Rattle.commit_objects.specs.Form.{sha1_form}
use Rattle.commit_objects.proofs.FurtherLemmas.{sha1_words}
use Rattle.commit_objects.proofs.SignedAgain.{is_signed, read_again}
use Rattle.commit_objects.proofs.writing.write_commit.Goals as goal

pub lines-preserved : goal.lines-preserved
lines-preserved c =
    let line = c.in-Some.line.now in
    let written = c.lines.content.items in
    writes_more c.args.signature.now c.lines.rest.now _ written _ line c.in-Some.next.now c.lines.invariant c.in-Some.ensures.cut.1 c.in-Some.ensures.cut.0
    (c.in_ok-push-2.ensures.items ∙ ap (λ l. l ++ 10 ∷ []) (c.in_ok-extend_from_slice-2.ensures.items ∙ ap (λ l. l ++ line) c.in_ok-push.ensures.items)
    ∙ append_assoc (written ++ 32 ∷ []) line (10 ∷ []) ∙ append_assoc written (32 ∷ []) (line ++ 10 ∷ []))

pub returns : goal.returns
returns c =
    let rest = c.lines.rest.now in
    let over : rest ≡ [] = writes_all c.args.signature.now rest _ c.lines.content.items c.lines.invariant c.in_default.ensures.cut in
    let end = c.empty_line-end.result in
    let payload = c.args.payload.now in
    let signed = is_signed payload c.args.signature.now c.lines.content.items c.from_vec.result end c.empty_line-end.ensures.place
    (subst (λ (r : List ℕ). WritesLines c.args.signature.now r (take end payload ++ codes "gpgsig") c.lines.content.items) over c.lines.invariant)
    (c.from_vec.ensures ∙ c.in_ok-extend_from_slice-3.ensures.items ∙ ap (λ l. c.lines.content.items ++ l) (take_rest payload end)) c.requires.lines.0 c.requires.lines.1 c.requires.unsigned in
    record { last = signed; read_back = read_again sha1_form sha1_words payload c.args.signature.now c.from_vec.result signed c.requires.unsigned }
