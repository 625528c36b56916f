use Rattle.std.proofs.Common.{◌≡◌, sym, ap, ◌∙◌, refl, None, is_some}
use Rattle.std.proofs.lemmas.Bool.{false≢true}
use Rattle.std.proofs.lemmas.Slice.Eq.{bytes_eq-Decides}
use Rattle.hex.specs.Hex.{encode_lower, decode_of}
use Rattle.hex.proofs.HexLemmas.{decode_sized-encode_lower, decode_of-encode_lower, decode_of-same, IsOk-decode_sized}
use Rattle.object_frames.proofs.id.Id.of_lower_hex.Goals as goal

pub returns-in_err-id-clause-none : goal.returns-in_err-id-clause-none
returns-in_err-id-clause-none c = rw c.from_residual.ensures (λ id is whole.
    let digits = (IsOk-decode_sized (encode_lower id) 20).0 (rw (decode_sized-encode_lower id 20 is.count is.bytes) refl) in
    let some = c.of_hex.ensures.digits.1 (rw whole digits) in
    let none : c.of_hex.result ≡ None = c.in_err-id.was in
    false≢true (sym (ap is_some none) ∙ some))

pub returns-else-eq-clause-none : goal.returns-else-eq-clause-none
returns-else-eq-clause-none c = λ id is whole.
    let same = decode_of-same c.args.text.now c.in_ok-id.id id c.in_ok-id.ensures.value (ap decode_of whole ∙ decode_of-encode_lower id is.bytes) in
    let written = c.as_slice.ensures ∙ c.write_hex.ensures.digits ∙ ap encode_lower same ∙ sym whole in
    let equal = (bytes_eq-Decides c.as_slice.result.now c.args.text.now).1 written in
    false≢true (sym c.if-eq.false ∙ c.eq.ensures ∙ equal)
