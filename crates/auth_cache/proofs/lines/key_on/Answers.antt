use Rattle.std.proofs.Common.{sym, ap, ◌∙◌, bytes_eq}
use Rattle.std.proofs.lemmas.Slice.Eq.{bytes_eq-Decides}
use Rattle.auth_cache.specs.Reading.{upper_key}
use Rattle.auth_cache.proofs.WordLemmas.{key_answer, key_other, key_none, nothing_behind}
use Rattle.auth_cache.proofs.lines.key_on.Goals as goal

pub returns-in_err-digits : goal.returns-in_err-digits
returns-in_err-digits c = c.from_residual.ensures ∙ sym (nothing_behind upper_key c.args.word.now c.args.line.now c.in_err-digits.ensures)

pub returns-in_err-key : goal.returns-in_err-key
returns-in_err-key c = c.from_residual-in_err-key.ensures ∙ sym (key_none c.args.word.now c.args.line.now c.in_ok-digits.digits.now c.in_ok-digits.ensures (sym c.in_err-key.ensures.exact))

pub returns-then-eq : goal.returns-then-eq
returns-then-eq c =
    let digits = c.in_ok-digits.digits.now in
    let written = sym c.write_hex.ensures.digits ∙ sym c.as_slice.ensures ∙ (bytes_eq-Decides c.as_slice.result.now digits).0 (sym c.eq.ensures ∙ c.if-eq.true) in
    sym (key_answer c.args.word.now c.args.line.now digits c.in_ok-key.key c.in_ok-digits.ensures (sym c.in_ok-key.ensures.exact) written)

pub returns-else-eq : goal.returns-else-eq
returns-else-eq c =
    let digits = c.in_ok-digits.digits.now in
    let written = ap (λ w. bytes_eq w digits) (sym c.write_hex.ensures.digits ∙ sym c.as_slice.ensures) ∙ sym c.eq.ensures ∙ c.if-eq.false in
    sym (key_other c.args.word.now c.args.line.now digits c.in_ok-key.key c.in_ok-digits.ensures (sym c.in_ok-key.ensures.exact) written)
