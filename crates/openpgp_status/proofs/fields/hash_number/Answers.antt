use Rattle.std.proofs.Common.{◌∙◌, ◌&&◌, get_or, sym, ap, arith}
use Rattle.std.specs.Char.{is_ascii_digit}
use Rattle.std.proofs.lemmas.Int.Digits.{digits_value_more}
use Rattle.std.proofs.lemmas.List.Folds.{list_all_more}
use Rattle.std.proofs.lemmas.Str.{digit_value_digit}
use Rattle.openpgp_status.proofs.fields.hash_number.Goals as goal

pub loop-digit-preserved : goal.loop-digit-preserved
loop-digit-preserved c =
    let digits = c.args.digits.now in
    let i = c.loop-digit.digit-index in
    let digit = get_or digits i 0 in
    let range = c.if-not-is_ascii_digit.ensures.cases in
    let more = digits_value_more 10 digits i (omega arith) in
    let value = digit_value_digit digit range in
    record {
      value = omega (arith, more, value, c.loop-digit.invariant.value, c.from.ensures);
      digits = list_all_more is_ascii_digit digits i 0 (omega arith) ∙ ap (λ b. b && is_ascii_digit digit) c.loop-digit.invariant.digits ∙ sym c.if-not-is_ascii_digit.ensures.value;
      none = λ h. absurd (omega arith);
      one = λ h. omega (arith, range, c.loop-digit.invariant.none);
      two = λ h. omega (arith, range, c.loop-digit.invariant.one);
      small = omega (arith, range, c.loop-digit.invariant.two);
    }
