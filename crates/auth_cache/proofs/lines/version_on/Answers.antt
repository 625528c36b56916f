use Rattle.std.proofs.Common.{sym, ◌∙◌, codes, arith}
use Rattle.std.proofs.lemmas.Fmt.{decimal_injective}
use Rattle.auth_cache.specs.Reading.{number_of}
use Rattle.auth_cache.proofs.WordLemmas.{version_answer, version_none, nothing_behind}
use Rattle.auth_cache.proofs.lines.version_on.Goals as goal

pub returns-in_err-digits : goal.returns-in_err-digits
returns-in_err-digits c = c.from_residual.ensures ∙ sym (nothing_behind number_of (codes "guix-auth-cache ") c.args.line.now c.in_err-digits.ensures)

pub returns-in_err-number : goal.returns-in_err-number
returns-in_err-number c = c.from_residual-in_err-number.ensures ∙ sym (version_none c.args.line.now c.in_ok-digits.digits.now c.in_ok-digits.ensures (λ n lt. c.in_err-number.ensures.none n (omega arith)))

pub returns-then-number-gt4294967295 : goal.returns-then-number-gt4294967295
returns-then-number-gt4294967295 c = sym (version_none c.args.line.now c.in_ok-digits.digits.now c.in_ok-digits.ensures (λ n lt e.
    let same = decimal_injective c.in_ok-number.number n (omega (arith, c.in_ok-number.ensures.some.1)) (omega arith) (sym c.in_ok-number.ensures.some.0 ∙ e) in
    omega (arith, same)))

pub returns : goal.returns
returns c = sym (version_answer c.args.line.now c.in_ok-digits.digits.now c.in_ok-number.number c.in_ok-digits.ensures c.in_ok-number.ensures.some.0 (omega arith))
