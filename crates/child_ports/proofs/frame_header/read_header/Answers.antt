use Rattle.std.proofs.Common.{List, ℕ, sym, ◌∙◌, decimal, subst, ◌≡◌, ◌⊎◌, length}
use Rattle.std.specs.List.{AllPass}
use Rattle.std.proofs.lemmas.Bool.{false≢true}
use Rattle.child_ports.specs.Framed.{IsTypeWord, is_lower_hex_digit}
use Rattle.child_ports.proofs.HeaderLemmas.{no_cut, first_cut, second_cut, third_cut, header_parts}
use Rattle.child_ports.proofs.frame_header.read_header.Goals as goal

pub returns-in_err-digits : goal.returns-in_err-digits
returns-in_err-digits c = rw c.from_residual.ensures (λ digits word size rest is whole. no_cut 32 c.args.bytes.now digits _ c.in_err-digits.ensures.cut (whole ∙ header_parts digits word size rest))

pub returns-then-not-is_id : goal.returns-then-not-is_id
returns-then-not-is_id c = λ digits word size rest is whole.
    let one = first_cut c.args.bytes.now c.in_ok-digits.digits.now c.in_ok-digits.rest.now digits word size rest c.in_ok-digits.ensures.cut.0 c.in_ok-digits.ensures.cut.1 is whole in
    let digits_of : ((length c.in_ok-digits.digits.now ≡ 40) ⊎ (length c.in_ok-digits.digits.now ≡ 64)) × AllPass is_lower_hex_digit c.in_ok-digits.digits.now =
    subst (λ (d : List ℕ). ((length d ≡ 40) ⊎ (length d ≡ 64)) × AllPass is_lower_hex_digit d) (sym one.0) (is.count, is.hex) in
    false≢true (c.if-not-is_id.ensures.1 digits_of)

pub returns-in_err-word : goal.returns-in_err-word
returns-in_err-word c = rw c.from_residual-in_err-word.ensures (λ digits word size rest is whole.
    let one = first_cut c.args.bytes.now c.in_ok-digits.digits.now c.in_ok-digits.rest.now digits word size rest c.in_ok-digits.ensures.cut.0 c.in_ok-digits.ensures.cut.1 is whole in
    no_cut 32 c.in_ok-digits.rest.now word _ c.in_err-word.ensures.cut one.1)

pub returns-then-not-is_type_word : goal.returns-then-not-is_type_word
returns-then-not-is_type_word c = λ digits word size rest is whole.
    let one = first_cut c.args.bytes.now c.in_ok-digits.digits.now c.in_ok-digits.rest.now digits word size rest c.in_ok-digits.ensures.cut.0 c.in_ok-digits.ensures.cut.1 is whole in
    let two = second_cut c.in_ok-digits.rest.now c.in_ok-word.word.now c.in_ok-word.rest.now digits word size rest c.in_ok-word.ensures.cut.0 c.in_ok-word.ensures.cut.1 is one.1 in
    false≢true (c.if-not-is_type_word.ensures.1 (subst IsTypeWord (sym two.0) is.kind))

pub returns-in_err-number : goal.returns-in_err-number
returns-in_err-number c = rw c.from_residual-in_err-number.ensures (λ digits word size rest is whole.
    let one = first_cut c.args.bytes.now c.in_ok-digits.digits.now c.in_ok-digits.rest.now digits word size rest c.in_ok-digits.ensures.cut.0 c.in_ok-digits.ensures.cut.1 is whole in
    let two = second_cut c.in_ok-digits.rest.now c.in_ok-word.word.now c.in_ok-word.rest.now digits word size rest c.in_ok-word.ensures.cut.0 c.in_ok-word.ensures.cut.1 is one.1 in
    no_cut 10 c.in_ok-word.rest.now (decimal size) _ c.in_err-number.ensures.cut two.1)

pub returns-in_err-size : goal.returns-in_err-size
returns-in_err-size c = rw c.from_residual-in_err-size.ensures (λ digits word size rest is whole.
    let one = first_cut c.args.bytes.now c.in_ok-digits.digits.now c.in_ok-digits.rest.now digits word size rest c.in_ok-digits.ensures.cut.0 c.in_ok-digits.ensures.cut.1 is whole in
    let two = second_cut c.in_ok-digits.rest.now c.in_ok-word.word.now c.in_ok-word.rest.now digits word size rest c.in_ok-word.ensures.cut.0 c.in_ok-word.ensures.cut.1 is one.1 in
    let three = third_cut c.in_ok-word.rest.now c.in_ok-number.number.now c.in_ok-number.rest.now digits word size rest c.in_ok-number.ensures.cut.0 c.in_ok-number.ensures.cut.1 is two.1 in
    c.in_err-size.ensures.none size is.small three.0)
