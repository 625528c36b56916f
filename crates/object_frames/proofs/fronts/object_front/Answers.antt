use Rattle.std.proofs.Common.{◌≡◌, ◌+◌, ℕ, min, take, drop, length, arith, length-take, sym, ap, ◌∙◌}
use Rattle.std.specs.List.{prefix_len}
use Rattle.std.proofs.lemmas.List.{take_rest, take_min}
use Rattle.std.proofs.lemmas.List.Sums.{prefix_len-le-length}
use Rattle.child_ports.specs.Framed.{is_lower_hex_digit}
use Rattle.object_frames.specs.Fronts.{kind_front, object_front}
use Rattle.object_frames.proofs.FrontLemmas.{go_on_inside, go_on_past}
use Rattle.object_frames.proofs.fronts.object_front.Goals as goal

pub returns-then-n-lt40-clause-value : goal.returns-then-n-lt40-clause-value
unfolding object_front
returns-then-n-lt40-clause-value c =
    let text = c.args.text.now in
    let same : c.min.result ≡ min 40 (length text) = omega (arith, c.min.ensures) in
    let digits = c.hex_len-n.ensures.value ∙ ap (λ n. prefix_len is_lower_hex_digit (take n text)) same ∙ ap (prefix_len is_lower_hex_digit) (take_min 40 text) in
    digits ∙ sym (go_on_inside (prefix_len is_lower_hex_digit (take 40 text)) 40 (kind_front (drop 40 text)) (omega (arith, digits)))

pub returns-clause-value : goal.returns-clause-value
unfolding object_front
returns-clause-value c =
    let text = c.args.text.now in
    let same : c.min.result ≡ min 40 (length text) = omega (arith, c.min.ensures) in
    let digits = c.hex_len-n.ensures.value ∙ ap (λ n. prefix_len is_lower_hex_digit (take n text)) same ∙ ap (prefix_len is_lower_hex_digit) (take_min 40 text) in
    let rest = c.kind_front.ensures.value ∙ ap kind_front (take_rest text 40) in
    let past = go_on_past (prefix_len is_lower_hex_digit (take 40 text)) 40 (kind_front (drop 40 text)) (omega (arith, digits)) in
    let full : 40 ≡ prefix_len is_lower_hex_digit (take 40 text) =
    omega (arith, digits, prefix_len-le-length is_lower_hex_digit (take 40 text), length-take 40 text) in
    ap (λ (r : ℕ). 40 + r) rest ∙ ap (λ (n : ℕ). n + kind_front (drop 40 text)) full ∙ sym past
