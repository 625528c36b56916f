use Rattle.std.proofs.Common.{◌≡◌, min, take, length, arith, ap, ◌∙◌}
use Rattle.std.specs.List.{prefix_len}
use Rattle.std.proofs.lemmas.List.{take_min}
use Rattle.object_frames.specs.Fronts.{is_digit}
use Rattle.object_frames.proofs.fronts.digits_front.Goals as goal

pub returns-clause-value : goal.returns-clause-value
returns-clause-value c =
    let same : c.min.result ≡ min c.args.most (length c.args.text.now) = omega (arith, c.min.ensures) in
    c.digits_len.ensures.value ∙ ap (λ n. prefix_len is_digit (take n c.args.text.now)) same ∙ ap (prefix_len is_digit) (take_min c.args.most c.args.text.now)
