use Rattle.std.proofs.Common.{◌+◌, ℕ, drop, length, arith, sym, ap, ◌∙◌}
use Rattle.std.proofs.lemmas.List.{take_rest}
use Rattle.object_frames.specs.Fronts.{common, size_front, word_front}
use Rattle.object_frames.proofs.FrontLemmas.{go_on_inside, go_on_past}
use Rattle.object_frames.proofs.fronts.word_front.Goals as goal

pub returns-then-n-word-clause-value : goal.returns-then-n-word-clause-value
unfolding word_front
returns-then-n-word-clause-value c =
    let text = c.args.text.now in
    let word = c.args.word.now in
    c.common-n.ensures.value ∙ sym (go_on_inside (common text word) (length word) (size_front (drop (common text word) text)) (omega arith))

pub returns-clause-value : goal.returns-clause-value
unfolding word_front
returns-clause-value c =
    let text = c.args.text.now in
    let word = c.args.word.now in
    let n = c.common-n.result in
    let rest = c.size_front.ensures.value ∙ ap size_front (take_rest text n) in
    ap (λ (r : ℕ). n + r) rest ∙ ap (λ (m : ℕ). m + size_front (drop m text)) c.common-n.ensures.value
    ∙ sym (go_on_past (common text word) (length word) (size_front (drop (common text word) text)) (omega arith))
