use Rattle.std.proofs.Common.{◌+◌, ℕ, drop, length, arith, sym, ap, ◌∙◌}
use Rattle.std.proofs.lemmas.List.{take_rest}
use Rattle.object_frames.specs.Fronts.{common}
use Rattle.object_frames.proofs.FrontLemmas.{common-append, go_on_inside, go_on_past}
use Rattle.object_frames.proofs.fronts.common_after.Goals as goal

pub returns-then-n-name-clause-value : goal.returns-then-n-name-clause-value
returns-then-n-name-clause-value c =
    c.common-n.ensures.value ∙ sym (go_on_inside (common c.args.text.now c.args.name.now) _ _ (omega arith)) ∙ sym (common-append c.args.text.now c.args.name.now c.args.word.now)

pub returns-clause-value : goal.returns-clause-value
returns-clause-value c =
    let text = c.args.text.now in
    let name = c.args.name.now in
    let word = c.args.word.now in
    let n = c.common-n.result in
    let rest = c.common.ensures.value ∙ ap (λ t. common t word) (take_rest text n) in
    ap (λ (r : ℕ). n + r) rest ∙ ap (λ (m : ℕ). m + common (drop m text) word) c.common-n.ensures.value
    ∙ sym (go_on_past (common text name) (length name) (common (drop (common text name) text) word) (omega arith)) ∙ sym (common-append text name word)
