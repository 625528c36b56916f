use Rattle.std.proofs.Common.{ap, sym, ◌∙◌}
use Rattle.keyring_branch.specs.Lines.{trimmed}
use Rattle.keyring_branch.proofs.LineLemmas.{blank_off, nothing_off}
use Rattle.keyring_branch.proofs.lines.trimmed.Goals as goal

pub returns-then-not-is_blank : goal.returns-then-not-is_blank
returns-then-not-is_blank c =
    let is = c.in-Some.ensures.cases.0 in
    is ∙ sym (c.bytes.invariant ∙ ap trimmed is ∙ nothing_off c.in-Some.front.now c.in-Some.last.now (sym c.is_blank.ensures ∙ c.if-not-is_blank.true))

pub bytes-preserved : goal.bytes-preserved
bytes-preserved c =
    c.bytes.invariant ∙ ap trimmed c.in-Some.ensures.cases.0 ∙ blank_off c.in-Some.front.now c.in-Some.last.now (sym c.is_blank.ensures ∙ c.if-not-is_blank.false)
