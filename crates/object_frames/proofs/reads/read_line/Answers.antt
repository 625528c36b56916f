use Rattle.std.proofs.Common.{◌<◌, ◌++◌, ◌∷◌, [], inl, inr, take, length, ap, ◌∙◌, arith}
use Rattle.std.proofs.lemmas.List.{take_more_set, length-take-le}
use Rattle.object_frames.proofs.reads.read_line.Goals as goal

pub returns-in_default-clause-piece : goal.returns-in_default-clause-piece
returns-in_default-clause-piece g c = λ tells.
    let end = rw c.in_default.is at (c.in_ok-byte.ensures.byte (c.bytes.invariant.told ∙ tells)) in
    inr (c.bytes.invariant.still_open, inl end.1)

pub returns-then-byte-eq10-clause-piece : goal.returns-then-byte-eq10-clause-piece
returns-then-byte-eq10-clause-piece g c = λ tells.
    let at = c.bytes.at in
    let line = c.bytes.line in
    let byte = c.in-Some.byte in
    let fits : at < length line = omega (arith, c.bytes.invariant.long, c.requires) in
    inl (take at line, c.bytes.invariant.still_open, take_more_set line at byte fits ∙ ap (λ b. take at line ++ b ∷ []) c.if-byte-eq10.true)

pub returns-clause-piece : goal.returns-clause-piece
returns-clause-piece g c = λ tells.
    let size = length-take-le c.bytes.at c.bytes.line (omega (arith, c.bytes.invariant.within, c.bytes.invariant.long, c.requires)) in
    inr (c.bytes.invariant.still_open, inr (omega (arith, size, c.bytes-test.false)))
