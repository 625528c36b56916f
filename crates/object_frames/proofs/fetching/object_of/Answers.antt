use Rattle.std.proofs.Common.{sym, ap, ◌∙◌}
use Rattle.object_frames.specs.Object.{object_id}
use Rattle.object_frames.proofs.OutcomeLemmas.{object_wrong, object_right}
use Rattle.object_frames.proofs.fetching.object_of.Goals as goal

pub returns-then-ne : goal.returns-then-ne
returns-then-ne c =
    object_wrong c.args.header c.args.content c.id_of-computed.result (c.id_of-computed.ensures ∙ ap (object_id c.args.header.kind) c.as_slice.ensures) (sym c.ne.ensures ∙ c.if-ne.true)

pub returns : goal.returns
returns c =
    object_right c.args.header c.args.content c.id_of-computed.result (c.id_of-computed.ensures ∙ ap (object_id c.args.header.kind) c.as_slice.ensures) (sym c.ne.ensures ∙ c.if-ne.false)
