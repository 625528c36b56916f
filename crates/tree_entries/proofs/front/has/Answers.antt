use Rattle.std.proofs.Common.{◌∙◌}
use Rattle.tree_entries.proofs.CutLemmas.{cut_tells}
use Rattle.tree_entries.proofs.front.has.Goals as goal

pub returns : goal.returns
returns c = c.is_some.ensures ∙ cut_tells c.args.byte c.args.bytes.now c.cut_at.result c.cut_at.ensures.cut
