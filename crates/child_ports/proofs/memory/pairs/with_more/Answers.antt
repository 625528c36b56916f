use Rattle.std.proofs.Common.{◌++◌, ap, ◌∙◌}
use Rattle.std.specs.Prelude.{reverse}
use Rattle.child_ports.specs.Keeper.{first_pairs}
use Rattle.child_ports.proofs.PairLemmas.{last_counts}
use Rattle.child_ports.proofs.memory.pairs.with_more.Goals as goal

pub returns : goal.returns
returns c = ap first_pairs (c.in_ok-append.ensures.items ∙ ap (λ l. l ++ c.in_ok-copies.field-0.items) c.in_ok-all.ensures ∙ ap (λ l. reverse c.args.new.now ++ l) c.in_ok-copies.ensures) ∙ last_counts c.args.new.now c.args.old.now
