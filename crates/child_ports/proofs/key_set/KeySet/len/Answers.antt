use Rattle.std.proofs.Common.{sym, ap, ◌∙◌}
use Rattle.std.specs.FinSet.{len}
use Rattle.child_ports.specs.KeySet.{Keys}
use Rattle.child_ports.proofs.KeySetLemmas.{key_cmp_total, len-from_list}
use Rattle.child_ports.proofs.key_set.KeySet.len.Goals as goal

pub returns : goal.returns
returns c =
    sym (len-from_list key_cmp_total _ c.as_slice.ensures.ascending)
    ∙ ap (λ (s : Keys). len s) (sym c.as_slice.ensures.keys)
