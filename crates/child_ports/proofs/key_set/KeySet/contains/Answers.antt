use Rattle.std.proofs.Common.{sym, ap, ◌∙◌}
use Rattle.std.specs.FinSet.{contains}
use Rattle.child_ports.specs.KeySet.{Keys}
use Rattle.child_ports.proofs.KeySetLemmas.{searched, contains_found, key_cmp_total}
use Rattle.child_ports.proofs.key_set.KeySet.contains.Goals as goal

pub returns : goal.returns
returns c =
    let found = searched key_cmp_total _ c.args.key _ c.as_slice.ensures.ascending c.binary_search.ensures.bound c.binary_search.ensures.position in
    c.is_ok.ensures.value
    ∙ contains_found key_cmp_total c.as_slice.result.now c.args.key _ found
    ∙ ap (λ (s : Keys). contains s c.args.key) (sym c.as_slice.ensures.keys)
