use Rattle.std.proofs.Common.{ap, sym, ◌∙◌}
use Rattle.auth_cache.specs.Keys.{ascending}
use Rattle.auth_cache.specs.Reading.{keys_eq}
use Rattle.auth_cache.proofs.KeyLemmas.{ascending_from_list}
use Rattle.auth_cache.proofs.front.are_keys.Goals as goal

pub returns : goal.returns
returns c =
    let same = ap ascending c.as_slice.ensures.keys ∙ ascending_from_list c.as_slice.result.now c.as_slice.ensures.ascending in
    c.eq.ensures ∙ ap (λ ks. keys_eq c.args.keys.now ks) (sym same)
