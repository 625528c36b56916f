-- A set of keys meets itself in itself.
use Rattle.std.proofs.Common.{◌≡◌, ◌&&◌, Bool, true, false, refl, ◌∙◌}
use Rattle.std.specs.FinSet.{contains, intersection, contains-intersection, same_set}
use Rattle.child_ports.specs.KeySet.{Keys}
use Rattle.child_ports.proofs.KeySetLemmas.{key_cmp_total, key_cmp-IsAntisymmetric}

and_itself : (b : Bool) → (b && b) ≡ b
and_itself true = refl
and_itself false = refl

pub meets_itself : (keys : Keys) → intersection keys keys ≡ keys
meets_itself keys = same_set key_cmp_total key_cmp-IsAntisymmetric _ _ (λ key. contains-intersection key_cmp_total keys keys key ∙ and_itself (contains keys key))
