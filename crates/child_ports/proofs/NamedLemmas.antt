-- What one question does to the count of names.
use Rattle.std.proofs.Common.{◌≡◌, ℕ, Bool, true, false, List, sym, ap, ◌∙◌, subst, arith}
use Rattle.std.specs.Prelude.{if◌then◌else◌}
use Rattle.child_ports.specs.Causes.{one_more}
use Rattle.child_ports.specs.Named.{is_full_id, after_name, NamedAtMost}

-- one name at most was asked
pub named_once : (name : List ℕ) (before now : ℕ) → now ≡ after_name name before → NamedAtMost 1 before now
named_once name before now is =
    subst (NamedAtMost 1 before) (sym is) (elim (is_full_id name) as (λ (v : Bool). NamedAtMost 1 before (if v then before else one_more before)) [
      | true ↦ (omega arith, omega arith)
      | false ↦ (omega arith, omega arith)
    ])

-- an id in full isn't counted
pub id_unnamed : (name : List ℕ) (before now : ℕ) → is_full_id name ≡ true → now ≡ after_name name before → now ≡ before
id_unnamed name before now full is = is ∙ ap (λ (v : Bool). if v then before else one_more before) full
