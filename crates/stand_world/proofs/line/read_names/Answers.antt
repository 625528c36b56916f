use Rattle.std.proofs.Common.{◌≡◌, ◌∷◌, ◌++◌, [], true, false, Some, rules, sym, ap, ◌∙◌}
use Rattle.byte_cuts.specs.Cuts.{parts_at}
use Rattle.stand_world.specs.Names.{is_name}
use Rattle.stand_world.proofs.LineLemmas.{bad_name, good_names}
use Rattle.stand_world.proofs.line.read_names.Goals as goal

pub returns-then-not-is_name : goal.returns-then-not-is_name
returns-then-not-is_name c =
    let other : is_name c.in-Some.name.now ≡ false = search rules in
    bad_name c.args.text.now c.in-Some.name.now c.names.names (parts_at 44 c.in-Some.next.now)
    (ap (λ l. c.names.names ++ l) (sym c.in-Some.ensures.parts) ∙ c.names.invariant.cut) other

pub returns-then-not-is_name-2 : goal.returns-then-not-is_name-2
returns-then-not-is_name-2 c =
    let other : is_name c.names.rest.now ≡ false = search rules in
    bad_name c.args.text.now c.names.rest.now c.names.names [] (ap (λ l. c.names.names ++ l) (sym c.in_default.ensures.parts) ∙ c.names.invariant.cut) other

pub returns : goal.returns
returns c =
    let last : is_name c.names.rest.now ≡ true = search rules in
    ap (λ names. Some names) (c.in_ok-push-2.ensures.ok ∙ ap (λ name. c.names.names ++ name ∷ []) c.in_ok-from_slice-2.ensures)
    ∙ good_names c.args.text.now c.names.rest.now c.names.names (ap (λ l. c.names.names ++ l) (sym c.in_default.ensures.parts) ∙ c.names.invariant.cut) c.names.invariant.named last
