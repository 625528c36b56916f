-- Texts that grow.
use Rattle.std.proofs.Common.{◌≡◌, ℕ, List, ◌++◌, Result, Ok, Err, ◌∙◌, ap, append_assoc}
use Rattle.std.specs.Prelude.{OnOk}

-- a text that got two parts, one after the other
pub two_parts : {T E : Type 0} (result : Result T E) (old next new first second : List ℕ)
    → next ≡ old ++ first → OnOk result (new ≡ next ++ second) → OnOk result (new ≡ old ++ (first ++ second))
two_parts (Ok x) old next new first second before after = after ∙ ap (λ text. text ++ second) before ∙ append_assoc old first second
two_parts (Err e) old next new first second before after = tt
