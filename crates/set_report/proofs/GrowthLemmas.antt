-- Texts that grow.
use Rattle.std.proofs.Common.{◌≡◌, ℕ, List, ◌++◌, ◌∙◌, ap, append_assoc}

-- a text that got two parts, one after the other
pub grown : (old next new first second : List ℕ) → next ≡ old ++ first → new ≡ next ++ second → new ≡ old ++ (first ++ second)
grown old next new first second before after = after ∙ ap (λ text. text ++ second) before ∙ append_assoc old first second
