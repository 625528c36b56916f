-- Words as the code holds them.
use Rattle.std.specs.Prelude.{ℕ, Option, List, option_map}
use Rattle.std.specs.Borrow.{Bor}

abbrev pub Lent : Type 0
Lent = Bor (List ℕ)

abbrev pub seen_two : Option (Lent × Lent) → Option (List ℕ × List ℕ)
seen_two words = option_map (λ (w : Lent × Lent). (w.0.now, w.1.now)) words

abbrev pub seen_four : Option ((Lent × Lent) × (Lent × Lent)) → Option ((List ℕ × List ℕ) × (List ℕ × List ℕ))
seen_four words = option_map (λ (w : (Lent × Lent) × (Lent × Lent)). ((w.0.0.now, w.0.1.now), (w.1.0.now, w.1.1.now))) words
