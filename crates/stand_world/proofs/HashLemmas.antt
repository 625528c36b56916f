-- The search for a number with these digits.
use Rattle.std.proofs.Common.{◌≡◌, ℕ, suc, ◌+◌, ◌-◌, ◌<◌, ◌≤◌, List, true, false, Some, None, if◌then◌else◌, sym, ◌∙◌, arith}
use Rattle.std.specs.Prelude.{decimal, bytes_eq}
use Rattle.stand_world.specs.Names.{number_among}

-- the first number has them, or a later one
pub one_less : (all count first : ℕ) (digits : List ℕ) → all ≡ suc count
    → number_among all first digits ≡ (if bytes_eq (decimal first) digits then Some first else number_among count (first + 1) digits)
unfolding number_among
one_less all count first digits same = rw same

pub next_number : (count i : ℕ) (digits : List ℕ) → i < count
    → number_among (count - i) i digits ≡ (if bytes_eq (decimal i) digits then Some i else number_among (count - (i + 1)) (i + 1) digits)
next_number count i digits below = one_less (count - i) (count - (i + 1)) i digits (omega arith)

pub found_here : (all i : ℕ) (digits : List ℕ) → number_among all 0 digits ≡ number_among (all - i) i digits → i < all → true ≡ bytes_eq (decimal i) digits
    → Some i ≡ number_among all 0 digits
found_here all i digits so_far below here = sym (so_far ∙ next_number all i digits below ∙ rw (← here))

pub not_here : (all i : ℕ) (digits : List ℕ) → number_among all 0 digits ≡ number_among (all - i) i digits → i < all → false ≡ bytes_eq (decimal i) digits
    → number_among all 0 digits ≡ number_among (all - (i + 1)) (i + 1) digits
not_here all i digits so_far below there = so_far ∙ next_number all i digits below ∙ rw (← there)

none_of_none : (count i : ℕ) (digits : List ℕ) → count ≡ 0 → number_among count i digits ≡ None
unfolding number_among
none_of_none count i digits same = rw same

pub none_left : (all i : ℕ) (digits : List ℕ) → number_among all 0 digits ≡ number_among (all - i) i digits → all ≤ i → None ≡ number_among all 0 digits
none_left all i digits so_far above = sym (so_far ∙ none_of_none (all - i) i digits (omega arith))
