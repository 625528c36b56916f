-- Numbers in decimal, of any size.
use Rattle.std.proofs.Common.{◌≡◌, ◌≢◌, ◌⊎◌, inl, inr, ℕ, zero, suc, ◌+◌, ◌-◌, ◌*◌, ◌/◌, ◌%◌, ◌^◌, ◌<◌, ◌≤◌, false, true, cond, ◌==◌, nat_lt, List, [], ◌∷◌, ◌++◌, length, refl, sym, ap, ◌∙◌, arith, decimal}
use Rattle.std.specs.Fmt.{digits, digits_onto, digit_glyph}
use Rattle.std.proofs.lemmas.Fmt.{decimal_by_steps_wide, length-decimal-le_wide}
use Rattle.std.proofs.lemmas.Bool.{ne_eqb}
use Rattle.byte_cuts.specs.Cuts.{Lacks}

glyph_no_end : (d : ℕ) → digit_glyph false d ≢ 10
glyph_no_end d = elim (nat_lt d 10) as (λ v. cond v (48 + d) (87 + d) ≢ 10) [
  | true ↦ λ e. absurd (omega arith)
  | false ↦ λ e. absurd (omega arith)
]

no_end_onto : (k n : ℕ) (acc : List ℕ) → Lacks 10 acc → Lacks 10 (digits_onto k 10 false n acc)
no_end_onto zero n acc h = h
no_end_onto (suc k) n acc h =
    elim (n / 10 == 0) as (λ v. Lacks 10 (cond v (digit_glyph false (n % 10) ∷ acc) (digits_onto k 10 false (n / 10) (digit_glyph false (n % 10) ∷ acc)))) [
      | true ↦ (glyph_no_end (n % 10), h)
      | false ↦ no_end_onto k (n / 10) (digit_glyph false (n % 10) ∷ acc) (glyph_no_end (n % 10), h)
    ]

-- no line feed in a number
pub no_end_decimal : (n : ℕ) → Lacks 10 (decimal n)
unfolding digits
no_end_decimal n = no_end_onto 64 n [] tt

-- ---- the number of digits

ten_pow : (k : ℕ) → 0 < 10 ^ k
ten_pow zero = omega arith
ten_pow (suc k) = let before = ten_pow k in omega arith

length_onto : (k n : ℕ) (acc : List ℕ) → 10 ^ k ≤ n → length (digits_onto k 10 false n acc) ≡ k + length acc
length_onto zero n acc h = omega arith
length_onto (suc k) n acc h =
    let some = ten_pow k in
    let left : 10 ^ k ≤ n / 10 = omega arith in
    let more : n / 10 ≢ 0 = λ e. absurd (omega arith) in
    let rest = length_onto k (n / 10) (digit_glyph false (n % 10) ∷ acc) left in
    ap (λ v. length (cond v (digit_glyph false (n % 10) ∷ acc) (digits_onto k 10 false (n / 10) (digit_glyph false (n % 10) ∷ acc)))) (ne_eqb (n / 10) 0 more) ∙ omega (arith, rest)

length_wide : (n : ℕ) → 10 ^ 64 ≤ n → length (decimal n) ≡ 64
unfolding digits
length_wide n h = length_onto 64 n [] h

-- ---- the value of digits

abbrev value_onto : ℕ → List ℕ → ℕ
value_onto n [] = n
value_onto n (c ∷ text) = value_onto (n * 10 + (c - 48)) text

value_last : (n : ℕ) (text : List ℕ) (c : ℕ) → value_onto n (text ++ c ∷ []) ≡ value_onto n text * 10 + (c - 48)
value_last n [] c = refl
value_last n (d ∷ text) c = value_last (n * 10 + (d - 48)) text c

value_of : (n : ℕ) → n < 10 ^ 64 → value_onto 0 (decimal n) ≡ n
value_of = decimal_by_steps_wide (λ n text. value_onto 0 text ≡ n)
    (λ n small. omega arith)
    (λ n text large before. value_last 0 text (48 + n % 10) ∙ omega (arith, before))

large_apart : (m n : ℕ) → m < 10 ^ 18 → 10 ^ 64 ≤ n → decimal n ≢ decimal m
large_apart m n small large e = absurd (omega (arith, length_wide n large, ap length e, length-decimal-le_wide 18 m (omega arith) small (omega arith)))

pub below_or_not : (n k : ℕ) → (n < k) ⊎ (k ≤ n)
below_or_not n zero = inr (omega arith)
below_or_not zero (suc k) = inl (omega arith)
below_or_not (suc n) (suc k) = elim (below_or_not n k) [
  | inl h ↦ inl (omega arith)
  | inr h ↦ inr (omega arith)
]

-- a number of eighteen digits at most is no other number's
pub same_small : (n m : ℕ) → m < 10 ^ 18 → decimal n ≡ decimal m → n ≡ m
same_small n m small e = elim (below_or_not n (10 ^ 64)) [
  | inl below ↦ sym (value_of n below) ∙ ap (value_onto 0) e ∙ value_of m (omega arith)
  | inr large ↦ absurd (large_apart m n small large e)
]
