-- The value of a mode's digits.
use Rattle.std.proofs.Common.{◌≡◌, ℕ, ◌+◌, ◌-◌, ◌*◌, ◌^◌, ◌≤◌, ◌<◌, true, List, take, length, get_or, ap, ◌∙◌, arith, pow-add, pow_mono, nat_le}
use Rattle.std.specs.List.{list_all}
use Rattle.std.proofs.lemmas.Bool.{and_parts, leb-true}
use Rattle.std.proofs.lemmas.List.Sums.{AllPass-from_list_all}
use Rattle.std.proofs.lemmas.Grind.{common_steps}
use Rattle.tree_entries.specs.Tree.{is_octal, octal_value}

-- a digit is one of eight
pub octal_at : (digits : List ℕ) (i : ℕ) → list_all is_octal digits ≡ true → i < length digits → (48 ≤ get_or digits i 0) × (get_or digits i 0 ≤ 55)
octal_at digits i h lt =
    let c = get_or digits i 0 in
    let parts = and_parts (nat_le 48 c) (nat_le c 55) (AllPass-from_list_all is_octal digits h i 0 lt) in
    (leb-true 48 c parts.0, leb-true c 55 parts.1)

-- so many digits are below so many bits
pub below_more : (i n c : ℕ) → n < 2 ^ (3 * i) → 48 ≤ c → c ≤ 55 → 8 * n + (c - 48) < 2 ^ (3 * (i + 1))
below_more i n c h lo hi =
    let place : 3 * (i + 1) ≡ 3 * i + 3 = omega arith in
    let more : 2 ^ (3 * (i + 1)) ≡ 2 ^ (3 * i) * 8 = ap (λ k. 2 ^ k) place ∙ pow-add 2 (3 * i) 3 in
    omega (arith, more, h)

pub below_six : (i n : ℕ) → i < 6 → n < 2 ^ (3 * i) → n < 32768
below_six i n lt h =
    let bits : 3 * i ≤ 15 = omega arith in
    let most : 2 ^ (3 * i) ≤ 2 ^ 15 = pow_mono {i = 3 * i} {j = 15} bits in
    omega (arith, most, h)

pub below_all : (i n : ℕ) → i ≤ 6 → n < 2 ^ (3 * i) → n < 262144
below_all i n le h =
    let bits : 3 * i ≤ 18 = omega arith in
    let most : 2 ^ (3 * i) ≤ 2 ^ 18 = pow_mono {i = 3 * i} {j = 18} bits in
    omega (arith, most, h)

pub value_more : (digits : List ℕ) (i n : ℕ) → i < length digits → n ≡ octal_value (take i digits) → 8 * n + (get_or digits i 0 - 48) ≡ octal_value (take (i + 1) digits)
value_more digits i n lt is = grind (arith, common_steps)
