-- The number that bytes write.
use Rattle.std.proofs.Common.{◌≡◌, ℕ, ◌+◌, ◌*◌, ◌^◌, ◌≤◌, ◌<◌, List, take, length, get_or, ap, ◌∙◌, arith, pow-add, pow_mono}
use Rattle.std.proofs.lemmas.Grind.{common_steps}
use Rattle.keyring_branch.specs.Packets.{number}

-- so many bytes are below so many bits
pub below_more : (i n b : ℕ) → n < 2 ^ (8 * i) → b < 256 → 256 * n + b < 2 ^ (8 * (i + 1))
below_more i n b h lt =
    let place : 8 * (i + 1) ≡ 8 * i + 8 = omega arith in
    let more : 2 ^ (8 * (i + 1)) ≡ 2 ^ (8 * i) * 256 = ap (λ k. 2 ^ k) place ∙ pow-add 2 (8 * i) 8 in
    omega (arith, more, h)

pub below_four : (i n : ℕ) → i < 4 → n < 2 ^ (8 * i) → n < 2 ^ 24
below_four i n lt h =
    let bits : 8 * i ≤ 24 = omega arith in
    let most : 2 ^ (8 * i) ≤ 2 ^ 24 = pow_mono {i = 8 * i} {j = 24} bits in
    omega (arith, most, h)

pub value_more : (bytes : List ℕ) (i n : ℕ) → i < length bytes → n ≡ number (take i bytes) → 256 * n + get_or bytes i 0 ≡ number (take (i + 1) bytes)
value_more bytes i n lt is = grind (arith, common_steps)
