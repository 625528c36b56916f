-- Ids in hexadecimal digits.
use Rattle.std.proofs.Common.{◌≡◌, ◌≢◌, ℕ, suc, Bool, false, ◌/◌, ◌%◌, ◌<◌, true, List, [], ◌∷◌, length, refl, sym, ap, ◌∙◌, arith, eq-eqb}
use Rattle.std.specs.Prelude.{slice_index, if◌then◌else◌}
use Rattle.std.specs.List.{list_all}
use Rattle.std.proofs.lemmas.Bool.{false≢true}
use Rattle.std.proofs.lemmas.List.Sums.{AllPass-from_list_all}
use Rattle.child_ports.specs.Git.{NoLineEnd, IsName}
use Rattle.child_ports.specs.Named.{is_full_id}
use Rattle.child_ports.specs.Framed.{is_lower_hex_digit}
use Rattle.hex.proofs.HexLemmas.{length-encode_with}
use Rattle.hex.specs.Hex.{encode_lower, encode_with, lower_digits, IsBytes}
use Rattle.object_frames.specs.Id.{IsId}

pub length-hex : (id : List ℕ) → IsId id → length (encode_lower id) ≡ 40
length-hex id is = omega (arith, length-encode_with lower_digits id, is.count)

hex_glyph : (k : ℕ) → k < 16 → is_lower_hex_digit (slice_index lower_digits k) ≡ true
hex_glyph k lt = AllPass-from_list_all is_lower_hex_digit lower_digits refl k 0 lt

hex_no_end : (c : ℕ) → is_lower_hex_digit c ≡ true → c ≢ 10
hex_no_end c h e = false≢true (ap is_lower_hex_digit (sym e) ∙ h)

tail_bytes : (x : ℕ) (xs : List ℕ) → IsBytes (x ∷ xs) → IsBytes xs
tail_bytes x xs h = λ i. h (suc i)

pub hex_digits : (xs : List ℕ) → IsBytes xs → list_all is_lower_hex_digit (encode_lower xs) ≡ true
unfolding encode_with
hex_digits [] h = refl
hex_digits (x ∷ xs) h =
    let byte = h 0 in
    rw (hex_glyph (x / 16) (omega arith), hex_glyph (x % 16) (omega arith)) (hex_digits xs (tail_bytes x xs h))

pub no_end_hex : (xs : List ℕ) → IsBytes xs → NoLineEnd (encode_lower xs)
unfolding encode_with
no_end_hex [] h = tt
no_end_hex (x ∷ xs) h =
    let byte = h 0 in
    (hex_no_end _ (hex_glyph (x / 16) (omega arith)), (hex_no_end _ (hex_glyph (x % 16) (omega arith)), no_end_hex xs (tail_bytes x xs h)))

-- an id in hexadecimal can be asked
pub hex_name : (id : List ℕ) → IsId id → IsName (encode_lower id)
hex_name id is = record { short = omega (arith, length-hex id is); one_line = no_end_hex id is.bytes }

-- an id in hexadecimal is one in full
pub hex_full : (id : List ℕ) → IsId id → is_full_id (encode_lower id) ≡ true
unfolding is_full_id
hex_full id is =
    ap (λ (v : Bool). if v then list_all is_lower_hex_digit (encode_lower id) else false) (eq-eqb (length (encode_lower id)) 40 (length-hex id is)) ∙ hex_digits id is.bytes
