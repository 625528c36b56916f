-- Digits of fingerprints: which are kept of a text, and how they are written.
use Rattle.std.proofs.Common.{Some, ◌≡◌, ◌≢◌, ℕ, ◌+◌, ◌/◌, ◌%◌, ◌<◌, true, false, cond, not, List, [], ◌∷◌, ◌++◌, take, drop, get_or, map, length, refl, sym, ap, ◌∙◌, append-nil, length-append, arith}
use Rattle.std.specs.Prelude.{slice_index}
use Rattle.std.specs.Char.{to_ascii_uppercase}
use Rattle.std.proofs.lemmas.List.{take-append-drop}
use Rattle.std.proofs.lemmas.List.Elements.{filter_more, filter-append}
use Rattle.std.proofs.Math.ListN.{get_or-map}
use Rattle.hex.proofs.HexLemmas.{length-encode_with, decode_sized-twice, decode_of-encode_upper}
use Rattle.hex.specs.Hex.{IsBytes, encode_lower, encode_upper, encode_with, lower_digits, upper_digits}
use Rattle.child_ports.specs.declared.fingerprint.Fingerprint.{Fingerprint}
use Rattle.child_ports.specs.Fingerprint.{fingerprint_from, fingerprint_of, is_blank, squeezed}

-- ---- one byte more

pub blank_adds_none : (text front : List ℕ) (i : ℕ) → i < length text → front ≡ squeezed (take i text) → is_blank (get_or text i 0) ≡ true → front ≡ squeezed (take (i + 1) text)
blank_adds_none text front i lt is blank =
    let more = filter_more (λ c. not (is_blank c)) text i 0 lt in
    is ∙ sym (append-nil (squeezed (take i text))) ∙ sym (more ∙ ap (λ b. squeezed (take i text) ++ cond (not b) (get_or text i 0 ∷ []) []) blank)

pub digit_adds_one : (text front : List ℕ) (i : ℕ) → i < length text → front ≡ squeezed (take i text) → is_blank (get_or text i 0) ≡ false → front ++ get_or text i 0 ∷ [] ≡ squeezed (take (i + 1) text)
digit_adds_one text front i lt is blank =
    let more = filter_more (λ c. not (is_blank c)) text i 0 lt in
    ap (λ l. l ++ get_or text i 0 ∷ []) is ∙ sym (more ∙ ap (λ b. squeezed (take i text) ++ cond (not b) (get_or text i 0 ∷ []) []) blank)

pub too_many : (text front : List ℕ) (i : ℕ) → i < length text → front ≡ squeezed (take i text) → is_blank (get_or text i 0) ≡ false → length front ≡ 40 → length (squeezed text) ≢ 40
too_many text front i lt is blank full =
    let one = ap length (digit_adds_one text front i lt is blank) in
    let parts = ap length (ap squeezed (sym (take-append-drop (i + 1) text)) ∙ filter-append (λ c. not (is_blank c)) (take (i + 1) text) (drop (i + 1) text)) in
    λ e. absurd (omega (arith, one, parts, length-append front (get_or text i 0 ∷ []), length-append (squeezed (take (i + 1) text)) (squeezed (drop (i + 1) text))))

-- ---- upper case

-- a digit is raised, and so is the 0 that stands past the digits
raised_digit : (k : ℕ) → to_ascii_uppercase (slice_index lower_digits k) ≡ slice_index upper_digits k
raised_digit k = sym (get_or-map to_ascii_uppercase lower_digits k 0)

pub raised : (xs : List ℕ) → map to_ascii_uppercase (encode_lower xs) ≡ encode_upper xs
unfolding encode_with
raised [] = refl
raised (x ∷ xs) = rw (raised_digit (x / 16), raised_digit (x % 16), raised xs) refl

-- what is written is read
pub fingerprint_of-encode_upper : (key : Fingerprint) → length key.0 ≡ 20 → IsBytes key.0 → fingerprint_of (encode_upper key.0) ≡ Some key
fingerprint_of-encode_upper key count bytes =
    let size = length-encode_with upper_digits key.0 in
    ap fingerprint_from (decode_sized-twice (encode_upper key.0) 20 (omega (arith, size)) ∙ decode_of-encode_upper key.0 bytes)
