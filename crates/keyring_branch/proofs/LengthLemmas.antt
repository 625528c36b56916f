-- Lengths of packets: a length is read from its own bytes, whatever follows.
use Rattle.std.proofs.Common.{◌≡◌, ℕ, ◌%◌, ◌≤◌, ◌==◌, Bool, true, false, cond, nat_lt, Option, Some, None, List, [], ◌∷◌, ◌++◌, length, take, drop, refl, sym, ap, ◌∙◌, arith}
use Rattle.std.proofs.lemmas.Bool.{ltb-false, le-ltb}
use Rattle.std.proofs.lemmas.List.{take-append-drop, take-append-le, drop-append-le, length-take-le, length-append, take_all}
use Rattle.std.proofs.Math.ListN.{drop_of_length-le}
use Rattle.keyring_branch.specs.Packets.{number, number_at, two_bytes, new_length, old_length, length_of}

-- what is read at the front is read from some of the bytes, and from these whatever follows them
pub record IsLocal (read : List ℕ → Option (ℕ × List ℕ)) : Type 0 where
  pub split : (bytes : List ℕ) (n : ℕ) (rest : List ℕ) → read bytes ≡ Some (n, rest) → (size : List ℕ) × (bytes ≡ size ++ rest) × (read size ≡ Some (n, []))
  pub more : (size : List ℕ) (n : ℕ) (rest : List ℕ) → read size ≡ Some (n, []) → read (size ++ rest) ≡ Some (n, rest)

pair : {a b : ℕ} {x y : List ℕ} → ◌≡◌ {A = Option (ℕ × List ℕ)} (Some (a, x)) (Some (b, y)) → (a ≡ b) × (x ≡ y)
pair {a = a} {b = b} {x = x} {y = y} e =
    let same : ◌≡◌ {A = ℕ × List ℕ} (a, x) (b, y) = cc in
    (ap (λ (p : ℕ × List ℕ). p.0) same, ap (λ (p : ℕ × List ℕ). p.1) same)

made : {a b : ℕ} {x y : List ℕ} → a ≡ b → x ≡ y → ◌≡◌ {A = Option (ℕ × List ℕ)} (Some (a, x)) (Some (b, y))
made {a = a} {b = b} {x = x} {y = y} p q = ap (λ (n : ℕ). Some (n, x)) p ∙ ap (λ (l : List ℕ). Some (b, l)) q

never : IsLocal (λ _. None)
never = record { split = λ bytes n rest e. cc; more = λ size n rest e. cc }

either : (p q : List ℕ → Option (ℕ × List ℕ)) (t : Bool) → IsLocal p → IsLocal q → IsLocal (λ bytes. cond t (p bytes) (q bytes))
either p q true hp hq = hp
either p q false hp hq = hq

number_read : (count : ℕ) (bytes : List ℕ) (n : ℕ) (rest : List ℕ) → number_at count bytes ≡ Some (n, rest) → (count ≤ length bytes) × (number (take count bytes) ≡ n) × (drop count bytes ≡ rest)
number_read count bytes n rest e = elim (nat_lt (length bytes) count) as (λ t. nat_lt (length bytes) count ≡ t → ◌≡◌ {A = Option (ℕ × List ℕ)} (cond t None (Some (number (take count bytes), drop count bytes))) (Some (n, rest)) → (count ≤ length bytes) × (number (take count bytes) ≡ n) × (drop count bytes ≡ rest)) [
  | true ↦ λ is h. cc
  | false ↦ λ is h. let p = pair h in (ltb-false (length bytes) count is, p.0, p.1)
] refl e

number_is : (count : ℕ) (bytes : List ℕ) (n : ℕ) (rest : List ℕ) → count ≤ length bytes → number (take count bytes) ≡ n → drop count bytes ≡ rest → number_at count bytes ≡ Some (n, rest)
number_is count bytes n rest enough is behind = ap (λ t. cond t None (Some (number (take count bytes), drop count bytes))) (le-ltb (length bytes) count enough) ∙ made is behind

counted : (count : ℕ) → IsLocal (number_at count)
counted count = record {
  split = λ bytes n rest e.
      let r = number_read count bytes n rest e in
      let size : length (take count bytes) ≡ count = length-take-le count bytes r.0 in (
        take count bytes,
        sym (take-append-drop count bytes) ∙ ap (λ l. take count bytes ++ l) r.2,
        number_is count (take count bytes) n [] (omega (arith, size)) (ap number (take_all count (take count bytes) (omega (arith, size))) ∙ r.1) (drop_of_length-le (take count bytes) (omega (arith, size))),
      );
  more = λ size n rest e.
      let r = number_read count size n [] e in
      number_is count (size ++ rest) n rest (omega (arith, length_more size rest, r.0)) (ap number (take-append-le count size rest r.0) ∙ r.1) (drop-append-le count size rest r.0 ∙ ap (λ l. l ++ rest) r.2);
}
  where
    length_more : (xs ys : List ℕ) → length xs ≤ length (xs ++ ys)
    length_more xs ys = omega (arith, length-append xs ys)

two : (first : ℕ) → IsLocal (two_bytes first)
two first = record { split = split; more = more }
  where
    split : (bytes : List ℕ) (n : ℕ) (rest : List ℕ) → two_bytes first bytes ≡ Some (n, rest) → (size : List ℕ) × (bytes ≡ size ++ rest) × (two_bytes first size ≡ Some (n, []))
    split [] n rest e = cc
    split (second ∷ bytes) n rest e = let p = pair e in (second ∷ [], ap (λ l. second ∷ l) p.1, made p.0 refl)

    more : (size : List ℕ) (n : ℕ) (rest : List ℕ) → two_bytes first size ≡ Some (n, []) → two_bytes first (size ++ rest) ≡ Some (n, rest)
    more [] n rest e = cc
    more (second ∷ size) n rest e = let p = pair e in made p.0 (ap (λ l. l ++ rest) p.1)

at_once : (n : ℕ) → IsLocal (λ bytes. Some (n, bytes))
at_once n = record {
  split = λ bytes m rest e. let p = pair e in ([], p.1, made p.0 refl);
  more = λ size m rest e. let p = pair e in made p.0 (ap (λ l. l ++ rest) p.1);
}

after_first : (first : ℕ) → IsLocal (λ bytes. new_length (first ∷ bytes))
after_first first =
    either (λ bytes. Some (first, bytes)) (λ bytes. cond (nat_lt first 224) (two_bytes first bytes) (cond (first == 255) (number_at 4 bytes) None)) (nat_lt first 192) (at_once first)
    (either (two_bytes first) (λ bytes. cond (first == 255) (number_at 4 bytes) None) (nat_lt first 224) (two first)
    (either (number_at 4) (λ _. None) (first == 255) (counted 4) never))

new_form : IsLocal new_length
new_form = record { split = split; more = more }
  where
    split : (bytes : List ℕ) (n : ℕ) (rest : List ℕ) → new_length bytes ≡ Some (n, rest) → (size : List ℕ) × (bytes ≡ size ++ rest) × (new_length size ≡ Some (n, []))
    split [] n rest e = cc
    split (first ∷ bytes) n rest e = let s = (after_first first).split bytes n rest e in (first ∷ s.0, ap (λ l. first ∷ l) s.1, s.2)

    more : (size : List ℕ) (n : ℕ) (rest : List ℕ) → new_length size ≡ Some (n, []) → new_length (size ++ rest) ≡ Some (n, rest)
    more [] n rest e = cc
    more (first ∷ size) n rest e = (after_first first).more size n rest e

old_form : (kind : ℕ) → IsLocal (old_length kind)
old_form kind =
    either (number_at 1) (λ bytes. cond (kind == 1) (number_at 2 bytes) (cond (kind == 2) (number_at 4 bytes) None)) (kind == 0) (counted 1)
    (either (number_at 2) (λ bytes. cond (kind == 2) (number_at 4 bytes) None) (kind == 1) (counted 2)
    (either (number_at 4) (λ _. None) (kind == 2) (counted 4) never))

pub length_local : (first : ℕ) → IsLocal (length_of first)
unfolding length_of
length_local first = either (old_length (first % 4)) new_length (nat_lt first 192) (old_form (first % 4)) new_form
