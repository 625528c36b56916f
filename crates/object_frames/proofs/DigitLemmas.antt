-- The digits of ids and of sizes.
use Rattle.std.proofs.Common.{◌≡◌, ◌≢◌, ◌⊎◌, inl, inr, ℕ, zero, suc, ◌+◌, ◌-◌, ◌*◌, ◌/◌, ◌%◌, ◌^◌, ◌≤◌, ◌<◌, Bool, true, false, not, cond, nat_eq, nat_lt, nat_le, List, [], ◌∷◌, ◌++◌, take, length, refl, sym, ap, ◌∙◌, subst, arith, length-append, length-take, get_or, decimal, codes}
use Rattle.std.specs.Prelude.{◌&&◌, ◌||◌, ◌==◌, if◌then◌else◌, slice_index}
use Rattle.std.specs.List.{prefix_len, list_all, range_with_len}
use Rattle.std.specs.Str.Parse.{digits_value}
use Rattle.std.proofs.lemmas.Bool.{cases_lt, cases_eq, eqb-true, false≢true}
use Rattle.std.proofs.lemmas.Bool.Decides.{nat_tests}
use Rattle.std.proofs.lemmas.List.{append-nil, length-take-le, take-take, get_or-take, take_more}
use Rattle.std.proofs.lemmas.List.Prefix.{front_reads}
use Rattle.std.proofs.lemmas.List.FromFn.{get_or-range_with_len, length-range_with_len}
use Rattle.std.proofs.lemmas.List.Sums.{prefix_len-le-length, prefix_len_stops, AllPass-from_list_all}
use Rattle.std.proofs.lemmas.Str.Parse.{IsNumeralModel, numerals_by_value, IsDigitsTest, digits_value_short}
use Rattle.std.proofs.lemmas.Fmt.{digits_decimal, decimal-digits_value, decimal_nonempty, first_decimal, decimal_digit, length-decimal-le}
use Rattle.std.proofs.Math.Seq.{get_or-append_seam}
use Rattle.hex.specs.Hex.{encode_lower, encode_with, lower_digits, IsBytes}
use Rattle.child_ports.specs.Framed.{is_lower_hex_digit}
use Rattle.object_frames.specs.Frame.{Begins, IsLongest}
use Rattle.object_frames.specs.Fronts.{is_digit, size_digits, size_front, with_end}

pub and_left : (a b : Bool) → (a && b) ≡ true → a ≡ true
and_left true b h = refl
and_left false b h = absurd (false≢true h)

pub and_right : (a b : Bool) → (a && b) ≡ true → b ≡ true
and_right true b h = h
and_right false b h = absurd (false≢true h)

pub and_both : (a b : Bool) → a ≡ true → b ≡ true → (a && b) ≡ true
and_both a b p q = ap (λ v. v && b) p ∙ q

-- ---- digits of an id

-- so many of them
pub record IsHex (m : ℕ) (l : List ℕ) : Type 0 where
  pub count : length l ≡ m
  pub digits : list_all is_lower_hex_digit l ≡ true

zeros : (m : ℕ) → (r : List ℕ) × IsHex m r
zeros zero = ([], record { count = refl; digits = refl })
zeros (suc m) = let tail = zeros m in (48 ∷ tail.0, record { count = let c = tail.1.count in omega arith; digits = tail.1.digits })

hex_cons : (m x : ℕ) (l : List ℕ) → is_lower_hex_digit x ≡ true → IsHex m l → IsHex (suc m) (x ∷ l)
hex_cons m x l h is = record { count = let c = is.count in omega arith; digits = and_both (is_lower_hex_digit x) (list_all is_lower_hex_digit l) h is.digits }

pub prefix_yes : (p : ℕ → Bool) (x : ℕ) (xs : List ℕ) → p x ≡ true → prefix_len p (x ∷ xs) ≡ suc (prefix_len p xs)
prefix_yes p x xs e = let more : 1 + prefix_len p xs ≡ suc (prefix_len p xs) = omega arith in ap (λ v. cond v (1 + prefix_len p xs) 0) e ∙ more

prefix_no : (p : ℕ → Bool) (x : ℕ) (xs : List ℕ) → p x ≡ false → prefix_len p (x ∷ xs) ≡ 0
prefix_no p x xs e = ap (λ v. cond v (1 + prefix_len p xs) 0) e

abbrev hex_len : ℕ → List ℕ → ℕ
hex_len m b = prefix_len is_lower_hex_digit (take m b)

hex_begins : (m : ℕ) (b : List ℕ) → Begins (IsHex m) (take (hex_len m b) b)
hex_begins zero b = ([], record { count = refl; digits = refl })
hex_begins (suc m) [] = zeros (suc m)
hex_begins (suc m) (x ∷ b) =
    elim (is_lower_hex_digit x) as (λ v. v ≡ is_lower_hex_digit x → Begins (IsHex (suc m)) (take (hex_len (suc m) (x ∷ b)) (x ∷ b))) [
      | true ↦ λ e.
          let tail = hex_begins m b in
          subst (λ (n : ℕ). Begins (IsHex (suc m)) (take n (x ∷ b))) (sym (prefix_yes is_lower_hex_digit x (take m b) (sym e)))
          (tail.0, hex_cons m x (take (hex_len m b) b ++ tail.0) (sym e) tail.1)
      | false ↦ λ e. subst (λ (n : ℕ). Begins (IsHex (suc m)) (take n (x ∷ b))) (sym (prefix_no is_lower_hex_digit x (take m b) (sym e))) (zeros (suc m))
    ] refl

hex_most : (m : ℕ) (b r : List ℕ) (k : ℕ) → k ≤ length b → IsHex m (take k b ++ r) → k ≤ hex_len m b
hex_most m b r zero le is = omega arith
hex_most m [] r (suc k) le is = absurd (omega arith)
hex_most zero (x ∷ b) r (suc k) le is = let c = is.count in absurd (omega arith)
hex_most (suc m) (x ∷ b) r (suc k) le is =
    let c = is.count in
    let head = and_left (is_lower_hex_digit x) (list_all is_lower_hex_digit (take k b ++ r)) is.digits in
    let tail = hex_most m b r k (omega arith) (record { count = omega arith; digits = and_right (is_lower_hex_digit x) (list_all is_lower_hex_digit (take k b ++ r)) is.digits }) in
    omega (arith, tail, prefix_yes is_lower_hex_digit x (take m b) head)

pub hex_longest : (m : ℕ) (b : List ℕ) → IsLongest (IsHex m) b (prefix_len is_lower_hex_digit (take m b))
hex_longest m b = record {
  within = omega (arith, prefix_len-le-length is_lower_hex_digit (take m b), length-take m b);
  begins = hex_begins m b;
  longest = λ k lt fits h. let most = hex_most m b h.0 k fits h.1 in absurd (omega arith);
}

-- the value of a digit
glyph_value : ℕ → ℕ
glyph_value c = if nat_le c 57 then c - 48 else c - 87

reads_back : ℕ → Bool
reads_back c = not (is_lower_hex_digit c) || (nat_lt (glyph_value c) 16 && nat_eq (slice_index lower_digits (glyph_value c)) c)

all_read_back : list_all reads_back (range_with_len 0 103) ≡ true
unfolding glyph_value reads_back
all_read_back = refl

or_right : (a b : Bool) → a ≡ true → (not a || b) ≡ true → b ≡ true
or_right true b e h = h
or_right false b e h = absurd (false≢true e)

glyph : (c : ℕ) → is_lower_hex_digit c ≡ true → (nat_lt (glyph_value c) 16 && nat_eq (slice_index lower_digits (glyph_value c)) c) ≡ true
unfolding reads_back
glyph c h =
    let small : c < 103 = grind (arith, nat_tests) in
    let at = AllPass-from_list_all reads_back (range_with_len 0 103) all_read_back c 0 (omega (arith, length-range_with_len 0 103)) in
    let same : get_or (range_with_len 0 103) c 0 ≡ c = get_or-range_with_len 0 103 c 0 small ∙ omega arith in
    or_right (is_lower_hex_digit c) _ h (subst (λ (d : ℕ). reads_back d ≡ true) same at)

pub record Decoded (n : ℕ) (p : List ℕ) : Type 0 where
  pub id : List ℕ
  pub count : length id ≡ n
  pub bytes : IsBytes id
  pub same : encode_lower id ≡ p

bytes_cons : (x : ℕ) (xs : List ℕ) → x < 256 → IsBytes xs → IsBytes (x ∷ xs)
bytes_cons x xs lt h zero = lt
bytes_cons x xs lt h (suc i) = h i

-- twice as many digits are those of bytes
pub decoded : (n : ℕ) (p : List ℕ) → length p ≡ n + n → list_all is_lower_hex_digit p ≡ true → Decoded n p
unfolding encode_with
decoded zero [] len h = record { id = []; count = refl; bytes = λ i. omega arith; same = refl }
decoded (suc n) [] len h = absurd (omega arith)
decoded zero (a ∷ p) len h = absurd (omega arith)
decoded (suc n) (a ∷ []) len h = absurd (omega arith)
decoded (suc n) (a ∷ b ∷ p) len h =
    let tail = and_right (is_lower_hex_digit a) (is_lower_hex_digit b && list_all is_lower_hex_digit p) h in
    let ga = glyph a (and_left (is_lower_hex_digit a) (is_lower_hex_digit b && list_all is_lower_hex_digit p) h) in
    let gb = glyph b (and_left (is_lower_hex_digit b) (list_all is_lower_hex_digit p) tail) in
    let rest = decoded n p (omega arith) (and_right (is_lower_hex_digit b) (list_all is_lower_hex_digit p) tail) in
    let va = glyph_value a in
    let vb = glyph_value b in
    let la : va < 16 = let t = and_left (nat_lt va 16) (nat_eq (slice_index lower_digits va) a) ga in grind (arith, nat_tests) in
    let lb : vb < 16 = let t = and_left (nat_lt vb 16) (nat_eq (slice_index lower_digits vb) b) gb in grind (arith, nat_tests) in
    let ea : slice_index lower_digits va ≡ a = eqb-true _ _ (and_right (nat_lt va 16) (nat_eq (slice_index lower_digits va) a) ga) in
    let eb : slice_index lower_digits vb ≡ b = eqb-true _ _ (and_right (nat_lt vb 16) (nat_eq (slice_index lower_digits vb) b) gb) in
    let byte = va * 16 + vb in
    let high : byte / 16 ≡ va = omega arith in
    let low : byte % 16 ≡ vb = omega arith in
    let small : byte < 256 = omega arith in
    let count = rest.count in
    record {
      id = byte ∷ rest.id;
      count = omega arith;
      bytes = bytes_cons byte rest.id small rest.bytes;
      same = ap (λ (v : ℕ). slice_index lower_digits v ∷ slice_index lower_digits (byte % 16) ∷ encode_lower rest.id) high
          ∙ ap (λ (v : ℕ). slice_index lower_digits va ∷ slice_index lower_digits v ∷ encode_lower rest.id) low
          ∙ ap (λ (c : ℕ). c ∷ slice_index lower_digits vb ∷ encode_lower rest.id) ea ∙ ap (λ (c : ℕ). a ∷ c ∷ encode_lower rest.id) eb
          ∙ ap (λ l. a ∷ b ∷ l) rest.same;
    }

-- ---- digits of a size

-- one 0, or at most 18 digits of which the first isn't 0
pub record IsSize (ds : List ℕ) : Type 0 where
  pub digits : list_all is_digit ds ≡ true
  pub some : 0 < length ds
  pub short : length ds ≤ 18
  pub lead : get_or ds 0 0 ≡ 48 → length ds ≡ 1

-- a size and a line feed
pub record IsSizeLine (l : List ℕ) : Type 0 where
  pub ds : List ℕ
  pub size : IsSize ds
  pub whole : l ≡ ds ++ 10 ∷ []

pub zero_line : IsSizeLine (codes "0\n")
zero_line = record {
  ds = codes "0";
  size = record { digits = refl; some = omega arith; short = omega arith; lead = λ e. refl };
  whole = refl;
}

passes_all : (p : ℕ → Bool) (xs : List ℕ) → list_all p (take (prefix_len p xs) xs) ≡ true
passes_all p [] = refl
passes_all p (x ∷ xs) =
    elim (p x) as (λ v. v ≡ p x → list_all p (take (prefix_len p (x ∷ xs)) (x ∷ xs)) ≡ true) [
      | true ↦ λ e. ap (λ (n : ℕ). list_all p (take n (x ∷ xs))) (prefix_yes p x xs (sym e)) ∙ and_both (p x) (list_all p (take (prefix_len p xs) xs)) (sym e) (passes_all p xs)
      | false ↦ λ e. ap (λ (n : ℕ). list_all p (take n (x ∷ xs))) (prefix_no p x xs (sym e))
    ] refl

-- what a line reads like, where a text is its front
front_at : (b r w : List ℕ) (k i : ℕ) → k ≤ length b → take k b ++ r ≡ w → i < k → get_or b i 0 ≡ get_or w i 0
front_at b r w k i fits e lt =
    let count : length (take k b) ≡ k = length-take-le k b fits in
    sym (get_or-take k b i 0 lt) ∙ sym (front_reads 0 w (take k b) r (sym e) i (omega arith))

digit_in : (ds : List ℕ) (i : ℕ) → list_all is_digit ds ≡ true → i < length ds → is_digit (get_or (ds ++ 10 ∷ []) i 0) ≡ true
digit_in ds i h lt = ap is_digit (front_reads 0 (ds ++ 10 ∷ []) ds (10 ∷ []) refl i lt) ∙ AllPass-from_list_all is_digit ds h i 0 lt

past_end : (b : List ℕ) (i : ℕ) → length b ≤ i → get_or b i 0 ≡ 0
past_end [] i le = refl
past_end (x ∷ b) zero le = absurd (omega arith)
past_end (x ∷ b) (suc i) le = past_end b i (omega arith)

module _ (b : List ℕ) where
  most : ℕ
  most = if slice_index b 0 == 48 then 1 else 18

  n : ℕ
  n = prefix_len is_digit (take most b)

  most_is : ((get_or b 0 0 ≡ 48) × (most ≡ 1)) ⊎ ((get_or b 0 0 ≢ 48) × (most ≡ 18))
  unfolding most
  most_is = elim (cases_eq (get_or b 0 0) 48) [
    | inl e ↦ inl (e, grind (arith, nat_tests))
    | inr e ↦ inr (e, grind (arith, nat_tests))
  ]

  n_within : (n ≤ length b) × (n ≤ most)
  unfolding n
  n_within =
      let small = prefix_len-le-length is_digit (take most b) in
      let count = length-take most b in
      (omega arith, omega arith)

  n_stops : n < most → n < length b → is_digit (get_or b n 0) ≡ false
  unfolding n
  n_stops lt in_b =
      let count = length-take most b in
      sym (ap is_digit (get_or-take most b n 0 lt)) ∙ prefix_len_stops is_digit (take most b) 0 (omega arith)

  n_digits : list_all is_digit (take n b) ≡ true
  unfolding n
  n_digits = ap (list_all is_digit) (sym (take-take n most b (n_within.1))) ∙ passes_all is_digit (take most b)

  size_of_n : 0 < n → IsSize (take n b)
  size_of_n lt =
      let within = n_within in
      let count : length (take n b) ≡ n = length-take-le n b within.0 in
      let kind = most_is in
      record {
        digits = n_digits;
        some = omega arith;
        short = elim kind [ inl h ↦ let one = h.1 in omega arith | inr h ↦ let eighteen = h.1 in omega arith ];
        lead = λ e. elim kind [
          | inl h ↦ let one = h.1 in omega arith
          | inr h ↦ absurd (h.0 (sym (get_or-take n b 0 0 lt) ∙ e))
        ];
      }

  -- a line that begins with more of the text than its digits has its end there
  end_at : (k : ℕ) (r : List ℕ) → n < k → k ≤ length b → IsSizeLine (take k b ++ r) → (0 < n) × (get_or b n 0 ≡ 10) × (k ≡ n + 1)
  end_at k r lt fits line =
      let ds = line.ds in
      let is = line.size in
      let w = ds ++ 10 ∷ [] in
      let char : get_or b n 0 ≡ get_or w n 0 = front_at b r w k n fits line.whole lt in
      let count : length (take k b) ≡ k = length-take-le k b fits in
      let size : k + length r ≡ length ds + 1 = ap (λ (i : ℕ). i + length r) (sym count) ∙ sym (length-append (take k b) r) ∙ ap length line.whole ∙ length-append ds (10 ∷ []) in
      let some = is.some in
      let short = is.short in
      elim (cases_lt n (length ds)) [
        | inl inside ↦
            elim (cases_lt n most) [
              | inl room ↦ absurd (false≢true (sym (n_stops room (omega arith)) ∙ ap is_digit char ∙ digit_in ds n is.digits inside))
              | inr full ↦
                  elim most_is [
                    | inl h ↦
                        let one = h.1 in
                        let head : get_or ds 0 0 ≡ 48 = sym (front_reads 0 w ds (10 ∷ []) refl 0 some) ∙ sym (front_at b r w k 0 fits line.whole (omega arith)) ∙ h.0 in
                        let single = is.lead head in
                        absurd (omega arith)
                    | inr h ↦ let eighteen = h.1 in absurd (omega arith)
                  ]
            ]
        | inr past ↦
            let same : n ≡ length ds = omega arith in
            (omega arith, char ∙ ap (λ (i : ℕ). get_or w i 0) same ∙ get_or-append_seam ds 10 [] 0, omega arith)
      ]

  with_end_yes : 0 < n → get_or b n 0 ≡ 10 → with_end b n ≡ n + 1
  with_end_yes lt e = grind (arith, nat_tests)

  with_end_none : n ≡ 0 → with_end b n ≡ n
  with_end_none e = grind (arith, nat_tests)

  with_end_no : get_or b n 0 ≢ 10 → with_end b n ≡ n
  with_end_no e = grind (arith, nat_tests)

  with_line_end : 0 < n → get_or b n 0 ≡ 10 → IsLongest IsSizeLine b (n + 1)
  with_line_end lt e =
      let inside : n < length b = elim (cases_lt n (length b)) [ inl h ↦ h | inr h ↦ let end = past_end b n h in absurd (omega arith) ] in
      record {
        within = omega arith;
        begins = (
          [],
          record {
            ds = take n b;
            size = size_of_n lt;
            whole = append-nil (take (n + 1) b) ∙ take_more b n 0 inside ∙ ap (λ (c : ℕ). take n b ++ c ∷ []) e;
          },
        );
        longest = λ k past fits w. let end = end_at k w.0 (omega arith) fits w.1 in let is = end.2 in absurd (omega arith);
      }

  without : Begins IsSizeLine (take n b) → (0 < n → get_or b n 0 ≡ 10 → ⊥) → IsLongest IsSizeLine b n
  without begins other = record {
    within = n_within.0;
    begins = begins;
    longest = λ k past fits w. let end = end_at k w.0 past fits w.1 in other end.0 end.1;
  }

  longest_size : IsLongest IsSizeLine b (with_end b n)
  longest_size =
      elim (cases_lt 0 n) [
        | inl lt ↦
            elim (cases_eq (get_or b n 0) 10) [
              | inl e ↦ subst (IsLongest IsSizeLine b) (sym (with_end_yes lt e)) (with_line_end lt e)
              | inr other ↦ subst (IsLongest IsSizeLine b) (sym (with_end_no other))
                  (without (10 ∷ [], record { ds = take n b; size = size_of_n lt; whole = refl }) (λ p e. other e))
            ]
        | inr le ↦
            let none : n ≡ 0 = omega arith in
            subst (IsLongest IsSizeLine b) (sym (with_end_none none))
            (without (codes "0\n", subst (λ (i : ℕ). IsSizeLine (take i b ++ codes "0\n")) (sym none) zero_line) (λ p e. absurd (omega arith)))
      ]

pub size_longest : (b : List ℕ) → IsLongest IsSizeLine b (size_front b)
unfolding size_front size_digits n most
size_longest b = longest_size b

-- ---- sizes as numbers

digits_test : IsDigitsTest (λ ds. list_all is_digit ds ≡ true)
digits_test = record {
  empty = refl;
  parts = λ c cs h. (let d = and_left (is_digit c) (list_all is_digit cs) h in grind (arith, nat_tests), and_right (is_digit c) (list_all is_digit cs) h);
  more = λ c cs range h. and_both (is_digit c) (list_all is_digit cs) (grind (arith, nat_tests)) h;
}

pub own : IsNumeralModel (λ ds. list_all is_digit ds ≡ true) (digits_value 10)
own = numerals_by_value (λ ds. list_all is_digit ds ≡ true) digits_test

pub record Numbered (ds : List ℕ) : Type 0 where
  pub size : ℕ
  pub small : size < 10 ^ 18
  pub same : decimal size ≡ ds

pub numbered : (ds : List ℕ) → IsSize ds → Numbered ds
numbered ds is =
    let small = digits_value_short own ds 18 is.digits is.short in
    record {
      size = digits_value 10 ds;
      small = small;
      same = decimal-digits_value own ds is.digits is.some is.lead (omega arith);
    }

pub size_of_number : (n : ℕ) → n < 10 ^ 18 → IsSize (decimal n)
size_of_number n small = record {
  digits = digits_decimal own n (omega arith);
  some = decimal_nonempty n (omega arith);
  short = length-decimal-le 18 n (omega arith) small (omega arith);
  lead = λ e. elim (cases_eq n 0) [
    | inl zero_ ↦ ap length (ap decimal zero_ ∙ decimal_digit 0 (omega arith))
    | inr other ↦ let first = first_decimal n (omega arith) (omega arith) in absurd (omega arith)
  ];
}
