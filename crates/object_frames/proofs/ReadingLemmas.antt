-- The function of an answer's first line gives what the line says.
use Rattle.std.proofs.Common.{◌≡◌, ◌≢◌, inl, inr, ℕ, suc, ◌+◌, ◌^◌, ◌≤◌, ◌<◌, Bool, true, false, not, nat_eq, nat_lt, Option, Some, None, Result, Ok, Err, List, [], ◌∷◌, ◌++◌, take, drop, length, refl, sym, ap, ◌∙◌, subst, arith, append_assoc, length-append, decimal, get_or, eq-eqb, bytes_eq}
use Rattle.std.specs.Prelude.{◌==◌, ◌&&◌, if◌then◌else◌, MatchOption}
use Rattle.std.specs.Result.{result_unwrap_or}
use Rattle.std.specs.Str.Parse.{digits_value}
use Rattle.std.proofs.lemmas.Bool.{cases_lt, eqb-true, ne_eqb, false≢true}
use Rattle.std.proofs.lemmas.Bool.Decides.{nat_tests}
use Rattle.std.proofs.lemmas.Slice.Eq.{bytes_eq-Decides}
use Rattle.std.proofs.lemmas.List.{take_at, drop_at, take-append-drop, drop_more}
use Rattle.std.proofs.lemmas.List.Sums.{common_prefix_len-le, prefix_len_stops}
use Rattle.std.proofs.lemmas.Fmt.{decimal_is_IsNumeral}
use Rattle.std.proofs.Math.Seq.{take-length}
use Rattle.hex.specs.Hex.{encode_lower, decode_of, IsBytes}
use Rattle.hex.specs.declared.error.FromHexError.{FromHexError}
use Rattle.hex.proofs.HexLemmas.{decode_of-encode_lower, decode_of-ok}
use Rattle.child_ports.specs.Git.{missing, ambiguous, NoLineEnd}
use Rattle.object_frames.specs.declared.kind.Kind.{Kind}
use Rattle.object_frames.specs.declared.kind.Kind.TheVariants.{Commit, Tree, Blob, Tag}
use Rattle.object_frames.specs.declared.header.Header.{Header}
use Rattle.object_frames.specs.declared.head.Head.{Head}
use Rattle.object_frames.specs.declared.head.Head.TheVariants.{Missing, Object, Odd, Cut}
use Rattle.object_frames.specs.Object.{type_word}
use Rattle.object_frames.specs.Id.{IsId}
use Rattle.object_frames.specs.Frame.{header_line, IsHeaderLine, HasNoHeader, Begins, IsLongest}
use Rattle.object_frames.specs.Fronts.{common, front_of}
use Rattle.object_frames.specs.Head.{line_len, header_if, header_as, or_else, header_of, header_at, odd_head, head_or, head_of, HasHeader, StartsWith}
use Rattle.object_frames.proofs.IdLemmas.{length-hex}
use Rattle.object_frames.proofs.HeaderLemmas.{id_part, same_header, no_end_header}
use Rattle.object_frames.proofs.LanguageLemmas.{at_true, at_false}
use Rattle.object_frames.proofs.DigitLemmas.{prefix_yes, and_left, and_right, and_both}
use Rattle.object_frames.proofs.LongestLemmas.{front_longest}

-- ---- a text at the front

common_full : (w r : List ℕ) → common (w ++ r) w ≡ length w
common_full [] r = omega (arith, (common_prefix_len-le nat_eq r []).1)
common_full (x ∷ w) r = at_true x x (w ++ r) w (eq-eqb x x refl) ∙ ap suc (common_full w r)

full_front : (b w : List ℕ) → common b w ≡ length w → b ≡ w ++ drop (length w) b
full_front b [] e = refl
full_front [] (y ∷ w) e = absurd (omega (arith, e))
full_front (x ∷ b) (y ∷ w) e =
    elim (nat_eq x y) as (λ v. v ≡ nat_eq x y → x ∷ b ≡ (y ∷ w) ++ drop (length (y ∷ w)) (x ∷ b)) [
      | true ↦ λ t.
          let tail : common b w ≡ length w = omega (arith, at_true x y b w (sym t), e) in
          ap (λ (z : ℕ). z ∷ b) (eqb-true x y (sym t)) ∙ ap (λ l. y ∷ l) (full_front b w tail)
      | false ↦ λ t. absurd (omega (arith, at_false x y b w (sym t), e))
    ] refl

module _ (name answer : List ℕ) where
  abbrev other : Head
  other = head_or (header_at answer) (odd_head name answer)

  abbrev later : Bool → Head
  later v = if v then Missing else other

  front_test : (w rest : List ℕ) → answer ≡ w ++ rest → nat_eq (common answer w) (length w) ≡ true
  front_test w rest e = eq-eqb _ _ (ap (λ a. common a w) e ∙ common_full w rest)

  no_front_test : (w : List ℕ) → ((more : List ℕ) → answer ≢ w ++ more) → nat_eq (common answer w) (length w) ≡ false
  no_front_test w none = ne_eqb _ _ (λ e. none (drop (length w) answer) (full_front answer w e))

  head_missing : (rest : List ℕ) → answer ≡ missing name ++ rest → head_of name answer ≡ Missing
  unfolding head_of
  head_missing rest e = ap (λ v. if v then Missing else later (nat_eq (common answer (ambiguous name)) (length (ambiguous name)))) (front_test (missing name) rest e)

  either_way : (v : Bool) → (if v then Missing else later true) ≡ Missing
  either_way true = refl
  either_way false = refl

  head_ambiguous : (rest : List ℕ) → answer ≡ ambiguous name ++ rest → head_of name answer ≡ Missing
  unfolding head_of
  head_ambiguous rest e =
      ap (λ w. if nat_eq (common answer (missing name)) (length (missing name)) then Missing else later w) (front_test (ambiguous name) rest e)
      ∙ either_way (nat_eq (common answer (missing name)) (length (missing name)))

  head_else : ((more : List ℕ) → answer ≢ missing name ++ more) → ((more : List ℕ) → answer ≢ ambiguous name ++ more) → head_of name answer ≡ other
  unfolding head_of
  head_else m a =
      ap (λ v. if v then Missing else later (nat_eq (common answer (ambiguous name)) (length (ambiguous name)))) (no_front_test (missing name) m)
      ∙ ap later (no_front_test (ambiguous name) a)

-- ---- the header of a line

-- the line says this
record Says (line : List ℕ) (h : Header) : Type 0 where
  is_id : IsId h.id
  small : h.size < 10 ^ 18
  whole : line ≡ header_line h.id h.kind h.size
  len : h.len ≡ length line + 1

if_law : (line id : List ℕ) (kind : Kind) (size : ℕ) → IsBytes id
    → MatchOption (header_if line id kind size) (IsId id → size < 10 ^ 18 → line ≢ header_line id kind size) (Says line)
unfolding header_if
if_law line id kind size bytes =
    elim (nat_eq (length id) 20 && (nat_lt size (10 ^ 18) && bytes_eq line (header_line id kind size)))
    as (λ v. v ≡ (nat_eq (length id) 20 && (nat_lt size (10 ^ 18) && bytes_eq line (header_line id kind size)))
    → MatchOption (if v then Some (record { id = id; kind = kind; size = size; len = length line + 1 }) else None) (IsId id → size < 10 ^ 18 → line ≢ header_line id kind size) (Says line)) [
      | true ↦ λ e.
          let rest = and_right (nat_eq (length id) 20) (nat_lt size (10 ^ 18) && bytes_eq line (header_line id kind size)) (sym e) in
          let lt = and_left (nat_lt size (10 ^ 18)) (bytes_eq line (header_line id kind size)) rest in
          record {
            is_id = record { count = eqb-true _ _ (and_left (nat_eq (length id) 20) (nat_lt size (10 ^ 18) && bytes_eq line (header_line id kind size)) (sym e)); bytes = bytes };
            small = grind (arith, nat_tests);
            whole = (bytes_eq-Decides line (header_line id kind size)).0 (and_right (nat_lt size (10 ^ 18)) (bytes_eq line (header_line id kind size)) rest);
            len = refl;
          }
      | false ↦ λ e is small whole.
          let lt : nat_lt size (10 ^ 18) ≡ true = grind (arith, nat_tests) in
          false≢true (e ∙ and_both (nat_eq (length id) 20) _ (eq-eqb _ _ is.count) (and_both (nat_lt size (10 ^ 18)) _ lt ((bytes_eq-Decides line (header_line id kind size)).1 whole)))
    ] refl

decoded_bytes : (s : List ℕ) (r : Result (List ℕ) FromHexError) → decode_of s ≡ r → IsBytes (result_unwrap_or r [])
decoded_bytes s (Ok bytes) e = (decode_of-ok s bytes e).3
decoded_bytes s (Err fail) e = λ i. omega arith

size_part : (line id : List ℕ) (kind : Kind) (size : ℕ) → IsId id → line ≡ header_line id kind size → drop (42 + length (type_word kind)) line ≡ decimal size
size_part line id kind size is whole =
    let front = (encode_lower id ++ 32 ∷ type_word kind) ++ 32 ∷ [] in
    let count : length front ≡ 42 + length (type_word kind) =
    omega (arith, length-append (encode_lower id ++ 32 ∷ type_word kind) (32 ∷ []), length-append (encode_lower id) (32 ∷ type_word kind), length-hex id is) in
    ap (drop (42 + length (type_word kind))) (whole ∙ sym (append_assoc (encode_lower id ++ 32 ∷ type_word kind) (32 ∷ []) (decimal size))) ∙ drop_at front (decimal size) _ count

abbrev NoneOf : List ℕ → Kind → Type 0
NoneOf line kind = (id : List ℕ) (size : ℕ) → IsId id → size < 10 ^ 18 → line ≢ header_line id kind size

as_none : (line i : List ℕ) (kind : Kind) (s : ℕ) → ((id : List ℕ) (size : ℕ) → IsId id → size < 10 ^ 18 → line ≡ header_line id kind size → (i ≡ id) × (s ≡ size))
    → (o : Option Header) → MatchOption o (IsId i → s < 10 ^ 18 → line ≢ header_line i kind s) (Says line) → MatchOption o (NoneOf line kind) (Says line)
as_none line i kind s same (Some h) says = says
as_none line i kind s same None none = λ id size is small whole.
    let e = same id size is small whole in
    none (subst IsId (sym e.0) is) (subst (λ (n : ℕ). n < 10 ^ 18) (sym e.1) small) (whole ∙ ap (λ j. header_line j kind size) (sym e.0) ∙ ap (header_line i kind) (sym e.1))

as_law : (line : List ℕ) (kind : Kind) → MatchOption (header_as line kind) (NoneOf line kind) (Says line)
unfolding header_as
as_law line kind =
    as_none line (result_unwrap_or (decode_of (take 40 line)) []) kind (digits_value 10 (drop (42 + length (type_word kind)) line))
    (λ id size is small whole. (
      ap (λ r. result_unwrap_or r []) (ap decode_of (id_part line id kind size is whole) ∙ decode_of-encode_lower id is.bytes),
      ap (digits_value 10) (size_part line id kind size is whole) ∙ (decimal_is_IsNumeral size (omega arith)).1,
    ))
    _ (if_law line _ kind _ (decoded_bytes (take 40 line) (decode_of (take 40 line)) refl))

or_law : (P R : Type 0) (Q : Header → Type 0) (a b : Option Header) → MatchOption a P Q → MatchOption b R Q → MatchOption (or_else a b) (P × R) Q
or_law P R Q (Some h) b p r = p
or_law P R Q None (Some h) p r = r
or_law P R Q None None p r = (p, r)

each_kind : (line : List ℕ) → NoneOf line Commit × (NoneOf line Tree × (NoneOf line Blob × NoneOf line Tag)) → (kind : Kind) → NoneOf line kind
each_kind line h Commit = h.0
each_kind line h Tree = h.1.0
each_kind line h Blob = h.1.1.0
each_kind line h Tag = h.1.1.1

any_kind : (line : List ℕ) (o : Option Header) → MatchOption o (NoneOf line Commit × (NoneOf line Tree × (NoneOf line Blob × NoneOf line Tag))) (Says line)
    → MatchOption o ((kind : Kind) → NoneOf line kind) (Says line)
any_kind line (Some h) says = says
any_kind line None none = each_kind line none

header_law : (line : List ℕ) → MatchOption (header_of line) ((kind : Kind) → NoneOf line kind) (Says line)
unfolding header_of
header_law line =
    any_kind line _ (or_law _ _ (Says line) (header_as line Commit) _ (as_law line Commit)
    (or_law _ _ (Says line) (header_as line Tree) _ (as_law line Tree) (or_law _ _ (Says line) (header_as line Blob) (header_as line Tag) (as_law line Blob) (as_law line Tag))))

same_fields : (g h : Header) → g.id ≡ h.id → g.kind ≡ h.kind → g.size ≡ h.size → g.len ≡ h.len → g ≡ h
same_fields g h a b c d = λ i. record { id = a i; kind = b i; size = c i; len = d i }

ltb_true : {m n : ℕ} → m < n → nat_lt m n ≡ true
ltb_true {m} {n} lt = grind (arith, nat_tests)

ltb_false : {m n : ℕ} → n ≤ m → nat_lt m n ≡ false
ltb_false {m} {n} le = grind (arith, nat_tests)

not_false : (b : Bool) → not b ≡ false → b ≡ true
not_false true e = refl
not_false false e = cc

line_len_at : (xs p : List ℕ) → NoLineEnd xs → line_len (xs ++ 10 ∷ p) ≡ length xs
line_len_at [] p h = refl
line_len_at (x ∷ xs) p h = prefix_yes (λ b. not (b == 10)) x (xs ++ 10 ∷ p) (ap not (ne_eqb x 10 h.0)) ∙ ap suc (line_len_at xs p h.1)

no_says : (line : List ℕ) (o : Option Header) → MatchOption o ((kind : Kind) → NoneOf line kind) (Says line) → ((h : Header) → Says line h → ⊥) → o ≡ None
no_says line None law none = refl
no_says line (Some h) law none = absurd (none h law)

module _ (answer : List ℕ) (header : Header) (rest : List ℕ) (has : HasHeader answer header rest) where
  abbrev the_line : List ℕ
  the_line = header_line header.id header.kind header.size

  reads : (o : Option Header) → MatchOption o ((kind : Kind) → NoneOf the_line kind) (Says the_line) → o ≡ Some header
  reads None none = absurd (none header.kind header.id header.size has.id has.size refl)
  reads (Some g) says =
      let same = same_header g.id header.id g.kind header.kind g.size header.size [] [] says.is_id has.id says.small has.size (ap (λ l. l ++ 10 ∷ []) (sym says.whole)) in
      ap Some (same_fields g header same.id same.kind same.size (says.len ∙ sym has.len))

  pub len_at : line_len answer ≡ length the_line
  len_at = ap line_len has.whole ∙ line_len_at the_line rest (no_end_header header.id header.kind header.size has.id has.size)

  pub length_at : length answer ≡ header.len + length rest
  length_at =
      let size : length answer ≡ length the_line + suc (length rest) = ap length has.whole ∙ length-append the_line (10 ∷ rest) in
      let len = has.len in
      omega arith

  pub rest_at : drop (line_len answer + 1) answer ≡ rest
  rest_at =
      let count : length (the_line ++ 10 ∷ []) ≡ line_len answer + 1 = length-append the_line (10 ∷ []) ∙ ap (λ (n : ℕ). n + 1) (sym len_at) in
      ap (drop (line_len answer + 1)) (has.whole ∙ sym (append_assoc the_line (10 ∷ []) rest)) ∙ drop_at (the_line ++ 10 ∷ []) rest (line_len answer + 1) count

  pub header_there : header_at answer ≡ Some header
  unfolding header_at
  header_there =
      let len = has.len in
      let inside : nat_lt (line_len answer) (length answer) ≡ true = ltb_true (omega (arith, len_at, length_at)) in
      let line : take (line_len answer) answer ≡ the_line = ap (λ (n : ℕ). take n answer) len_at ∙ ap (take (length the_line)) has.whole ∙ take_at the_line (10 ∷ rest) (length the_line) refl in
      ap (λ v. if v then header_of (take (line_len answer) answer) else None) inside ∙ ap header_of line ∙ reads (header_of the_line) (header_law the_line)

line_there : (answer : List ℕ) → line_len answer < length answer → answer ≡ take (line_len answer) answer ++ 10 ∷ drop (line_len answer + 1) answer
line_there answer lt =
    let n = line_len answer in
    let stops : not (nat_eq (get_or answer n 0) 10) ≡ false = prefix_len_stops (λ b. not (b == 10)) answer 0 lt in
    let char : get_or answer n 0 ≡ 10 = eqb-true _ _ (not_false (nat_eq (get_or answer n 0) 10) stops) in
    sym (take-append-drop n answer) ∙ ap (λ r. take n answer ++ r) (drop_more answer n 0 lt ∙ ap (λ (c : ℕ). c ∷ drop (n + 1) answer) char)

no_header_there : (name answer : List ℕ) → HasNoHeader name answer → header_at answer ≡ None
unfolding header_at
no_header_there name answer none =
    elim (cases_lt (line_len answer) (length answer)) [
      | inl lt ↦
          let line = take (line_len answer) answer in
          ap (λ v. if v then header_of line else None) (ltb_true lt)
          ∙ no_says line (header_of line) (header_law line) (λ h says. none (header_line h.id h.kind h.size ++ 10 ∷ []) (drop (line_len answer + 1) answer)
          (inr (inr (record { id = h.id; kind = h.kind; size = h.size; is_id = says.is_id; small = says.small; whole = refl })))
          (line_there answer lt ∙ ap (λ l. l ++ 10 ∷ drop (line_len answer + 1) answer) says.whole ∙ sym (append_assoc (header_line h.id h.kind h.size) (10 ∷ []) (drop (line_len answer + 1) answer))))
      | inr le ↦ ap (λ v. if v then header_of (take (line_len answer) answer) else None) (ltb_false le)
    ]

same_longest : (Line : List ℕ → Type 0) (b : List ℕ) (m n : ℕ) → IsLongest Line b m → IsLongest Line b n → m ≡ n
same_longest Line b m n p r =
    elim (cases_lt m n) [
      | inl lt ↦ absurd (p.longest n lt r.within r.begins)
      | inr le ↦ elim (cases_lt n m) [ inl lt ↦ absurd (r.longest m lt p.within p.begins) | inr ge ↦ omega arith ]
    ]

-- ---- the head of an answer

odd_at : (name answer : List ℕ) (at : ℕ) → IsLongest (IsHeaderLine name) answer at → at < length answer → odd_head name answer ≡ Odd at
unfolding odd_head
odd_at name answer at longest lt =
    let same = same_longest (IsHeaderLine name) answer (front_of name answer) at (front_longest name answer) longest in
    ap (λ v. if v then Odd (front_of name answer) else Cut (length answer)) (ltb_true (omega (arith, same))) ∙ ap Odd same

cut_at : (name answer : List ℕ) (at : ℕ) → Begins (IsHeaderLine name) answer → at ≡ length answer → odd_head name answer ≡ Cut at
unfolding odd_head
cut_at name answer at begins is =
    let long = front_longest name answer in
    let whole : Begins (IsHeaderLine name) (take (length answer) answer) = subst (Begins (IsHeaderLine name)) (sym (take-length answer)) begins in
    let full : length answer ≤ front_of name answer =
    elim (cases_lt (front_of name answer) (length answer)) [ inl lt ↦ absurd (long.longest (length answer) lt (omega arith) whole) | inr le ↦ le ] in
    ap (λ v. if v then Odd (front_of name answer) else Cut (length answer)) (ltb_false full) ∙ ap Cut (sym is)

pub head_is : (name answer : List ℕ) (head : Head) (rest : List ℕ) → StartsWith name answer head rest → head_of name answer ≡ head
head_is name answer Missing rest (inl e) = head_missing name answer rest e
head_is name answer Missing rest (inr e) = head_ambiguous name answer rest e
head_is name answer (Object header) rest said =
    head_else name answer said.1 said.2 ∙ ap (λ o. head_or o (odd_head name answer)) (header_there answer header rest said.0)
head_is name answer (Odd at) rest said =
    head_else name answer (λ more. said.0 (missing name) more (inl refl)) (λ more. said.0 (ambiguous name) more (inr (inl refl)))
    ∙ ap (λ o. head_or o (odd_head name answer)) (no_header_there name answer said.0) ∙ odd_at name answer at said.1 said.2
head_is name answer (Cut at) rest said =
    head_else name answer (λ more. said.0 (missing name) more (inl refl)) (λ more. said.0 (ambiguous name) more (inr (inl refl)))
    ∙ ap (λ o. head_or o (odd_head name answer)) (no_header_there name answer said.0) ∙ cut_at name answer at said.1 said.2
