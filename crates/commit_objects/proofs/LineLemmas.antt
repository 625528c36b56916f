-- Lines and their ends.
use Rattle.std.proofs.Common.{◌≡◌, ◌≢◌, ℕ, ◌+◌, ◌<◌, Bool, true, false, not, eqb, Option, Some, None, List, [], ◌∷◌, ◌++◌, take, drop, length, get_or, refl, sym, ap, ◌∙◌, subst, arith, append_assoc, length-append, IfNone, MatchOption, Bor, is_some}
use Rattle.std.specs.List.{AllByRecursion, list_all}
use Rattle.std.proofs.lemmas.Bool.{false≢true, eq-eqb, and_parts}
use Rattle.std.proofs.lemmas.List.{append_cancel_left, take_at, drop_at, flat_map_more, at_drop_more, take-append-drop}
use Rattle.hex.specs.Hex.{encode_lower, lower_digits}
use Rattle.hex.proofs.HexLemmas.{length-encode_with}
use Rattle.byte_cuts.specs.Cuts.{Lacks}
use Rattle.object_frames.specs.Id.{IsId}
use Rattle.commit_objects.specs.Form.{sha1_form}
use Rattle.commit_objects.specs.Lines.{NoLineEnd, IsIdOf, continued}
use Rattle.commit_objects.specs.Faults.{BeginsWith}
use Rattle.commit_objects.specs.Headers.{AreContinued, EndsContinued, without_spaces}

-- a word without an end of a line, by computation
pub no_end : (word : List ℕ) → list_all (λ b. not (eqb b 10)) word ≡ true → NoLineEnd word
no_end [] h = tt
no_end (b ∷ word) h =
    let both = and_parts (not (eqb b 10)) (list_all (λ b. not (eqb b 10)) word) h in
    (λ e. not_ten (eqb b 10) both.0 (eq-eqb b 10 e), no_end word both.1)
  where
    not_ten : (t : Bool) → not t ≡ true → t ≡ true → ⊥
    not_ten true h e = cc
    not_ten false h e = cc

-- texts that begin with different bytes
pub heads_apart : (xs ys : List ℕ) → eqb (get_or xs 0 0) (get_or ys 0 0) ≡ false → xs ≢ ys
heads_apart xs ys h e = false≢true (sym h ∙ eq-eqb (get_or xs 0 0) (get_or ys 0 0) (ap (λ l. get_or l 0 0) e))

-- ids of the sha1 format
pub in_form : (id : List ℕ) → IsId id → IsIdOf sha1_form id
in_form id is = record { count = is.count; bytes = is.bytes }

pub of_form : (id : List ℕ) → IsIdOf sha1_form id → IsId id
of_form id is = record { count = is.count; bytes = is.bytes }

pub has_end : (value more : List ℕ) → Lacks 10 (value ++ 10 ∷ more) → ⊥
has_end [] more h = h.0 refl
has_end (x ∷ xs) more h = has_end xs more h.1

pub text_none : {X : Type 0} (r : Option X) (P : X → Type 0) (text word rest : List ℕ) → text ≡ word ++ rest → MatchOption r (Lacks 10 rest) P
    → IfNone r ((value more : List ℕ) → NoLineEnd value → text ≢ word ++ value ++ 10 ∷ more)
text_none (Some x) P text word rest is h = tt
text_none None P text word rest is h = λ value more one e.
    has_end value more (subst (Lacks 10) (append_cancel_left word rest (value ++ 10 ∷ more) (sym is ∙ e ∙ append_assoc word value (10 ∷ more))) h)

pub record IdCut (digits id rest : List ℕ) : Type 0 where
  pub front : take 40 digits ≡ encode_lower id
  pub back : drop 40 digits ≡ 10 ∷ rest
  pub long : 40 < length digits

pub id_cut : (text word digits id rest : List ℕ) → text ≡ word ++ digits → IsIdOf sha1_form id → text ≡ word ++ encode_lower id ++ 10 ∷ rest → IdCut digits id rest
id_cut text word digits id rest is is_id e =
    let whole : digits ≡ encode_lower id ++ (10 ∷ rest) = append_cancel_left word digits (encode_lower id ++ 10 ∷ rest) (sym is ∙ e ∙ append_assoc word (encode_lower id) (10 ∷ rest)) in
    let size : length (encode_lower id) ≡ 40 = omega (arith, length-encode_with lower_digits id, is_id.count) in
    record {
      front = ap (take 40) whole ∙ take_at (encode_lower id) (10 ∷ rest) 40 size;
      back = ap (drop 40) whole ∙ drop_at (encode_lower id) (10 ∷ rest) 40 size;
      long = omega (arith, ap length whole, length-append (encode_lower id) (10 ∷ rest), size);
    }

pub all_append : {X : Type 0} (P : X → Type 0) (xs ys : List X) → AllByRecursion P xs → AllByRecursion P ys → AllByRecursion P (xs ++ ys)
all_append P [] ys h k = k
all_append P (x ∷ xs) ys h k = (h.0, all_append P xs ys h.1 k)

-- ---- continuation lines

abbrev pub ContinuesTo : List ℕ → List ℕ → Type 0
ContinuesTo text rest = (more : List ℕ) × AreContinued more × (text ≡ more ++ rest)

pub continued_none : (text : List ℕ) → ContinuesTo text text
continued_none text = ([], ([], tt, refl), refl)

pub continued_more : (text rest line after : List ℕ) → ContinuesTo text rest → rest ≡ 32 ∷ (line ++ 10 ∷ after) → Lacks 10 line → ContinuesTo text after
continued_more text rest line after so_far is one =
    let lines = so_far.1.0 in (
      so_far.0 ++ continued line,
      (lines ++ line ∷ [], all_append NoLineEnd lines (line ∷ []) so_far.1.1 (one, tt), ap (λ l. l ++ continued line) so_far.1.2 ∙ flat_map_more continued [] lines line),
      so_far.2 ∙ ap (λ l. so_far.0 ++ l) (is ∙ ap (λ l. 32 ∷ l) (sym (append_assoc line (10 ∷ []) after))) ∙ sym (append_assoc so_far.0 (continued line) after),
    )

pub continued_end : (text rest line : List ℕ) → ContinuesTo text rest → rest ≡ 32 ∷ line → Lacks 10 line → EndsContinued text
continued_end text rest line so_far is one =
    (so_far.0, rest, so_far.1, so_far.2, subst NoLineEnd (sym is) ((λ e. omega arith), one), (line, is))

pub continued_all : (text rest : List ℕ) (n : ℕ) → n + length rest ≡ length text → ((more : List ℕ) → rest ≢ 32 ∷ more) → ContinuesTo text rest
    → AreContinued (take n text) × (text ≡ take n text ++ drop n text) × (BeginsWith (32 ∷ []) (drop n text) → ⊥)
continued_all text rest n size none so_far =
    let long : length so_far.0 ≡ n = omega (arith, ap length so_far.2, length-append so_far.0 rest) in
    let front : take n text ≡ so_far.0 = ap (take n) so_far.2 ∙ take_at so_far.0 rest n long in
    let back : drop n text ≡ rest = ap (drop n) so_far.2 ∙ drop_at so_far.0 rest n long in (
      (so_far.1.0, so_far.1.1, front ∙ so_far.1.2),
      so_far.2 ∙ sym (ap (λ l. l ++ rest) front) ∙ sym (ap (λ l. take n text ++ l) back),
      λ begins. none begins.0 (sym back ∙ begins.1),
    )

-- ---- the value of a signature, byte by byte

pub value_begins : (out more all : List ℕ) (begins : Bool) (i : ℕ) → i < length more → begins ≡ true
    → out ++ without_spaces begins (drop i more) ≡ all → out ++ without_spaces false (drop (i + 1) more) ≡ all
value_begins out more all begins i lt on was =
    sym (ap (λ l. out ++ l) (ap (λ b. without_spaces b (drop i more)) on ∙ at_drop_more (without_spaces true) more i 0 lt)) ∙ was

pub value_byte : (out now more all : List ℕ) (begins : Bool) (i : ℕ) → i < length more → begins ≡ false → now ≡ out ++ get_or more i 0 ∷ []
    → out ++ without_spaces begins (drop i more) ≡ all → now ++ without_spaces (eqb (get_or more i 0) 10) (drop (i + 1) more) ≡ all
value_byte out now more all begins i lt off is was =
    ap (λ l. l ++ without_spaces (eqb (get_or more i 0) 10) (drop (i + 1) more)) is ∙ append_assoc out (get_or more i 0 ∷ []) _
    ∙ sym (ap (λ l. out ++ l) (ap (λ b. without_spaces b (drop i more)) off ∙ at_drop_more (without_spaces false) more i 0 lt)) ∙ was

-- ---- whether a text begins with a word, as `after` says

pub begins_if : (r : Option (Bor (List ℕ))) (text word : List ℕ) → MatchOption r ((rest : List ℕ) → text ≢ word ++ rest) (λ x. text ≡ word ++ x.now) → is_some r ≡ true → BeginsWith word text
begins_if (Some x) text word h e = (x.now, h)
begins_if None text word h e = absurd (false≢true e)

pub begins_not : (r : Option (Bor (List ℕ))) (text word : List ℕ) → MatchOption r ((rest : List ℕ) → text ≢ word ++ rest) (λ x. text ≡ word ++ x.now) → is_some r ≡ false → (rest : List ℕ) → text ≢ word ++ rest
begins_not (Some x) text word h e = absurd (false≢true (sym e))
begins_not None text word h e = h

-- ---- a line with an id, as the code cuts it

pub id_line_is : (text word digits id rest : List ℕ) → text ≡ word ++ digits → take 40 digits ≡ encode_lower id → drop 40 digits ≡ 10 ∷ rest → text ≡ word ++ encode_lower id ++ 10 ∷ rest
id_line_is text word digits id rest is front back =
    is ∙ ap (λ l. word ++ l) (sym (take-append-drop 40 digits) ∙ ap (λ l. l ++ drop 40 digits) front ∙ ap (λ l. encode_lower id ++ l) back)
    ∙ sym (append_assoc word (encode_lower id) (10 ∷ rest))
