-- A content, cut into its lines, and what its first lines say.
use Rattle.std.proofs.Common.{◌≡◌, ◌≢◌, ◌⊎◌, inl, inr, ℕ, true, false, cond, eqb, nat_eq, ◌&&◌, ◌==◌, Option, Some, None, Result, Ok, Err, List, [], ◌∷◌, ◌++◌, drop, length, refl, sym, ap, ◌∙◌, subst, append_assoc, append-nil, codes, option_map, bytes_eq}
use Rattle.std.specs.List.{AllByRecursion, flat_map, starts_with}
use Rattle.std.proofs.lemmas.Bool.{eqb-true, eqb-false, ne_eqb, eq-eqb, and_parts, and_from}
use Rattle.std.proofs.lemmas.List.{drop_at}
use Rattle.std.proofs.lemmas.Option.{same_Some}
use Rattle.std.proofs.lemmas.Slice.Eq.{bytes_eq-Decides}
use Rattle.hex.specs.Hex.{encode_lower, decode_of, IsBytes}
use Rattle.hex.specs.declared.error.FromHexError.{FromHexError}
use Rattle.hex.proofs.HexLemmas.{decode_of-ok, decode_of-encode_lower}
use Rattle.object_frames.proofs.IdLemmas.{no_end_hex}
use Rattle.commit_objects.specs.Form.{Form}
use Rattle.commit_objects.specs.Lines.{NoLineEnd, IsIdOf, line, id_line, parent_line}
use Rattle.commit_objects.specs.Faults.{BeginsWith, NoIdLine, NoTextLine}
use Rattle.commit_objects.specs.Reading.{Lines, put_byte, lines_of, first_text, begins, text_in, checked_id, id_of, id_in, in_first, with_parent, parents_on}
use Rattle.commit_objects.proofs.LineLemmas.{no_end, all_append}
use Rattle.commit_objects.proofs.FurtherLemmas.{begins_true, begins_is, begins_false}

-- ---- lines and their ends

pub lacks_back : (front back : List ℕ) → NoLineEnd (front ++ back) → NoLineEnd back
lacks_back [] back h = h
lacks_back (b ∷ front) back h = lacks_back front back h.1

pub lines_cons : (l rest : List ℕ) → NoLineEnd l → lines_of (l ++ 10 ∷ rest) ≡ record { whole = l ∷ (lines_of rest).whole; left = (lines_of rest).left }
lines_cons [] rest h = refl
lines_cons (b ∷ l) rest h =
    ap (λ t. cond t (record { whole = [] ∷ (lines_of (l ++ 10 ∷ rest)).whole; left = (lines_of (l ++ 10 ∷ rest)).left }) (put_byte b (lines_of (l ++ 10 ∷ rest)).whole (lines_of (l ++ 10 ∷ rest)).left)) (ne_eqb b 10 h.0)
    ∙ ap (λ (ls : Lines). put_byte b ls.whole ls.left) (lines_cons l rest h.1)

pub lines_line : (l rest : List ℕ) → NoLineEnd l → lines_of (line l ++ rest) ≡ record { whole = l ∷ (lines_of rest).whole; left = (lines_of rest).left }
lines_line l rest h = ap lines_of (append_assoc l (10 ∷ []) rest) ∙ lines_cons l rest h

pub lines_none : (l : List ℕ) → NoLineEnd l → lines_of l ≡ record { whole = []; left = l }
lines_none [] h = refl
lines_none (b ∷ l) h =
    ap (λ t. cond t (record { whole = [] ∷ (lines_of l).whole; left = (lines_of l).left }) (put_byte b (lines_of l).whole (lines_of l).left)) (ne_eqb b 10 h.0)
    ∙ ap (λ (ls : Lines). put_byte b ls.whole ls.left) (lines_none l h.1)

-- a text has no end of a line, or a first one
pub record FirstEnd (text : List ℕ) : Type 0 where
  pub first : List ℕ
  pub rest : List ℕ
  pub one_line : NoLineEnd first
  pub whole : text ≡ first ++ 10 ∷ rest

pub cut_first : (text : List ℕ) → NoLineEnd text ⊎ FirstEnd text
cut_first [] = inl tt
cut_first (b ∷ text) = elim (eqb b 10) as (λ t. t ≡ eqb b 10 → NoLineEnd (b ∷ text) ⊎ FirstEnd (b ∷ text)) [
  | true ↦ λ e. inr (record { first = []; rest = text; one_line = tt; whole = ap (λ c. c ∷ text) (eqb-true b 10 (sym e)) })
  | false ↦ λ e. elim (cut_first text) [
    | inl none ↦ inl (eqb-false b 10 (sym e), none)
    | inr cut ↦ inr (record { first = b ∷ cut.first; rest = cut.rest; one_line = (eqb-false b 10 (sym e), cut.one_line); whole = ap (λ l. b ∷ l) cut.whole })
  ]
] refl

pub lines_first : (text : List ℕ) (cut : FirstEnd text) → lines_of text ≡ record { whole = cut.first ∷ (lines_of cut.rest).whole; left = (lines_of cut.rest).left }
lines_first text cut = ap lines_of cut.whole ∙ lines_cons cut.first cut.rest cut.one_line

-- ---- the first line's beginning

first_put : (b : ℕ) (ls : List (List ℕ)) (left : List ℕ) → first_text (put_byte b ls left).whole (put_byte b ls left).left ≡ b ∷ first_text ls left
first_put b [] left = refl
first_put b (l ∷ ls) left = refl

first_word : (word rest : List ℕ) → NoLineEnd word → first_text (lines_of (word ++ rest)).whole (lines_of (word ++ rest)).left ≡ word ++ first_text (lines_of rest).whole (lines_of rest).left
first_word [] rest h = refl
first_word (b ∷ word) rest h =
    ap (λ t. let ls = cond t (record { whole = [] ∷ (lines_of (word ++ rest)).whole; left = (lines_of (word ++ rest)).left }) (put_byte b (lines_of (word ++ rest)).whole (lines_of (word ++ rest)).left) in first_text ls.whole ls.left) (ne_eqb b 10 h.0)
    ∙ first_put b (lines_of (word ++ rest)).whole (lines_of (word ++ rest)).left ∙ ap (λ l. b ∷ l) (first_word word rest h.1)

pub begins_yes : (word text : List ℕ) → NoLineEnd word → BeginsWith word text → begins word (lines_of text) ≡ true
begins_yes word text h is =
    begins_true word (first_text (lines_of text).whole (lines_of text).left)
    (first_text (lines_of is.0).whole (lines_of is.0).left, ap (λ t. first_text (lines_of t).whole (lines_of t).left) is.1 ∙ first_word word is.0 h)

first_front : (text : List ℕ) → (more : List ℕ) × (text ≡ first_text (lines_of text).whole (lines_of text).left ++ more)
first_front text = elim (cut_first text) [
  | inl none ↦ ([], sym (ap (λ (ls : Lines). first_text ls.whole ls.left ++ []) (lines_none text none) ∙ append-nil _))
  | inr cut ↦ (10 ∷ cut.rest, cut.whole ∙ sym (ap (λ (ls : Lines). first_text ls.whole ls.left ++ 10 ∷ cut.rest) (lines_first text cut)))
]

pub begins_no : (word text : List ℕ) → (BeginsWith word text → ⊥) → begins word (lines_of text) ≡ false
begins_no word text never =
    let front = first_front text in
    let first = first_text (lines_of text).whole (lines_of text).left in
    begins_false word first (λ tail e. never (tail ++ front.0, front.1 ∙ ap (λ l. l ++ front.0) e ∙ append_assoc word tail front.0))

-- ---- a line with an id

checked_sound : (form : Form) (digits : List ℕ) (r : Result (List ℕ) FromHexError) → ((bytes : List ℕ) → r ≡ Ok bytes → IsBytes bytes) → (id : List ℕ) → checked_id form digits r ≡ Some id → IsIdOf form id × (digits ≡ encode_lower id)
checked_sound form digits (Err e) ok id is = cc
checked_sound form digits (Ok x) ok id is = elim ((length x == form.id_size) && bytes_eq digits (encode_lower x)) as (λ t. t ≡ ((length x == form.id_size) && bytes_eq digits (encode_lower x)) → cond t (Some x) None ≡ Some id → IsIdOf form id × (digits ≡ encode_lower id)) [
  | true ↦ λ e s.
      let both = and_parts (length x == form.id_size) (bytes_eq digits (encode_lower x)) (sym e) in
      let same = same_Some x id s in
      subst (λ (i : List ℕ). IsIdOf form i × (digits ≡ encode_lower i)) same
      (record { count = eqb-true (length x) form.id_size both.0; bytes = ok x refl }, (bytes_eq-Decides digits (encode_lower x)).0 both.1)
  | false ↦ λ e s. cc
] refl is

id_sound : (form : Form) (word l id : List ℕ) → id_in form word l ≡ Some id → IsIdOf form id × (l ≡ word ++ encode_lower id)
id_sound form word l id is = elim (starts_with nat_eq l word) as (λ t. t ≡ starts_with nat_eq l word → cond t (id_of form (drop (length word) l)) None ≡ Some id → IsIdOf form id × (l ≡ word ++ encode_lower id)) [
  | true ↦ λ e s.
      let found = checked_sound form (drop (length word) l) (decode_of (drop (length word) l)) (λ bytes ok. (decode_of-ok (drop (length word) l) bytes ok).3) id s in
      (found.0, begins_is word l (sym e) ∙ ap (λ d. word ++ d) found.1)
  | false ↦ λ e s. cc
] refl is

pub id_yes : (form : Form) (word id : List ℕ) → IsIdOf form id → id_in form word (word ++ encode_lower id) ≡ Some id
id_yes form word id is =
    ap (λ t. cond t (id_of form (drop (length word) (word ++ encode_lower id))) None) (begins_true word (word ++ encode_lower id) (encode_lower id, refl))
    ∙ ap (id_of form) (drop_at word (encode_lower id) (length word) refl) ∙ ap (checked_id form (encode_lower id)) (decode_of-encode_lower id is.bytes)
    ∙ ap (λ t. cond t (Some id) None) (and_from (length id == form.id_size) (bytes_eq (encode_lower id) (encode_lower id)) (eq-eqb (length id) form.id_size is.count) ((bytes_eq-Decides (encode_lower id) (encode_lower id)).1 refl))

id_none : (form : Form) (word l : List ℕ) → ((id : List ℕ) → IsIdOf form id → l ≢ word ++ encode_lower id) → id_in form word l ≡ None
id_none form word l none = elim (id_in form word l) as (λ r. r ≡ id_in form word l → r ≡ None) [
  | None ↦ λ e. refl
  | Some id ↦ λ e. let found = id_sound form word l id (sym e) in absurd (none id found.0 found.1)
] refl

id_line_end : (word id : List ℕ) → NoLineEnd word → IsBytes id → NoLineEnd (word ++ encode_lower id)
id_line_end word id h is = all_append (λ b. b ≢ 10) word (encode_lower id) h (no_end_hex id is)

abbrev pub at_first : (List ℕ → Option (List ℕ)) → List ℕ → Option (List ℕ × Lines)
at_first find text = in_first find (lines_of text).whole (lines_of text).left

first_is : (find : List ℕ → Option (List ℕ)) (l value rest : List ℕ) → NoLineEnd l → find l ≡ Some value → at_first find (line l ++ rest) ≡ Some (value, lines_of rest)
first_is find l value rest one found =
    ap (λ (ls : Lines). in_first find ls.whole ls.left) (lines_line l rest one) ∙ ap (option_map (λ (v : List ℕ). (v, lines_of rest))) found

first_not : (find : List ℕ → Option (List ℕ)) (text : List ℕ) → ((l rest : List ℕ) → NoLineEnd l → text ≡ line l ++ rest → find l ≡ None) → at_first find text ≡ None
first_not find text none = elim (cut_first text) [
  | inl one ↦ ap (λ (ls : Lines). in_first find ls.whole ls.left) (lines_none text one)
  | inr cut ↦ ap (λ (ls : Lines). in_first find ls.whole ls.left) (lines_first text cut)
      ∙ ap (option_map (λ (v : List ℕ). (v, lines_of cut.rest))) (none cut.first cut.rest cut.one_line (cut.whole ∙ sym (append_assoc cut.first (10 ∷ []) cut.rest)))
]

pub id_first : (form : Form) (word id rest : List ℕ) → NoLineEnd word → IsIdOf form id → at_first (id_in form word) (id_line word id ++ rest) ≡ Some (id, lines_of rest)
id_first form word id rest h is = first_is (id_in form word) (word ++ encode_lower id) id rest (id_line_end word id h is.bytes) (id_yes form word id is)

pub id_not : (form : Form) (word text : List ℕ) → NoIdLine form (id_line word) text → at_first (id_in form word) text ≡ None
id_not form word text none = first_not (id_in form word) text (λ l rest one is. id_none form word l (λ id is_id e. none id rest is_id (is ∙ ap (λ k. line k ++ rest) e)))

-- ---- parent lines

parents_none : (form : Form) (text : List ℕ) → NoIdLine form parent_line text → parents_on form (lines_of text).whole (lines_of text).left ≡ ([], lines_of text)
parents_none form text none = elim (cut_first text) [
  | inl one ↦ ap (λ (ls : Lines). parents_on form ls.whole ls.left) (lines_none text one) ∙ ap (λ (ls : Lines). ([], ls)) (sym (lines_none text one))
  | inr cut ↦
      let here : Lines = record { whole = cut.first ∷ (lines_of cut.rest).whole; left = (lines_of cut.rest).left } in
      ap (λ (ls : Lines). parents_on form ls.whole ls.left) (lines_first text cut)
      ∙ ap (λ r. with_parent r (parents_on form (lines_of cut.rest).whole (lines_of cut.rest).left) here)
      (id_none form (codes "parent ") cut.first (λ id is e. none id cut.rest is (cut.whole ∙ ap (λ k. k ++ 10 ∷ cut.rest) e ∙ sym (append_assoc (codes "parent " ++ encode_lower id) (10 ∷ []) cut.rest))))
      ∙ ap (λ (ls : Lines). ([], ls)) (sym (lines_first text cut))
]

pub parents_all : (form : Form) (parents : List (List ℕ)) (rest : List ℕ) → AllByRecursion (IsIdOf form) parents → NoIdLine form parent_line rest
    → parents_on form (lines_of (flat_map parent_line parents ++ rest)).whole (lines_of (flat_map parent_line parents ++ rest)).left ≡ (parents, lines_of rest)
parents_all form [] rest h none = parents_none form rest none
parents_all form (p ∷ parents) rest h none =
    let behind = flat_map parent_line parents ++ rest in
    let here : Lines = record { whole = (codes "parent " ++ encode_lower p) ∷ (lines_of behind).whole; left = (lines_of behind).left } in
    ap (λ t. parents_on form (lines_of t).whole (lines_of t).left) (append_assoc (parent_line p) (flat_map parent_line parents) rest)
    ∙ ap (λ (ls : Lines). parents_on form ls.whole ls.left) (lines_line (codes "parent " ++ encode_lower p) behind (id_line_end (codes "parent ") p (no_end (codes "parent ") refl) h.0.bytes))
    ∙ ap (λ r. with_parent r (parents_on form (lines_of behind).whole (lines_of behind).left) here) (id_yes form (codes "parent ") p h.0)
    ∙ ap (λ (b : List (List ℕ) × Lines). (p ∷ b.0, b.1)) (parents_all form parents rest h.1 none)

-- ---- the author's and the committer's line

pub text_first : (word value rest : List ℕ) → NoLineEnd word → NoLineEnd value → at_first (text_in word) (line (word ++ value) ++ rest) ≡ Some (value, lines_of rest)
text_first word value rest h one = first_is (text_in word) (word ++ value) value rest (all_append (λ b. b ≢ 10) word value h one)
    (ap (λ t. cond t (Some (drop (length word) (word ++ value))) None) (begins_true word (word ++ value) (value, refl)) ∙ ap (λ (v : List ℕ). Some v) (drop_at word value (length word) refl))

pub text_not : (word text : List ℕ) → NoTextLine (λ value. line (word ++ value)) text → at_first (text_in word) text ≡ None
text_not word text none = first_not (text_in word) text (λ l rest one is.
    ap (λ t. cond t (Some (drop (length word) l)) None) (begins_false word l (λ tail e. none tail rest (lacks_back word tail (subst NoLineEnd e one)) (is ∙ ap (λ k. line k ++ rest) e))))
