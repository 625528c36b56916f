-- Writing the signature as the last header.
use Rattle.std.proofs.Common.{◌≡◌, ◌≢◌, ℕ, suc, ◌-◌, ◌/◌, ◌%◌, ◌≤◌, ◌<◌, true, false, List, [], ◌∷◌, ◌++◌, drop, length, get_or, refl, sym, ap, ◌∙◌, subst, arith, append_assoc, length-append, codes}
use Rattle.std.specs.Prelude.{slice_index, nat_eq}
use Rattle.std.specs.List.{AllByRecursion, flat_map}
use Rattle.std.proofs.lemmas.Bool.{false≢true}
use Rattle.std.proofs.lemmas.List.{append-nil}
use Rattle.std.proofs.lemmas.List.Concat.{flat_map-append}
use Rattle.std.proofs.lemmas.List.Sums.{AllPass-from_list_all}
use Rattle.hex.specs.Hex.{encode_lower, encode_with, lower_digits, IsBytes, is_hex_digit}
use Rattle.commit_objects.specs.Form.{sha1_form}
use Rattle.commit_objects.specs.Lines.{NoLineEnd, IsIdOf, line, tree_line, parent_line, author_line, committer_line, continued, Header, IsHeader, header_lines}
use Rattle.commit_objects.specs.Commit.{Parts, heading, AreParts}
use Rattle.commit_objects.specs.Writing.{IsFullLine, AreFullLines}
use Rattle.commit_objects.proofs.LineLemmas.{all_append, has_end}

-- the first end of a line is one place
pub same_line : (xs ys p q : List ℕ) → NoLineEnd xs → NoLineEnd ys → xs ++ 10 ∷ p ≡ ys ++ 10 ∷ q → (xs ≡ ys) × (p ≡ q)
same_line [] [] p q h k e = (refl, ap (drop 1) e)
same_line [] (y ∷ ys) p q h k e = absurd (k.0 (ap (λ l. get_or l 0 0) (sym e)))
same_line (x ∷ xs) [] p q h k e = absurd (h.0 (ap (λ l. get_or l 0 0) e))
same_line (x ∷ xs) (y ∷ ys) p q h k e =
    let rest = same_line xs ys p q h.1 k.1 (ap (drop 1) e) in
    let head : x ≡ y = ap (λ l. get_or l 0 0) e in
    (ap (λ z. z ∷ xs) head ∙ ap (λ l. y ∷ l) rest.0, rest.1)

-- ---- the search for the empty line

-- the rest has the same empty line
abbrev pub KeepsPlace : List ℕ → List ℕ → Type 0
KeepsPlace content rest = (front message : List ℕ) → AreFullLines front → content ≡ front ++ 10 ∷ message → (left : List ℕ) × AreFullLines left × (rest ≡ left ++ 10 ∷ message)

pub keeps_all : (content : List ℕ) → KeepsPlace content content
keeps_all content = λ front message full is. (front, full, is)

step_lines : (lines : List (List ℕ)) (text next message : List ℕ) → AllByRecursion IsFullLine lines → NoLineEnd text → text ≢ [] → text ++ 10 ∷ next ≡ flat_map line lines ++ 10 ∷ message
    → (left : List ℕ) × AreFullLines left × (next ≡ left ++ 10 ∷ message)
step_lines [] text next message h one some e = absurd (some (same_line text [] next message one tt e).0)
step_lines (l ∷ lines) text next message h one some e =
    let whole = e ∙ ap (λ xs. xs ++ 10 ∷ message) (append_assoc l (10 ∷ []) (flat_map line lines)) ∙ append_assoc l (10 ∷ flat_map line lines) (10 ∷ message) in
    (flat_map line lines, (lines, h.1, refl), (same_line text l next (flat_map line lines ++ 10 ∷ message) one h.0.one_line whole).1)

pub keeps_more : (content rest text next : List ℕ) → KeepsPlace content rest → rest ≡ text ++ 10 ∷ next → NoLineEnd text → text ≢ [] → KeepsPlace content next
keeps_more content rest text next keeps cut one some = λ front message full is.
    let was = keeps front message full is in
    step_lines was.1.0 text next message was.1.1 one some (sym cut ∙ was.2 ∙ ap (λ l. l ++ 10 ∷ message) was.1.2)

empty_left : (lines : List (List ℕ)) (next message : List ℕ) → AllByRecursion IsFullLine lines → 10 ∷ next ≡ flat_map line lines ++ 10 ∷ message → length (flat_map line lines) ≡ 0
empty_left [] next message h e = refl
empty_left (l ∷ lines) next message h e =
    let whole = e ∙ ap (λ xs. xs ++ 10 ∷ message) (append_assoc l (10 ∷ []) (flat_map line lines)) ∙ append_assoc l (10 ∷ flat_map line lines) (10 ∷ message) in
    absurd (h.0.not_empty (sym (same_line [] l next (flat_map line lines ++ 10 ∷ message) tt h.0.one_line whole).0))

pub place_here : (content rest next : List ℕ) → KeepsPlace content rest → rest ≡ 10 ∷ next → length rest ≤ length content → (front message : List ℕ) → AreFullLines front → content ≡ front ++ 10 ∷ message
    → length content - length rest ≡ length front
place_here content rest next keeps cut within front message full is =
    let was = keeps front message full is in
    let none = empty_left was.1.0 next message was.1.1 (sym cut ∙ was.2 ∙ ap (λ l. l ++ 10 ∷ message) was.1.2) in
    omega (arith, none, ap length was.1.2, ap length was.2, length-append was.0 (10 ∷ message), ap length is, length-append front (10 ∷ message))

pub no_place : (content rest : List ℕ) → KeepsPlace content rest → NoLineEnd rest → (front message : List ℕ) → AreFullLines front → content ≡ front ++ 10 ∷ message → ⊥
no_place content rest keeps none front message full is =
    let was = keeps front message full is in has_end was.0 message (subst NoLineEnd was.2 none)

-- ---- the lines before the empty one

full_append : (xs ys : List ℕ) → AreFullLines xs → AreFullLines ys → AreFullLines (xs ++ ys)
full_append xs ys h k =
    (h.0 ++ k.0, all_append IsFullLine h.0 k.0 h.1 k.1, ap (λ l. l ++ ys) h.2 ∙ ap (λ l. flat_map line h.0 ++ l) k.2 ∙ sym (flat_map-append line h.0 k.0))

full_line : (text : List ℕ) → NoLineEnd text → text ≢ [] → AreFullLines (line text)
full_line text one some = (text ∷ [], (record { one_line = one; not_empty = some }, tt), sym (append-nil (line text)))

glyph : (k : ℕ) → k < 16 → is_hex_digit (slice_index lower_digits k) ≡ true
glyph k lt = AllPass-from_list_all is_hex_digit lower_digits refl k 0 lt

glyph_no_end : (c : ℕ) → is_hex_digit c ≡ true → c ≢ 10
glyph_no_end c h e = false≢true (ap is_hex_digit (sym e) ∙ h)

hex_no_end : (xs : List ℕ) → IsBytes xs → NoLineEnd (encode_lower xs)
unfolding encode_with
hex_no_end [] h = tt
hex_no_end (x ∷ xs) h =
    let byte = h 0 in
    (glyph_no_end _ (glyph (x / 16) (omega arith)), (glyph_no_end _ (glyph (x % 16) (omega arith)), hex_no_end xs (λ i. h (suc i))))

pub ten : (c : ℕ) → nat_eq c 10 ≡ false → c ≢ 10
ten c h e = false≢true (sym h ∙ ap (λ x. nat_eq x 10) e)

tree_full : (id : List ℕ) → IsIdOf sha1_form id → AreFullLines (tree_line id)
tree_full id is = full_line (codes "tree " ++ encode_lower id) (ten 116 refl, (ten 114 refl, (ten 101 refl, (ten 101 refl, (ten 32 refl, hex_no_end id is.bytes))))) (λ e. cc)

parent_full : (id : List ℕ) → IsIdOf sha1_form id → AreFullLines (parent_line id)
parent_full id is = full_line (codes "parent " ++ encode_lower id) (ten 112 refl, (ten 97 refl, (ten 114 refl, (ten 101 refl, (ten 110 refl, (ten 116 refl, (ten 32 refl, hex_no_end id is.bytes))))))) (λ e. cc)

parents_full : (ids : List (List ℕ)) → AllByRecursion (IsIdOf sha1_form) ids → AreFullLines (flat_map parent_line ids)
parents_full [] h = ([], tt, refl)
parents_full (id ∷ ids) h = full_append (parent_line id) (flat_map parent_line ids) (parent_full id h.0) (parents_full ids h.1)

author_full : (text : List ℕ) → NoLineEnd text → AreFullLines (author_line text)
author_full text one = full_line (codes "author " ++ text) (ten 97 refl, (ten 117 refl, (ten 116 refl, (ten 104 refl, (ten 111 refl, (ten 114 refl, (ten 32 refl, one))))))) (λ e. cc)

committer_full : (text : List ℕ) → NoLineEnd text → AreFullLines (committer_line text)
committer_full text one = full_line (codes "committer " ++ text)
    (ten 99 refl, (ten 111 refl, (ten 109 refl, (ten 109 refl, (ten 105 refl, (ten 116 refl, (ten 116 refl, (ten 101 refl, (ten 114 refl, (ten 32 refl, one)))))))))) (λ e. cc)

more_full : (lines : List (List ℕ)) → AllByRecursion NoLineEnd lines → AreFullLines (flat_map continued lines)
more_full [] h = ([], tt, refl)
more_full (l ∷ lines) h = full_append (continued l) (flat_map continued lines) (full_line (32 ∷ l) (ten 32 refl, h.0) (λ e. cc)) (more_full lines h.1)

headers_full : (headers : List Header) → AllByRecursion IsHeader headers → AreFullLines (flat_map header_lines headers)
headers_full [] h = ([], tt, refl)
headers_full (x ∷ headers) h = full_append (header_lines x) (flat_map header_lines headers) (full_append (line x.first) (flat_map continued x.more) (full_line x.first h.0.first h.0.not_empty) (more_full x.more h.0.more)) (headers_full headers h.1)

pub front_full : (p : Parts) → AreParts sha1_form p → AreFullLines (heading p ++ flat_map header_lines p.headers)
front_full p fit =
    full_append (heading p) (flat_map header_lines p.headers)
    (full_append (tree_line p.tree ++ flat_map parent_line p.parents ++ author_line p.author) (committer_line p.committer)
    (full_append (tree_line p.tree ++ flat_map parent_line p.parents) (author_line p.author)
    (full_append (tree_line p.tree) (flat_map parent_line p.parents) (tree_full p.tree fit.tree) (parents_full p.parents fit.parents)) (author_full p.author fit.author)) (committer_full p.committer fit.committer))
    (headers_full p.headers fit.headers.each)
