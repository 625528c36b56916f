-- The longest front of an answer with which a header line begins.
use Rattle.std.proofs.Common.{◌≡◌, ◌⊎◌, inl, inr, ℕ, List, [], ◌∷◌, ◌++◌, take, drop, length, refl, sym, ap, ◌∙◌, subst, codes, decimal, append_assoc}
use Rattle.hex.specs.Hex.{encode_lower}
use Rattle.child_ports.specs.Git.{missing, ambiguous}
use Rattle.child_ports.specs.Framed.{is_lower_hex_digit}
use Rattle.std.specs.List.{prefix_len}
use Rattle.object_frames.specs.declared.kind.Kind.{Kind}
use Rattle.object_frames.specs.declared.kind.Kind.TheVariants.{Commit, Tree, Blob, Tag}
use Rattle.object_frames.specs.Object.{type_word}
use Rattle.object_frames.specs.Frame.{IsHeaderLine, IsObjectLine, IsLongest}
use Rattle.object_frames.specs.Fronts.{common, front_of, object_front, kind_front, word_front, size_front}
use Rattle.object_frames.proofs.IdLemmas.{length-hex, hex_digits}
use Rattle.object_frames.proofs.HeaderLemmas.{after_id, line_parts}
use Rattle.object_frames.proofs.DigitLemmas.{IsHex, hex_longest, decoded, IsSizeLine, zero_line, size_longest, numbered, size_of_number}
use Rattle.object_frames.proofs.LanguageLemmas.{Joined, joined, either, alike, one_line}

-- a word, a size and a line feed
abbrev IsWordLine : List ℕ → List ℕ → Type 0
IsWordLine word = Joined (λ l. l ≡ word) IsSizeLine

abbrev IsKindLine : List ℕ → Type 0
IsKindLine l = IsWordLine (codes " commit ") l ⊎ (IsWordLine (codes " tree ") l ⊎ (IsWordLine (codes " blob ") l ⊎ IsWordLine (codes " tag ") l))

word_longest : (word b : List ℕ) → IsLongest (IsWordLine word) b (word_front b word)
unfolding word_front
word_longest word b =
    joined (λ l. l ≡ word) IsSizeLine (length word) (λ l e. ap length e) b (common b word) (size_front (drop (common b word) b)) (one_line word b) (codes "0\n") zero_line
    (λ is. subst (λ (n : ℕ). IsLongest IsSizeLine (drop n b) (size_front (drop (common b word) b))) is (size_longest (drop (common b word) b)))

kind_longest : (b : List ℕ) → IsLongest IsKindLine b (kind_front b)
unfolding kind_front
kind_longest b =
    either (IsWordLine (codes " commit ")) _ b _ _ (word_longest (codes " commit ") b)
    (either (IsWordLine (codes " tree ")) _ b _ _ (word_longest (codes " tree ") b)
    (either (IsWordLine (codes " blob ")) (IsWordLine (codes " tag ")) b _ _ (word_longest (codes " blob ") b) (word_longest (codes " tag ") b)))

first_kind : IsKindLine (codes " commit 0\n")
first_kind = inl (record { front = codes " commit "; back = codes "0\n"; first = refl; second = zero_line; whole = refl })

digits_longest : (b : List ℕ) → IsLongest (Joined (IsHex 40) IsKindLine) b (object_front b)
unfolding object_front
digits_longest b =
    joined (IsHex 40) IsKindLine 40 (λ l h. h.count) b (prefix_len is_lower_hex_digit (take 40 b)) (kind_front (drop 40 b)) (hex_longest 40 b) (codes " commit 0\n") first_kind
    (λ is. kind_longest (drop 40 b))

-- ---- by digits or by values

of_digits : (kind : Kind) (p l t : List ℕ) → IsHex 40 p → IsSizeLine t → l ≡ p ++ (32 ∷ type_word kind ++ 32 ∷ t) → IsObjectLine l
of_digits kind p l t hex line e =
    let id = decoded 20 p hex.count hex.digits in
    let size = numbered line.ds line.size in
    record {
      id = id.id;
      kind = kind;
      size = size.size;
      is_id = record { count = id.count; bytes = id.bytes };
      small = size.small;
      whole = e ∙ ap (λ t. p ++ (32 ∷ type_word kind ++ 32 ∷ t)) (line.whole ∙ ap (λ ds. ds ++ 10 ∷ []) (sym size.same)) ∙ ap (λ p. p ++ (32 ∷ type_word kind ++ 32 ∷ (decimal size.size ++ 10 ∷ []))) (sym id.same)
          ∙ ap (λ r. encode_lower id.id ++ r) (sym (append_assoc (32 ∷ type_word kind) (32 ∷ decimal size.size) (10 ∷ [])))
          ∙ sym (append_assoc (encode_lower id.id) (after_id kind size.size) (10 ∷ [])) ∙ ap (λ l. l ++ 10 ∷ []) (sym (line_parts id.id kind size.size));
    }

of_word : (kind : Kind) (word p l q : List ℕ) → ((t : List ℕ) → word ++ t ≡ 32 ∷ type_word kind ++ 32 ∷ t) → IsHex 40 p → IsWordLine word q → l ≡ p ++ q → IsObjectLine l
of_word kind word p l q is hex w e =
    of_digits kind p l w.back hex w.second (e ∙ ap (λ q. p ++ q) (w.whole ∙ ap (λ f. f ++ w.back) w.first ∙ is w.back))

of_kind : (p l q : List ℕ) → IsHex 40 p → IsKindLine q → l ≡ p ++ q → IsObjectLine l
of_kind p l q hex (inl w) e = of_word Commit (codes " commit ") p l q (λ t. refl) hex w e
of_kind p l q hex (inr (inl w)) e = of_word Tree (codes " tree ") p l q (λ t. refl) hex w e
of_kind p l q hex (inr (inr (inl w))) e = of_word Blob (codes " blob ") p l q (λ t. refl) hex w e
of_kind p l q hex (inr (inr (inr w))) e = of_word Tag (codes " tag ") p l q (λ t. refl) hex w e

kind_line : (kind : Kind) (t : List ℕ) → IsSizeLine t → IsKindLine (32 ∷ type_word kind ++ 32 ∷ t)
kind_line Commit t h = inl (record { front = codes " commit "; back = t; first = refl; second = h; whole = refl })
kind_line Tree t h = inr (inl (record { front = codes " tree "; back = t; first = refl; second = h; whole = refl }))
kind_line Blob t h = inr (inr (inl (record { front = codes " blob "; back = t; first = refl; second = h; whole = refl })))
kind_line Tag t h = inr (inr (inr (record { front = codes " tag "; back = t; first = refl; second = h; whole = refl })))

by_digits : (l : List ℕ) → IsObjectLine l → Joined (IsHex 40) IsKindLine l
by_digits l o = record {
  front = encode_lower o.id;
  back = 32 ∷ type_word o.kind ++ 32 ∷ (decimal o.size ++ 10 ∷ []);
  first = record { count = length-hex o.id o.is_id; digits = hex_digits o.id o.is_id.bytes };
  second = kind_line o.kind (decimal o.size ++ 10 ∷ []) (record { ds = decimal o.size; size = size_of_number o.size o.small; whole = refl });
  whole = o.whole ∙ ap (λ l. l ++ 10 ∷ []) (line_parts o.id o.kind o.size) ∙ append_assoc (encode_lower o.id) (after_id o.kind o.size) (10 ∷ [])
      ∙ ap (λ r. encode_lower o.id ++ r) (append_assoc (32 ∷ type_word o.kind) (32 ∷ decimal o.size) (10 ∷ []));
}

object_longest : (b : List ℕ) → IsLongest IsObjectLine b (object_front b)
object_longest b = alike (Joined (IsHex 40) IsKindLine) IsObjectLine (λ l h. of_kind h.front l h.back h.first h.second h.whole) by_digits b (object_front b) (digits_longest b)

-- the greatest of the common fronts is the longest with which a header line begins
pub front_longest : (name text : List ℕ) → IsLongest (IsHeaderLine name) text (front_of name text)
unfolding front_of
front_longest name text =
    either (λ l. l ≡ missing name) _ text _ _ (one_line (missing name) text) (either (λ l. l ≡ ambiguous name) IsObjectLine text _ _ (one_line (ambiguous name) text) (object_longest text))
