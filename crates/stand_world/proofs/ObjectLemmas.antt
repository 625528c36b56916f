-- Objects as git answers with them, under names without blanks.
use Rattle.std.proofs.Common.{◌≡◌, inl, inr, ℕ, false, eqb, List, [], ◌∷◌, ◌++◌, length, get_or, refl, sym, ap, ◌∙◌, arith, append_assoc, length-append, decimal, codes}
use Rattle.std.proofs.lemmas.Bool.{false≢true}
use Rattle.std.proofs.lemmas.List.Sums.{AllPass-from_list_all}
use Rattle.hex.specs.Hex.{encode_lower}
use Rattle.byte_cuts.specs.Cuts.{Lacks}
use Rattle.child_ports.specs.Framed.{IsTypeWord, is_lower_hex_digit, IsObjectFrame, IsFrame, IsFramed, object_frame}
use Rattle.child_ports.proofs.HeaderLemmas.{cut_same, lacks_hex, lacks_word, header_parts, frame_more}
use Rattle.object_frames.specs.Id.{IsId}
use Rattle.object_frames.specs.Object.{type_word, object_id}
use Rattle.object_frames.specs.declared.kind.Kind.{Kind}
use Rattle.object_frames.specs.declared.kind.Kind.TheVariants.{Commit, Tree, Blob, Tag}
use Rattle.object_frames.proofs.DigestLemmas.{object_is_id}
use Rattle.object_frames.proofs.IdLemmas.{hex_digits}
use Rattle.stand_world.specs.Objects.{framed}
use Rattle.stand_world.proofs.NumberLemmas.{no_end_decimal, same_small}

-- ---- whole answers

kind_word : (kind : Kind) → IsTypeWord (type_word kind)
kind_word Commit = inl refl
kind_word Tree = inr (inl refl)
kind_word Blob = inr (inr (inl refl))
kind_word Tag = inr (inr (inr refl))

-- no kind begins with m or a
kind_begins : (b : ℕ) (x word y : List ℕ) → IsTypeWord word → eqb b 99 ≡ false → eqb b 116 ≡ false → eqb b 98 ≡ false → b ∷ x ≡ word ++ y → ⊥
kind_begins b x word y (inl is) one two three e = false≢true (sym one ∙ ap (λ l. eqb (get_or l 0 0) 99) (e ∙ ap (λ w. w ++ y) is))
kind_begins b x word y (inr (inl is)) one two three e = false≢true (sym two ∙ ap (λ l. eqb (get_or l 0 0) 116) (e ∙ ap (λ w. w ++ y) is))
kind_begins b x word y (inr (inr (inl is))) one two three e = false≢true (sym three ∙ ap (λ l. eqb (get_or l 0 0) 98) (e ∙ ap (λ w. w ++ y) is))
kind_begins b x word y (inr (inr (inr is))) one two three e = false≢true (sym two ∙ ap (λ l. eqb (get_or l 0 0) 116) (e ∙ ap (λ w. w ++ y) is))

frame_split : (digits word content rest : List ℕ) → object_frame digits word content ++ rest ≡ digits ++ (32 ∷ (word ++ (32 ∷ (decimal (length content) ++ (10 ∷ (content ++ (10 ∷ rest)))))))
frame_split digits word content rest = frame_more digits word content rest ∙ header_parts digits word (length content) (content ++ (10 ∷ rest))

frame_whole : (digits word content : List ℕ) → object_frame digits word content ≡ digits ++ (32 ∷ (word ++ (32 ∷ (decimal (length content) ++ (10 ∷ (content ++ (10 ∷ [])))))))
frame_whole digits word content = simp append_assoc

-- the answer is no line that begins with this name
no_line : (digits word content name : List ℕ) (b : ℕ) (said rest : List ℕ) → Lacks 32 digits → IsTypeWord word → Lacks 32 name → eqb b 99 ≡ false → eqb b 116 ≡ false → eqb b 98 ≡ false
    → object_frame digits word content ≡ (name ++ 32 ∷ b ∷ said) ++ rest → ⊥
no_line digits word content name b said rest lacks kind plain one two three e =
    let whole = sym (append_assoc name (32 ∷ b ∷ said) rest) ∙ sym e ∙ frame_whole digits word content in
    kind_begins b (said ++ rest) word _ kind one two three (cut_same 32 name (b ∷ (said ++ rest)) digits _ plain lacks whole).1

nothing_left : (xs : List ℕ) → length xs ≡ 0 → xs ≡ []
nothing_left [] e = refl
nothing_left (x ∷ xs) e = absurd (omega (arith, e))

-- an object's answer is its one frame
one_frame : (digits word content front rest : List ℕ) → Lacks 32 digits → IsTypeWord word → object_frame digits word content ≡ front ++ rest → IsObjectFrame front → rest ≡ []
one_frame digits word content front rest lacks kind e o =
    let whole = sym (frame_whole digits word content) ∙ e ∙ ap (λ l. l ++ rest) o.whole ∙ frame_split o.digits o.word o.content rest in
    let first = cut_same 32 digits _ o.digits _ lacks (lacks_hex o.digits o.hex) whole in
    let second = cut_same 32 word _ o.word _ (lacks_word word kind) (lacks_word o.word o.kind) first.1 in
    let third = cut_same 10 (decimal (length content)) _ (decimal (length o.content)) _ (no_end_decimal (length content)) (no_end_decimal (length o.content)) second.1 in
    let size = same_small (length content) (length o.content) o.size third.0 in
    nothing_left rest (omega (arith, size, ap length third.1, length-append content (10 ∷ []), length-append o.content (10 ∷ rest)))

object_framed : (digits word content name : List ℕ) → Lacks 32 digits → IsTypeWord word → Lacks 32 name → IsFramed name (object_frame digits word content)
object_framed digits word content name lacks kind plain = λ front rest split frame. by_frame front rest split frame
  where
    by_frame : (front rest : List ℕ) → object_frame digits word content ≡ front ++ rest → IsFrame name front → rest ≡ []
    by_frame front rest split (inl is) = absurd (no_line digits word content name 109 (codes "issing\n") rest lacks kind plain refl refl refl (split ∙ ap (λ l. l ++ rest) is))
    by_frame front rest split (inr (inl is)) = absurd (no_line digits word content name 97 (codes "mbiguous\n") rest lacks kind plain refl refl refl (split ∙ ap (λ l. l ++ rest) is))
    by_frame front rest split (inr (inr o)) = one_frame digits word content front rest lacks kind split o

pub lacks_id : (id : List ℕ) → IsId id → Lacks 32 (encode_lower id)
lacks_id id is = lacks_hex (encode_lower id) (AllPass-from_list_all is_lower_hex_digit (encode_lower id) (hex_digits id is.bytes))

-- git's answer with an object is one whole frame under any name without a blank
pub is_framed : (kind : Kind) (content name : List ℕ) → Lacks 32 name → IsFramed name (framed kind content).frame
unfolding framed
is_framed kind content name plain =
    object_framed (encode_lower (object_id kind content)) (type_word kind) content name (lacks_id (object_id kind content) (object_is_id kind content)) (kind_word kind) plain

pub framed_id : (kind : Kind) (content : List ℕ) → IsId (framed kind content).id
unfolding framed
framed_id kind content = object_is_id kind content
