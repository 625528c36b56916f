-- Header lines and their parts.
use Rattle.std.proofs.Common.{◌≡◌, ◌≢◌, inl, inr, ℕ, ◌+◌, ◌^◌, ◌<◌, ◌%◌, true, not, eqb, List, [], ◌∷◌, ◌++◌, drop, take, length, get_or, refl, sym, ap, ◌∙◌, subst, arith, append_assoc, length-drop, take-append-drop, decimal, codes}
use Rattle.std.specs.List.{AllPass, list_all}
use Rattle.std.proofs.lemmas.Bool.{false≢true, eq-eqb}
use Rattle.std.proofs.lemmas.Fmt.{decimal_by_steps, decimal_injective}
use Rattle.std.proofs.lemmas.List.{drop_more, length-take-le}
use Rattle.std.proofs.lemmas.List.Elements.{recursion_from_All, All-weaker}
use Rattle.std.proofs.lemmas.List.Sums.{AllPass-from_list_all}
use Rattle.byte_cuts.specs.Cuts.{Lacks}
use Rattle.child_ports.specs.Framed.{IsTypeWord, is_lower_hex_digit, IsObjectFrame, object_frame}
use Rattle.child_ports.specs.FrameHeader.{IsHeader, with_header}
use Rattle.child_ports.proofs.FramedLemmas.{no_end_append}

-- bytes that lack one don't have it
pub no_cut : (end : ℕ) (s a x : List ℕ) → Lacks end s → s ≡ a ++ end ∷ x → ⊥
no_cut end [] [] x h e = cc
no_cut end [] (b ∷ a) x h e = cc
no_cut end (c ∷ s) [] x h e = h.0 (ap (λ l. get_or l 0 0) e)
no_cut end (c ∷ s) (b ∷ a) x h e = no_cut end s a x h.1 (ap (drop 1) e)

-- the first such byte stands at one place
pub cut_same : (end : ℕ) (a x b y : List ℕ) → Lacks end a → Lacks end b → a ++ end ∷ x ≡ b ++ end ∷ y → (a ≡ b) × (x ≡ y)
cut_same end [] x [] y h k e = (refl, ap (drop 1) e)
cut_same end [] x (b ∷ bs) y h k e = absurd (k.0 (sym (ap (λ l. get_or l 0 0) e)))
cut_same end (a ∷ as_) x [] y h k e = absurd (h.0 (ap (λ l. get_or l 0 0) e))
cut_same end (a ∷ as_) x (b ∷ bs) y h k e =
    let same = cut_same end as_ x bs y h.1 k.1 (ap (drop 1) e) in
    let head : a ≡ b = ap (λ l. get_or l 0 0) e in
    (ap (λ l. a ∷ l) same.0 ∙ ap (λ c. c ∷ bs) head, same.1)

lacks_by_test : (end : ℕ) (xs : List ℕ) → list_all (λ b. not (eqb b end)) xs ≡ true → Lacks end xs
lacks_by_test end xs h =
    recursion_from_All (λ b. b ≢ end) xs (All-weaker (λ b. not (eqb b end) ≡ true) (λ b. b ≢ end) (λ b t e. false≢true (ap not (sym (eq-eqb b end e)) ∙ t)) xs
    (AllPass-from_list_all (λ b. not (eqb b end)) xs h))

-- no blank in an id
pub lacks_hex : (xs : List ℕ) → AllPass is_lower_hex_digit xs → Lacks 32 xs
lacks_hex xs h = recursion_from_All (λ b. b ≢ 32) xs (All-weaker (λ b. is_lower_hex_digit b ≡ true) (λ b. b ≢ 32) (λ b t e. false≢true (subst (λ (c : ℕ). is_lower_hex_digit c ≡ true) e t)) xs h)

-- no blank in a word for a kind
pub lacks_word : (word : List ℕ) → IsTypeWord word → Lacks 32 word
lacks_word word (inl is) = subst (Lacks 32) (sym is) (lacks_by_test 32 (codes "commit") refl)
lacks_word word (inr (inl is)) = subst (Lacks 32) (sym is) (lacks_by_test 32 (codes "tree") refl)
lacks_word word (inr (inr (inl is))) = subst (Lacks 32) (sym is) (lacks_by_test 32 (codes "blob") refl)
lacks_word word (inr (inr (inr is))) = subst (Lacks 32) (sym is) (lacks_by_test 32 (codes "tag") refl)

-- no line feed in a number
pub lacks_decimal : (n : ℕ) → n < 10 ^ 18 → Lacks 10 (decimal n)
lacks_decimal n h =
    decimal_by_steps (λ m ds. Lacks 10 ds) (λ m lt. (omega arith, tt)) (λ m ds ge before. no_end_append ds ((48 + m % 10) ∷ []) before (omega arith, tt)) n (omega arith)

pub header_parts : (digits word : List ℕ) (size : ℕ) (rest : List ℕ) → with_header digits word size rest ≡ digits ++ (32 ∷ (word ++ (32 ∷ (decimal size ++ (10 ∷ rest)))))
header_parts digits word size rest = simp append_assoc

-- the three cuts of a header line
pub first_cut : (bytes d r digits word : List ℕ) (size : ℕ) (rest : List ℕ) → Lacks 32 d → bytes ≡ d ++ 32 ∷ r → IsHeader digits word size → bytes ≡ with_header digits word size rest
    → (d ≡ digits) × (r ≡ word ++ (32 ∷ (decimal size ++ (10 ∷ rest))))
first_cut bytes d r digits word size rest lacks cut is whole =
    cut_same 32 d r digits (word ++ (32 ∷ (decimal size ++ (10 ∷ rest)))) lacks (lacks_hex digits is.hex) (sym cut ∙ whole ∙ header_parts digits word size rest)

pub second_cut : (bytes w r digits word : List ℕ) (size : ℕ) (rest : List ℕ) → Lacks 32 w → bytes ≡ w ++ 32 ∷ r → IsHeader digits word size → bytes ≡ word ++ (32 ∷ (decimal size ++ (10 ∷ rest)))
    → (w ≡ word) × (r ≡ decimal size ++ (10 ∷ rest))
second_cut bytes w r digits word size rest lacks cut is whole =
    cut_same 32 w r word (decimal size ++ (10 ∷ rest)) lacks (lacks_word word is.kind) (sym cut ∙ whole)

pub third_cut : (bytes n r digits word : List ℕ) (size : ℕ) (rest : List ℕ) → Lacks 10 n → bytes ≡ n ++ 10 ∷ r → IsHeader digits word size → bytes ≡ decimal size ++ (10 ∷ rest)
    → (n ≡ decimal size) × (r ≡ rest)
third_cut bytes n r digits word size rest lacks cut is whole =
    cut_same 10 n r (decimal size) rest lacks (lacks_decimal size is.small) (sym cut ∙ whole)

-- bytes have one header line
pub header_same : (d w : List ℕ) (n : ℕ) (r digits word : List ℕ) (size : ℕ) (rest : List ℕ) → IsHeader d w n → IsHeader digits word size → with_header d w n r ≡ with_header digits word size rest
    → (n ≡ size) × (r ≡ rest)
header_same d w n r digits word size rest one two same =
    let first = cut_same 32 d (w ++ (32 ∷ (decimal n ++ (10 ∷ r)))) digits (word ++ (32 ∷ (decimal size ++ (10 ∷ rest)))) (lacks_hex d one.hex) (lacks_hex digits two.hex) (sym (header_parts d w n r) ∙ same ∙ header_parts digits word size rest) in
    let second = cut_same 32 w (decimal n ++ (10 ∷ r)) word (decimal size ++ (10 ∷ rest)) (lacks_word w one.kind) (lacks_word word two.kind) first.1 in
    let third = cut_same 10 (decimal n) r (decimal size) rest (lacks_decimal n one.small) (lacks_decimal size two.small) second.1 in
    let small : n < 10 ^ 18 = one.small in
    let small_too : size < 10 ^ 18 = two.small in
    (decimal_injective n size (omega arith) (omega arith) third.0, third.1)

frame_parts : (digits word content : List ℕ) → object_frame digits word content ≡ digits ++ (32 ∷ (word ++ (32 ∷ (decimal (length content) ++ (10 ∷ (content ++ (10 ∷ [])))))))
frame_parts digits word content = simp append_assoc

-- a frame and what follows is a header line and what follows
pub frame_more : (digits word content rest : List ℕ) → object_frame digits word content ++ rest ≡ with_header digits word (length content) (content ++ (10 ∷ rest))
frame_more digits word content rest =
    let more : (digits ++ (32 ∷ (word ++ (32 ∷ (decimal (length content) ++ (10 ∷ (content ++ (10 ∷ [])))))))) ++ rest ≡ digits ++ (32 ∷ (word ++ (32 ∷ (decimal (length content) ++ (10 ∷ (content ++ (10 ∷ rest))))))) = simp append_assoc in
    ap (λ l. l ++ rest) (frame_parts digits word content) ∙ more ∙ sym (header_parts digits word (length content) (content ++ (10 ∷ rest)))

-- a frame of an object begins with the header line of its content's size
pub frame_header : (front rest : List ℕ) → (o : IsObjectFrame front) → front ++ rest ≡ with_header o.digits o.word (length o.content) (o.content ++ (10 ∷ rest))
frame_header front rest o = ap (λ l. l ++ rest) o.whole ∙ frame_more o.digits o.word o.content rest

pub is_header : (front : List ℕ) → (o : IsObjectFrame front) → IsHeader o.digits o.word (length o.content)
is_header front o = record { count = o.count; hex = o.hex; kind = o.kind; small = o.size }

-- what stands behind the header line of an answer that begins with a frame of an object
pub behind : (answer front rest d w : List ℕ) (n : ℕ) (r : List ℕ) → IsHeader d w n → answer ≡ with_header d w n r → answer ≡ front ++ rest → (o : IsObjectFrame front)
    → (n ≡ length o.content) × (r ≡ o.content ++ (10 ∷ rest))
behind answer front rest d w n r is whole split o =
    header_same d w n r o.digits o.word (length o.content) (o.content ++ (10 ∷ rest)) is (is_header front o) (sym whole ∙ split ∙ frame_header front rest o)

-- the answer goes on behind a frame of an object
pub goes_on : (answer d w : List ℕ) (n : ℕ) (r : List ℕ) → IsHeader d w n → answer ≡ with_header d w n r → n + 1 < length r → get_or r n 0 ≡ 10
    → ((front rest : List ℕ) → answer ≡ front ++ rest → IsObjectFrame front → rest ≡ []) → ⊥
goes_on answer d w n r is whole long end stops =
    let inside : n < length r = omega arith in
    let size : length (take n r) ≡ n = length-take-le n r (omega arith) in
    let cut : r ≡ take n r ++ (10 ∷ drop (n + 1) r) = sym (take-append-drop n r) ∙ ap (λ l. take n r ++ l) (drop_more r n 0 inside ∙ ap (λ b. b ∷ drop (n + 1) r) end) in
    let split : answer ≡ object_frame d w (take n r) ++ drop (n + 1) r =
    whole ∙ ap (λ l. with_header d w n l) cut ∙ ap (λ (m : ℕ). with_header d w m (take n r ++ (10 ∷ drop (n + 1) r))) (sym size) ∙ sym (frame_more d w (take n r) (drop (n + 1) r)) in
    let small : n < 10 ^ 18 = is.small in
    let frame : IsObjectFrame (object_frame d w (take n r)) = record { digits = d; word = w; content = take n r; count = is.count; hex = is.hex; kind = is.kind; size = omega arith; whole = refl } in
    let none = stops (object_frame d w (take n r)) (drop (n + 1) r) split frame in
    let more : length (drop (n + 1) r) ≡ 0 = ap length none in
    omega (arith, more, length-drop (n + 1) r)
