-- The list of a set, while it grows by what each channel mentions.
use Rattle.std.proofs.Common.{◌≡◌, ℕ, ◌<◌, ◌≤◌, List, [], ◌∷◌, ◌++◌, length, length-append, refl, sym, ap, subst, ◌∙◌, append_assoc, arith}
use Rattle.std.specs.Prelude.{flat_map}
use Rattle.std.proofs.lemmas.Grind.{flat_map-append}
use Rattle.std.proofs.lemmas.List.{append-nil}
use Rattle.channel_file.specs.declared.channel.Channel.{Channel}
use Rattle.channel_deps.specs.Members.{with_mentions}
use Rattle.channel_deps.proofs.MemberLemmas.{mentions_after, only_append, no_shorter}

-- ---- two cuts of one list

same_next : (before : List Channel) (c d : Channel) (l r : List Channel) → before ++ c ∷ l ≡ before ++ d ∷ r → c ≡ d
same_next [] c d l r is = cc
same_next (b ∷ before) c d l r is = let rest : before ++ c ∷ l ≡ before ++ d ∷ r = cc in same_next before c d l r rest

longer_front : (xs : List Channel) (c : Channel) (ys zs ws : List Channel) → xs ++ c ∷ ys ≡ zs ++ ws → length xs < length zs → (rest : List Channel) × (zs ≡ xs ++ c ∷ rest)
longer_front xs c ys [] ws is low = absurd (omega (arith, low))
longer_front [] c ys (z ∷ zs) ws is low = let same : z ≡ c = cc in (zs, ap (λ (v : Channel). v ∷ zs) same)
longer_front (x ∷ xs) c ys (z ∷ zs) ws is low =
    let first : z ≡ x = cc in
    let rest : xs ++ c ∷ ys ≡ zs ++ ws = cc in
    let found = longer_front xs c ys zs ws rest (omega (arith, low)) in
    (found.0, ap (λ (v : Channel). v ∷ zs) first ∙ ap (λ (l : List Channel). x ∷ l) found.1)

no_end : (before : List Channel) (c : Channel) (left list : List Channel) → list ≡ before ++ c ∷ left → list ≡ before ++ [] → ⊥
no_end before c left list is also = absurd (omega (arith, ap length is, ap length also, length-append before (c ∷ left), length-append before []))

-- ---- the list

-- the list, once these channels were taken, each of which mentions these
abbrev pub reached : List Channel → (Channel → List Channel) → List Channel → List Channel
reached given mentions channels = with_mentions given (flat_map mentions channels)

-- The list is these channels and those that are left. Each was mentioned by one before it, or given.
pub record IsReached (given : List Channel) (mentions : Channel → List Channel) (channels left : List Channel) : Type 0 where
  pub list : reached given mentions channels ≡ channels ++ left
  pub few : length (channels ++ left) ≤ 256
  pub known : (before after : List Channel) (c : Channel) → channels ≡ before ++ c ∷ after → length before < length (reached given mentions before)

module _ (given : List Channel) (mentions : Channel → List Channel) where
  pub reached_more : (a b : List Channel) → reached given mentions (a ++ b) ≡ with_mentions (reached given mentions a) (flat_map mentions b)
  reached_more a b = ap (λ (l : List Channel). with_mentions given l) (flat_map-append mentions a b) ∙ mentions_after given (flat_map mentions a) (flat_map mentions b)

  pub reached_longer : (a b : List Channel) → length (reached given mentions a) ≤ length (reached given mentions (a ++ b))
  reached_longer a b = omega (arith, ap length (reached_more a b), no_shorter (reached given mentions a) (flat_map mentions b))

  -- once those before a channel were taken, it is the next
  pub next_is : (before : List Channel) (c : Channel) (after left : List Channel) → IsReached given mentions (before ++ c ∷ after) left → (rest : List Channel) × (reached given mentions before ≡ before ++ c ∷ rest)
  next_is before c after left is =
      let more = only_append (reached given mentions before) (flat_map mentions (c ∷ after)) in
      let whole : before ++ c ∷ (after ++ left) ≡ reached given mentions before ++ more.0 =
      sym (append_assoc before (c ∷ after) left) ∙ sym is.list ∙ reached_more before (c ∷ after) ∙ more.1 in
      longer_front before c (after ++ left) (reached given mentions before) more.0 whole (is.known before after c refl)

  pub next_few : (before : List Channel) (c : Channel) (after left : List Channel) → IsReached given mentions (before ++ c ∷ after) left → length (reached given mentions before) ≤ 256
  next_few before c after left is = let few = is.few in omega (arith, few, reached_longer before (c ∷ after), ap length is.list)

  -- ---- two ways along the list

  at_end : (before : List Channel) (left : List Channel) → IsReached given mentions (before ++ []) left → reached given mentions before ≡ before ++ left
  at_end before left is = subst (λ (l : List Channel). reached given mentions l ≡ l ++ left) (append-nil before) is.list

  -- a channel that is next on the one is among those of the other, which is whole
  pub on_both : (before : List Channel) (c : Channel) (left rest whole : List Channel) → IsReached given mentions (before ++ rest) (c ∷ left) → IsReached given mentions (before ++ whole) []
      → (after : List Channel) × (before ++ whole ≡ (before ++ rest) ++ c ∷ after)
  on_both before c left [] [] some all = absurd (no_end before c left (reached given mentions before) (at_end before (c ∷ left) some) (at_end before [] all))
  on_both before c left [] (d ∷ whole) some all =
      let next = next_is before d whole [] all in
      let same : d ≡ c = same_next before d c next.0 left (sym next.1 ∙ at_end before (c ∷ left) some) in
      (whole, ap (λ (v : Channel). before ++ v ∷ whole) same ∙ ap (λ (l : List Channel). l ++ c ∷ whole) (sym (append-nil before)))
  on_both before c left (d ∷ rest) [] some all =
      let next = next_is before d rest (c ∷ left) some in
      absurd (no_end before d next.0 (reached given mentions before) next.1 (at_end before [] all))
  on_both before c left (d ∷ rest) (e ∷ whole) some all =
      let one = next_is before d rest (c ∷ left) some in
      let other = next_is before e whole [] all in
      let same : e ≡ d = same_next before e d other.0 one.0 (sym other.1 ∙ one.1) in
      let behind : before ++ e ∷ whole ≡ (before ++ d ∷ []) ++ whole = ap (λ (v : Channel). before ++ v ∷ whole) same ∙ sym (append_assoc before (d ∷ []) whole) in
      let found = on_both (before ++ d ∷ []) c left rest whole
      (subst (λ (l : List Channel). IsReached given mentions l (c ∷ left)) (sym (append_assoc before (d ∷ []) rest)) some)
      (subst (λ (l : List Channel). IsReached given mentions l []) behind all) in
      (found.0, behind ∙ found.1 ∙ ap (λ (l : List Channel). l ++ c ∷ found.0) (append_assoc before (d ∷ []) rest))

  -- a whole way has room for what each of its channels mentions
  pub room : (before : List Channel) (c : Channel) (after : List Channel) → IsReached given mentions (before ++ c ∷ after) [] → length (reached given mentions (before ++ c ∷ [])) ≤ 256
  room before c after is =
      let whole : reached given mentions ((before ++ c ∷ []) ++ after) ≡ (before ++ c ∷ after) ++ [] = ap (reached given mentions) (append_assoc before (c ∷ []) after) ∙ is.list in
      let few = is.few in
      omega (arith, few, reached_longer (before ++ c ∷ []) after, ap length whole)
