-- The longest fronts of lines, by the parts of the lines.
use Rattle.std.proofs.Common.{◌≡◌, ◌⊎◌, inl, inr, ℕ, zero, suc, ◌+◌, ◌-◌, ◌≤◌, ◌<◌, min, max, true, false, cond, nat_eq, List, [], ◌∷◌, ◌++◌, take, drop, length, refl, sym, ap, ◌∙◌, subst, arith, append_assoc, length-append, length-drop, get_or, eq-eqb}
use Rattle.std.proofs.lemmas.Bool.{cases_lt, eqb-true}
use Rattle.std.proofs.lemmas.List.{append-nil, take-append-le, length-take-le, take-append-drop, take-take}
use Rattle.std.proofs.lemmas.List.Sums.{common_prefix_len-le}
use Rattle.object_frames.specs.Frame.{IsLongest}
use Rattle.object_frames.specs.Fronts.{common, go_on}
use Rattle.object_frames.proofs.BufferLemmas.{take_past}
use Rattle.object_frames.proofs.FrontLemmas.{go_on_inside, go_on_past}

-- ---- lists

-- two lists of one length, each before something
pub same_front : (xs ys p q : List ℕ) → length xs ≡ length ys → xs ++ p ≡ ys ++ q → (xs ≡ ys) × (p ≡ q)
same_front [] [] p q len e = (refl, e)
same_front [] (y ∷ ys) p q len e = absurd (omega arith)
same_front (x ∷ xs) [] p q len e = absurd (omega arith)
same_front (x ∷ xs) (y ∷ ys) p q len e =
    let rest = same_front xs ys p q (omega arith) (ap (drop 1) e) in
    let head : x ≡ y = ap (λ l. get_or l 0 0) e in
    (ap (λ z. z ∷ xs) head ∙ ap (λ l. y ∷ l) rest.0, rest.1)

take_split : (b : List ℕ) (k n m : ℕ) → k ≤ length b → m ≡ k + n → take m b ≡ take k b ++ take n (drop k b)
take_split b k n m le is =
    let size : length (take k b) ≡ k = length-take-le k b le in
    ap (take m) (sym (take-append-drop k b)) ∙ take_past (take k b) (drop k b) m n (omega arith)

nothing : (xs : List ℕ) → length xs ≡ 0 → xs ≡ []
nothing [] e = refl
nothing (x ∷ xs) e = absurd (omega arith)

-- ---- one of two kinds of line

module _ (P R : List ℕ → Type 0) (b : List ℕ) (m n : ℕ) (p : IsLongest P b m) (r : IsLongest R b n) where
  left : n ≤ m → IsLongest (λ l. P l ⊎ R l) b m
  left le = record {
    within = p.within;
    begins = (p.begins.0, inl p.begins.1);
    longest = λ k lt fits w. elim w.1 [ inl h ↦ p.longest k lt fits (w.0, h) | inr h ↦ r.longest k (omega arith) fits (w.0, h) ];
  }

  right : m ≤ n → IsLongest (λ l. P l ⊎ R l) b n
  right le = record {
    within = r.within;
    begins = (r.begins.0, inr r.begins.1);
    longest = λ k lt fits w. elim w.1 [ inl h ↦ p.longest k (omega arith) fits (w.0, h) | inr h ↦ r.longest k lt fits (w.0, h) ];
  }

  pub either : IsLongest (λ l. P l ⊎ R l) b (max m n)
  either = elim (cases_lt m n) [
    | inl lt ↦ let is : n ≡ max m n = omega arith in subst (IsLongest (λ l. P l ⊎ R l) b) is (right (omega arith))
    | inr le ↦ let is : m ≡ max m n = omega arith in subst (IsLongest (λ l. P l ⊎ R l) b) is (left le)
  ]

-- lines of the same kind
pub alike : (P R : List ℕ → Type 0) → ((l : List ℕ) → P l → R l) → ((l : List ℕ) → R l → P l) → (b : List ℕ) (n : ℕ) → IsLongest P b n → IsLongest R b n
alike P R to from b n p = record {
  within = p.within;
  begins = (p.begins.0, to _ p.begins.1);
  longest = λ k lt fits w. p.longest k lt fits (w.0, from _ w.1);
}

-- ---- one line

pub at_true : (x y : ℕ) (b w : List ℕ) → nat_eq x y ≡ true → common (x ∷ b) (y ∷ w) ≡ suc (common b w)
at_true x y b w e = let more : 1 + common b w ≡ suc (common b w) = omega arith in ap (λ v. cond v (1 + common b w) 0) e ∙ more

pub at_false : (x y : ℕ) (b w : List ℕ) → nat_eq x y ≡ false → common (x ∷ b) (y ∷ w) ≡ 0
at_false x y b w e = ap (λ v. cond v (1 + common b w) 0) e

take_common : (b w : List ℕ) → take (common b w) b ++ drop (common b w) w ≡ w
take_common [] w = refl
take_common (x ∷ b) [] = refl
take_common (x ∷ b) (y ∷ w) =
    elim (nat_eq x y) as (λ v. v ≡ nat_eq x y → take (common (x ∷ b) (y ∷ w)) (x ∷ b) ++ drop (common (x ∷ b) (y ∷ w)) (y ∷ w) ≡ y ∷ w) [
      | true ↦ λ e.
          ap (λ (n : ℕ). take n (x ∷ b) ++ drop n (y ∷ w)) (at_true x y b w (sym e)) ∙ ap (λ l. x ∷ l) (take_common b w) ∙ ap (λ (z : ℕ). z ∷ w) (eqb-true x y (sym e))
      | false ↦ λ e. ap (λ (n : ℕ). take n (x ∷ b) ++ drop n (y ∷ w)) (at_false x y b w (sym e))
    ] refl

common_most : (b w r : List ℕ) (k : ℕ) → k ≤ length b → take k b ++ r ≡ w → k ≤ common b w
common_most b w r zero le e = omega arith
common_most [] w r (suc k) le e = absurd (omega arith)
common_most (x ∷ b) [] r (suc k) le e = cc
common_most (x ∷ b) (y ∷ w) r (suc k) le e =
    let head : x ≡ y = ap (λ l. get_or l 0 0) e in
    let tail = common_most b w r k (omega arith) (ap (drop 1) e) in
    omega (arith, tail, at_true x y b w (eq-eqb x y head))

pub one_line : (w b : List ℕ) → IsLongest (λ l. l ≡ w) b (common b w)
one_line w b = record {
  within = (common_prefix_len-le nat_eq b w).0;
  begins = (drop (common b w) w, take_common b w);
  longest = λ k lt fits h. let most = common_most b w h.0 k fits h.1 in absurd (omega arith);
}

-- ---- a part and a part

-- a line of two parts
pub record Joined (P Q : List ℕ → Type 0) (l : List ℕ) : Type 0 where
  pub front : List ℕ
  pub back : List ℕ
  pub first : P front
  pub second : Q back
  pub whole : l ≡ front ++ back

module _ (P Q : List ℕ → Type 0) (k : ℕ) (size : (l : List ℕ) → P l → length l ≡ k) (b : List ℕ) where
  past : (n : ℕ) → k ≤ length b → P (take k b) → IsLongest Q (drop k b) n → IsLongest (Joined P Q) b (k + n)
  past n le p q =
      let room = q.within in
      let rest : length (drop k b) ≡ length b - k = length-drop k b in
      record {
        within = omega arith;
        begins = (
          q.begins.0,
          record {
            front = take k b;
            back = take n (drop k b) ++ q.begins.0;
            first = p;
            second = q.begins.1;
            whole = ap (λ f. f ++ q.begins.0) (take_split b k n (k + n) le refl) ∙ append_assoc (take k b) (take n (drop k b)) q.begins.0;
          },
        );
        longest = λ j lt fits h.
            let w = h.1 in
            let i = j - k in
            let split = take_split b k i j le (omega arith) in
            let count : length (take k b) ≡ k = length-take-le k b le in
            let own : length w.front ≡ k = size w.front w.first in
            let same = same_front (take k b) w.front (take i (drop k b) ++ h.0) w.back (omega arith)
            (sym (append_assoc (take k b) (take i (drop k b)) h.0) ∙ ap (λ f. f ++ h.0) (sym split) ∙ w.whole) in
            q.longest i (omega arith) (omega arith) (h.0, subst Q (sym same.1) w.second);
      }

  stop : (n : ℕ) → IsLongest P b n → n < k → (q : List ℕ) → Q q → IsLongest (Joined P Q) b n
  stop n p short q hq = record {
    within = p.within;
    begins = (
      p.begins.0 ++ q,
      record {
        front = take n b ++ p.begins.0;
        back = q;
        first = p.begins.1;
        second = hq;
        whole = sym (append_assoc (take n b) p.begins.0 q);
      },
    );
    longest = λ j lt fits h.
        let w = h.1 in
        let m = min j k in
        let own : length w.front ≡ k = size w.front w.first in
        let count : length (take j b) ≡ j = length-take-le j b fits in
        let mine : take m (take j b ++ h.0) ≡ take m b = take-append-le m (take j b) h.0 (omega arith) ∙ take-take m j b (omega arith) in
        let its : take m (w.front ++ w.back) ≡ take m w.front = take-append-le m w.front w.back (omega arith) in
        let same : take m b ≡ take m w.front = sym mine ∙ ap (take m) w.whole ∙ its in
        p.longest m (omega arith) (omega arith) (drop m w.front, subst P (sym (ap (λ f. f ++ drop m w.front) same ∙ take-append-drop m w.front)) w.first);
  }

  pub joined : (n m : ℕ) → IsLongest P b n → (q : List ℕ) → Q q → (n ≡ k → IsLongest Q (drop k b) m) → IsLongest (Joined P Q) b (go_on n k m)
  joined n m p q hq more =
      elim (cases_lt n k) [
        | inl lt ↦ subst (IsLongest (Joined P Q) b) (sym (go_on_inside n k m lt)) (stop n p lt q hq)
        | inr le ↦
            let whole : length (take n b) + length p.begins.0 ≡ k = sym (length-append (take n b) p.begins.0) ∙ size (take n b ++ p.begins.0) p.begins.1 in
            let fits = p.within in
            let count : length (take n b) ≡ n = length-take-le n b fits in
            let is : n ≡ k = omega arith in
            let none : p.begins.0 ≡ [] = nothing p.begins.0 (omega arith) in
            let line : P (take n b) = subst P (ap (λ r. take n b ++ r) none ∙ append-nil (take n b)) p.begins.1 in
            let sum : k + m ≡ go_on n k m = ap (λ (i : ℕ). i + m) (sym is) ∙ sym (go_on_past n k m le) in
            subst (IsLongest (Joined P Q) b) sum (past m (omega arith) (subst (λ (i : ℕ). P (take i b)) is line) (more is))
      ]
