-- The walk over the entries of a content.
use Rattle.std.proofs.Common.{◌≡◌, ◌≢◌, ℕ, zero, suc, ◌+◌, ◌≤◌, Bool, true, false, cond, Option, Some, None, Ok, Err, List, [], ◌∷◌, ◌++◌, length, refl, sym, ap, ◌∙◌, subst, arith, append_assoc, append-nil, length-append}
use Rattle.std.specs.List.{AllByRecursion}
use Rattle.std.proofs.lemmas.List.{flat_map_more}
use Rattle.tree_entries.specs.declared.fail.TreeFail.{TreeFail}
use Rattle.tree_entries.specs.declared.fail.TreeFail.TheVariants.{Twice}
use Rattle.tree_entries.specs.Tree.{TreeEntry, IsEntry, IsTree, entry_bytes, tree_bytes}
use Rattle.tree_entries.specs.Asked.{Once}
use Rattle.tree_entries.specs.Reading.{front_of, onward, walk, first_again, unless, answer_of}
use Rattle.tree_entries.proofs.FrontLemmas.{front_read}

-- ---- the entries

step : (size n at : ℕ) (content rest : List ℕ) (entry : TreeEntry) → length content ≤ n → content ≢ [] → front_of size at content ≡ Ok (entry, rest)
    → (m : ℕ) × (n ≡ suc m) × (walk size n at content ≡ (entry ∷ (walk size m (at + length (entry_bytes entry)) rest).0, (walk size m (at + length (entry_bytes entry)) rest).1))
unfolding walk
step size n at [] rest entry fits some front = absurd (some refl)
step size zero at (b ∷ content) rest entry fits some front = absurd (omega arith)
step size (suc n) at (b ∷ content) rest entry fits some front =
    (n, refl, ap (λ r. onward r (λ (e : TreeEntry) (next : List ℕ). walk size n (at + length (entry_bytes e)) next)) front)

pub walk_stops : (size n at : ℕ) (content : List ℕ) (fault : TreeFail) → length content ≤ n → content ≢ [] → front_of size at content ≡ Err fault → walk size n at content ≡ ([], Some fault)
unfolding walk
walk_stops size n at [] fault fits some front = absurd (some refl)
walk_stops size zero at (b ∷ content) fault fits some front = absurd (omega arith)
walk_stops size (suc n) at (b ∷ content) fault fits some front = ap (λ r. onward r (λ (e : TreeEntry) (next : List ℕ). walk size n (at + length (entry_bytes e)) next)) front

pub walk_ends : (size n at : ℕ) → walk size n at [] ≡ ([], None)
unfolding walk
walk_ends size zero at = refl
walk_ends size (suc n) at = refl

-- the walk goes over entries
pub record WalksOver (size n at : ℕ) (es : List TreeEntry) (rest : List ℕ) : Type 0 where
  pub left : ℕ
  pub fits : length rest ≤ left
  pub over : walk size n at (tree_bytes es ++ rest) ≡ (es ++ (walk size left (at + length (tree_bytes es)) rest).0, (walk size left (at + length (tree_bytes es)) rest).1)

entry_some : (e : TreeEntry) (rest : List ℕ) → entry_bytes e ++ rest ≢ []
entry_some e rest h = not_zero (ap length h)
  where
    not_zero : length (entry_bytes e ++ rest) ≡ 0 → ⊥
    not_zero k = absurd (omega (arith, k, length-append (entry_bytes e) rest, length-append e.digits (32 ∷ (e.name ++ 0 ∷ e.id))))

pub walk_over : (size n at : ℕ) (es : List TreeEntry) (rest : List ℕ) → AllByRecursion (IsEntry size) es → length (tree_bytes es ++ rest) ≤ n → WalksOver size n at es rest
walk_over size n at [] rest h fits = record {
  left = n;
  fits = fits;
  over = ap (λ k. ((walk size n k rest).0, (walk size n k rest).1)) (sym at_zero);
}
  where
    at_zero : at + 0 ≡ at
    at_zero = omega arith
walk_over size n at (e ∷ es) rest h fits =
    let text = tree_bytes es ++ rest in
    let whole : tree_bytes (e ∷ es) ++ rest ≡ entry_bytes e ++ text = append_assoc (entry_bytes e) (tree_bytes es) rest in
    let long : length (entry_bytes e ++ text) ≤ n = subst (λ l. length l ≤ n) whole fits in
    let first = step size n at (entry_bytes e ++ text) text e long (entry_some e text) (front_read size at e text h.0) in
    let next = walk_over size first.0 (at + length (entry_bytes e)) es rest h.1 (omega (arith, length-append (entry_bytes e) text, long, first.1, length-append e.digits (32 ∷ (e.name ++ 0 ∷ e.id)))) in
    let place : at + length (entry_bytes e) + length (tree_bytes es) ≡ at + length (tree_bytes (e ∷ es)) = omega (arith, length-append (entry_bytes e) (tree_bytes es)) in
    record {
      left = next.left;
      fits = next.fits;
      over = ap (walk size n at) whole ∙ first.2 ∙ ap (λ (w : List TreeEntry × Option TreeFail). (e ∷ w.0, w.1)) next.over
          ∙ ap (λ k. (e ∷ es ++ (walk size next.left k rest).0, (walk size next.left k rest).1)) place;
    }

-- ---- entries that come again

module _ (again : List TreeEntry → TreeEntry → Bool) where
  pub again_over : (before es more : List TreeEntry) → first_again again before es ≡ None → first_again again before (es ++ more) ≡ first_again again (before ++ es) more
  again_over before [] more h = ap (λ l. first_again again l more) (sym (append-nil before))
  again_over before (e ∷ es) more h = elim (again before e) as (λ t. cond t (Some (Twice (length (tree_bytes before)))) (first_again again (before ++ e ∷ []) es) ≡ None
      → cond t (Some (Twice (length (tree_bytes before)))) (first_again again (before ++ e ∷ []) (es ++ more)) ≡ first_again again (before ++ e ∷ es) more) [
        | true ↦ λ k. some_none (Twice (length (tree_bytes before))) k
        | false ↦ λ k. again_over (before ++ e ∷ []) es more k ∙ ap (λ l. first_again again l more) (append_assoc before (e ∷ []) es)
      ] h
    where
      some_none : {A : Type 0} {P : Type 0} (x : A) → Some x ≡ None → P
      some_none x e = cc

  pub none_again : (before es : List TreeEntry) → first_again again before es ≡ None → (b a : List TreeEntry) (e : TreeEntry) → es ≡ b ++ e ∷ a → again (before ++ b) e ≡ false
  none_again before es h b a e is = at_place (first_again again (before ++ b) (e ∷ a)) (again (before ++ b) e) (Twice (length (tree_bytes (before ++ b)))) (first_again again (before ++ b ++ e ∷ []) a) refl (sym (split before b (subst (λ l. first_again again before l ≡ None) is h)) ∙ subst (λ l. first_again again before l ≡ None) is h)
    where
      at_place : (r : Option TreeFail) (t : Bool) (x : TreeFail) (y : Option TreeFail) → r ≡ cond t (Some x) y → r ≡ None → t ≡ false
      at_place r true x y e n = let k : Some x ≡ None = sym e ∙ n in cc
      at_place r false x y e n = refl

      split : (before b : List TreeEntry) → first_again again before (b ++ e ∷ a) ≡ None → first_again again before (b ++ e ∷ a) ≡ first_again again (before ++ b) (e ∷ a)
      split before b k = again_over before b (e ∷ a) (front_none before b k)
        where
          front_none : (before b : List TreeEntry) → first_again again before (b ++ e ∷ a) ≡ None → first_again again before b ≡ None
          front_none before [] k = refl
          front_none before (x ∷ b) k = elim (again before x) as (λ t. cond t (Some (Twice (length (tree_bytes before)))) (first_again again (before ++ x ∷ []) (b ++ e ∷ a)) ≡ None
              → cond t (Some (Twice (length (tree_bytes before)))) (first_again again (before ++ x ∷ []) b) ≡ None) [
                | true ↦ λ j. let j2 : Some (Twice (length (tree_bytes before))) ≡ None = j in cc
                | false ↦ λ j. front_none (before ++ x ∷ []) b j
              ] k

  pub once_none : (before es : List TreeEntry) → ((b a : List TreeEntry) (e : TreeEntry) → es ≡ b ++ e ∷ a → again (before ++ b) e ≡ false) → first_again again before es ≡ None
  once_none before [] h = refl
  once_none before (e ∷ es) h =
      ap (λ t. cond t (Some (Twice (length (tree_bytes before)))) (first_again again (before ++ e ∷ []) es)) (ap (λ l. again l e) (sym (append-nil before)) ∙ h [] es e refl)
      ∙ once_none (before ++ e ∷ []) es (λ b a x is. ap (λ l. again l x) (append_assoc before (e ∷ []) b) ∙ h (e ∷ b) a x (ap (λ l. e ∷ l) is))

  pub once_all : (es : List TreeEntry) → first_again again [] es ≡ None → Once again es
  once_all es h = λ before after entry is. none_again [] es h before after entry is

  pub all_once : (es : List TreeEntry) → Once again es → first_again again [] es ≡ None
  all_once es h = once_none [] es h

  -- ---- the answer

  module _ {A : Type 0} (answer : List TreeEntry → A) (size : ℕ) (content : List ℕ) where
    answers : (es : List TreeEntry) (fault : Option TreeFail) → walk size (length content) 0 content ≡ (es, fault) → answer_of again answer size content ≡ unless (first_again again [] es) (unless fault (Ok (answer es)))
    unfolding answer_of
    answers es fault e = ap (λ (w : List TreeEntry × Option TreeFail). unless (first_again again [] w.0) (unless w.1 (Ok (answer w.0)))) e

    walked : (es : List TreeEntry) (rest : List ℕ) → AllByRecursion (IsEntry size) es → content ≡ tree_bytes es ++ rest → WalksOver size (length content) 0 es rest
    walked es rest h whole = walk_over size (length content) 0 es rest h (omega (arith, ap length whole))

    pub answer_is : (es : List TreeEntry) → IsTree size content es → first_again again [] es ≡ None → answer_of again answer size content ≡ Ok (answer es)
    answer_is es tree once =
        let whole : content ≡ tree_bytes es ++ [] = tree.whole ∙ sym (append-nil (tree_bytes es)) in
        let w = walked es [] tree.each whole in
        let over = ap (walk size (length content) 0) whole ∙ w.over ∙ ap (λ (k : List TreeEntry × Option TreeFail). (es ++ k.0, k.1)) (walk_ends size w.left (0 + length (tree_bytes es))) in
        answers (es ++ []) None over ∙ ap (λ l. unless (first_again again [] l) (Ok (answer l))) (append-nil es) ∙ ap (λ f. unless f (Ok (answer es))) once

    pub answer_stops : (es : List TreeEntry) (rest : List ℕ) (fault : TreeFail) → AllByRecursion (IsEntry size) es → content ≡ tree_bytes es ++ rest → first_again again [] es ≡ None → rest ≢ []
        → front_of size (length (tree_bytes es)) rest ≡ Err fault → answer_of again answer size content ≡ Err fault
    answer_stops es rest fault h whole once some front =
        let w = walked es rest h whole in
        let here : 0 + length (tree_bytes es) ≡ length (tree_bytes es) = omega arith in
        let stops = walk_stops size w.left (0 + length (tree_bytes es)) rest fault w.fits some (ap (λ k. front_of size k rest) here ∙ front) in
        let over = ap (walk size (length content) 0) whole ∙ w.over ∙ ap (λ (k : List TreeEntry × Option TreeFail). (es ++ k.0, k.1)) stops in
        answers (es ++ []) (Some fault) over ∙ ap (λ l. unless (first_again again [] l) (Err fault)) (append-nil es) ∙ ap (λ f. unless f (Err fault)) once

    pub answer_twice : (es : List TreeEntry) (e : TreeEntry) (rest : List ℕ) → AllByRecursion (IsEntry size) es → IsEntry size e → content ≡ tree_bytes es ++ (entry_bytes e ++ rest) → first_again again [] es ≡ None
        → again es e ≡ true → answer_of again answer size content ≡ Err (Twice (length (tree_bytes es)))
    answer_twice es e rest h is whole once comes =
        let with_e : content ≡ tree_bytes (es ++ e ∷ []) ++ rest = whole ∙ sym (append_assoc (tree_bytes es) (entry_bytes e) rest) ∙ ap (λ l. l ++ rest) (flat_map_more entry_bytes [] es e) in
        let w = walked (es ++ e ∷ []) rest (all_more (IsEntry size) es e h is) with_e in
        let behind = (walk size w.left (0 + length (tree_bytes (es ++ e ∷ []))) rest).0 in
        let fault = (walk size w.left (0 + length (tree_bytes (es ++ e ∷ []))) rest).1 in
        let found : first_again again [] ((es ++ e ∷ []) ++ behind) ≡ Some (Twice (length (tree_bytes es))) =
        ap (first_again again []) (append_assoc es (e ∷ []) behind) ∙ again_over [] es (e ∷ behind) once
        ∙ ap (λ t. cond t (Some (Twice (length (tree_bytes es)))) (first_again again (es ++ e ∷ []) behind)) comes in
        answers ((es ++ e ∷ []) ++ behind) fault (ap (walk size (length content) 0) with_e ∙ w.over) ∙ ap (λ f. unless f (unless fault (Ok (answer ((es ++ e ∷ []) ++ behind))))) found
      where
        all_more : {X : Type 0} (P : X → Type 0) (xs : List X) (x : X) → AllByRecursion P xs → P x → AllByRecursion P (xs ++ x ∷ [])
        all_more P [] x h p = (p, tt)
        all_more P (y ∷ xs) x h p = (h.0, all_more P xs x h.1 p)
