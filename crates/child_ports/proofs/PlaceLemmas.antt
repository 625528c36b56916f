-- Places after one is put.
use Rattle.std.proofs.Common.{◌≡◌, ◌≢◌, ℕ, zero, suc, ◌+◌, ◌≤◌, ◌<◌, Bool, true, false, cond, ◌&&◌, List, [], ◌∷◌, drop, length, get_or, refl, sym, ap, subst, ◌∙◌, arith, bytes_eq, Option, Some, None}
use Rattle.std.specs.Cmp.{eq_by_cmp_equiv}
use Rattle.std.specs.Cmp.Lexicographic.{slice_cmp, nat_list_cmp_total, nat_list_eq_equiv}
use Rattle.std.specs.Ordering.{nat_cmp, is_eq, eq_by_cmp}
use Rattle.std.specs.BTreeMap.{BTreeMap, UpdatesBy, get_by, is_at}
use Rattle.std.specs.Map.{KeepsOthers, lookup}
use Rattle.std.proofs.Math.Logic.{⊎_elim}
use Rattle.std.proofs.lemmas.Bool.{cases_Bool, cond-true, cond-false, false≢true}
use Rattle.std.proofs.lemmas.List.{drop_all, get_or_default}
use Rattle.std.proofs.lemmas.Slice.Eq.{bytes_eq-Decides}
use Rattle.std.proofs.lemmas.Map.Text.{is_eq-slice_cmp}
use Rattle.child_ports.specs.declared.memory.places.Places.{Places}
use Rattle.child_ports.specs.Places.{place_of, Reaches, ArePlaced}

apart : (bs cs ks : List ℕ) → bytes_eq bs cs ≡ false → is_eq (slice_cmp nat_cmp bs ks) ≡ true → is_eq (slice_cmp nat_cmp cs ks) ≡ false
apart bs cs ks ne eq =
    is_eq-slice_cmp cs ks ∙ nat_list_eq_equiv.symm cs ks ∙ sym (nat_list_eq_equiv.congr bs ks cs (sym (is_eq-slice_cmp bs ks) ∙ eq)) ∙ ne

module _ {K X : Type 0} (f : K → List ℕ) where
  others : (old new : List (K × X)) (bs cs : List ℕ) → KeepsOthers (eq_by_cmp (λ x y. slice_cmp nat_cmp (f x) (f y))) (is_at (λ k. slice_cmp nat_cmp bs (f k))) old new
      → bytes_eq bs cs ≡ false → lookup (is_at (λ k. slice_cmp nat_cmp cs (f k))) new ≡ lookup (is_at (λ k. slice_cmp nat_cmp cs (f k))) old
  unfolding KeepsOthers
  others old new bs cs h ne = h (is_at (λ k. slice_cmp nat_cmp cs (f k))) (λ x y. (eq_by_cmp_equiv nat_list_cmp_total).congr cs (f x) (f y)) (λ k. apart bs cs (f k) ne)

  -- a map with keys that are bytes, after a change at the bytes bs
  pub updated_bytes : (m n : BTreeMap K X) (w : Option X) (bs : List ℕ) → UpdatesBy (λ x y. slice_cmp nat_cmp (f x) (f y)) (λ k. slice_cmp nat_cmp bs (f k)) m n w
      → (cs : List ℕ) → get_by (λ k. slice_cmp nat_cmp cs (f k)) n ≡ cond (bytes_eq bs cs) w (get_by (λ k. slice_cmp nat_cmp cs (f k)) m)
  updated_bytes m n w bs h cs =
      ⊎_elim
      (λ eq. subst (λ (l : List ℕ). get_by (λ k. slice_cmp nat_cmp l (f k)) n ≡ w) ((bytes_eq-Decides bs cs).0 eq) h.1 ∙ sym (cond-true (bytes_eq bs cs) w _ eq))
      (λ ne. others m.entries n.entries bs cs h.3 ne ∙ sym (cond-false (bytes_eq bs cs) w _ ne))
      (cases_Bool (bytes_eq bs cs))

keeps : (old new : Option ℕ) (n : ℕ) → new ≡ old → Reaches old n → Reaches new n
keeps old new n is h = subst (λ (o : Option ℕ). Reaches o n) (sym is) h

-- one more row, before those that are placed
pub placed_more : {Row : Type 0} (key : Row → List ℕ) (rows : List Row) (old new : Places) (i : ℕ) (row : Row) → row ≡ get_or rows i row
    → ((q : List ℕ) → place_of new q ≡ cond (bytes_eq (key row) q) (Some i) (place_of old q)) → ArePlaced key rows old (i + 1) → ArePlaced key rows new i
placed_more key rows old new i row at put placed = λ n r ge lt is.
    ⊎_elim
    (λ eq. keeps (Some i) (place_of new (key r)) n (put (key r) ∙ cond-true (bytes_eq (key row) (key r)) (Some i) _ eq) ge)
    (λ ne.
    let apart_places : n ≢ i = λ same.
    let one : r ≡ row = is ∙ ap (λ (k : ℕ). get_or rows k r) same ∙ get_or_default rows i r row (subst (λ (k : ℕ). k < length rows) same lt) ∙ sym at in
    false≢true (sym ne ∙ (bytes_eq-Decides (key row) (key r)).1 (ap key (sym one))) in
    keeps (place_of old (key r)) (place_of new (key r)) n (put (key r) ∙ cond-false (bytes_eq (key row) (key r)) (Some i) _ ne) (placed n r (omega arith) lt is))
    (cases_Bool (bytes_eq (key row) (key r)))

-- rows that don't count may be passed over
skip : {Row A : Type 0} (f : List Row → A) (counts : Row → Bool) → ((row : Row) (rest : List Row) → counts row ≡ false → f (row ∷ rest) ≡ f rest)
    → (rows : List Row) (p : ℕ) → ((n : ℕ) (row : Row) → n < p → n < length rows → row ≡ get_or rows n row → counts row ≡ false) → f (drop p rows) ≡ f rows
skip f counts step rows zero h = refl
skip f counts step [] (suc p) h = refl
skip f counts step (r ∷ rows) (suc p) h =
    skip f counts step rows p (λ n row lt inside is. h (suc n) row (omega arith) (omega arith) is) ∙ sym (step r rows (h 0 r (omega arith) (omega arith) refl))

-- the rows before the place of a key don't have it
pub from_place : {Row A : Type 0} (key : Row → List ℕ) (f : List Row → A) (rows : List Row) (places : Places) (q : List ℕ) (p : ℕ)
    → ((row : Row) (rest : List Row) → bytes_eq (key row) q ≡ false → f (row ∷ rest) ≡ f rest)
    → ArePlaced key rows places 0 → place_of places q ≡ Some p → f (drop p rows) ≡ f rows
from_place key f rows places q p step placed there =
    skip f (λ row. bytes_eq (key row) q) step rows p (λ n row lt inside is.
    ⊎_elim
    (λ eq.
    let same : place_of places (key row) ≡ Some p = ap (place_of places) ((bytes_eq-Decides (key row) q).0 eq) ∙ there in
    let late : p ≤ n = subst (λ (o : Option ℕ). Reaches o n) same (placed n row (omega arith) inside is) in
    absurd (omega arith))
    (λ ne. ne)
    (cases_Bool (bytes_eq (key row) q)))

-- where a key has no place, ne row has it
pub no_place : {Row A : Type 0} (key : Row → List ℕ) (f : List Row → A) (rows : List Row) (places : Places) (q : List ℕ)
    → ((row : Row) (rest : List Row) → bytes_eq (key row) q ≡ false → f (row ∷ rest) ≡ f rest)
    → ArePlaced key rows places 0 → place_of places q ≡ None → f rows ≡ f []
no_place key f rows places q step placed none =
    sym (skip f (λ row. bytes_eq (key row) q) step rows (length rows) (λ n row lt inside is.
    ⊎_elim
    (λ eq. absurd (subst (λ (o : Option ℕ). Reaches o n) (ap (place_of places) ((bytes_eq-Decides (key row) q).0 eq) ∙ none) (placed n row (omega arith) inside is)))
    (λ ne. ne)
    (cases_Bool (bytes_eq (key row) q))))
    ∙ ap f (drop_all (length rows) rows (omega arith))

pub and_no : (a b : Bool) → b ≡ false → (a && b) ≡ false
and_no true b h = h
and_no false b h = refl
