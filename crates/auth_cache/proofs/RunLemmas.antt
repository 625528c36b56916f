-- The reading of lines, one after another.
use Rattle.std.proofs.Common.{◌≡◌, ◌⊎◌, inl, inr, ℕ, ◌+◌, Option, Some, None, Result, Ok, Err, List, [], ◌∷◌, ◌++◌, length, refl, sym, ap, ◌∙◌, subst, arith, append_assoc, append-nil, length-append, ok_or, add-zero}
use Rattle.std.specs.List.{flat_map}
use Rattle.std.specs.Option.{option_and_then}
use Rattle.auth_cache.specs.declared.fail.CacheFail.{CacheFail}
use Rattle.auth_cache.specs.declared.fail.CacheFail.TheVariants.{Form}
use Rattle.auth_cache.specs.declared.front.Recorded.{Recorded}
use Rattle.auth_cache.specs.declared.front.Front.{Front}
use Rattle.auth_cache.specs.declared.front.Front.TheVariants.{Versioned, Introduced, Signed, Body, Ended}
use Rattle.auth_cache.specs.Lines.{line}
use Rattle.auth_cache.specs.Reading.{◌>>=◌, step, finish, run}
use Rattle.auth_cache.proofs.StepLemmas.{Holds, spelled, Adds, step_adds}

-- what is read, once these lines are taken
abbrev pub passed : Front → List (List ℕ) → Option Front
passed f [] = Some f
passed f (l ∷ ls) = option_and_then (λ g. passed g ls) (step f l)

-- a step, or none
split_step : (f : Front) (l : List ℕ) → (step f l ≡ None) ⊎ ((g : Front) × (step f l ≡ Some g))
split_step f l = elim (step f l) as (λ r. step f l ≡ r → (step f l ≡ None) ⊎ ((g : Front) × (step f l ≡ Some g))) [ None ↦ λ e. inl e | Some g ↦ λ e. inr (g, e) ] refl

-- a line that fits, and one that doesn't
pub run_step : (at : ℕ) (f : Front) (l : List ℕ) (ls : List (List ℕ)) (left : List ℕ) (g : Front) → step f l ≡ Some g → run at f (l ∷ ls) left ≡ run (at + length l + 1) g ls left
run_step at f l ls left g e = ap (λ r. ok_or r (Form at) >>= (λ next. run (at + length l + 1) next ls left)) e

pub run_none : (at : ℕ) (f : Front) (l : List ℕ) (ls : List (List ℕ)) (left : List ℕ) → step f l ≡ None → run at f (l ∷ ls) left ≡ Err (Form at)
run_none at f l ls left e = ap (λ r. ok_or r (Form at) >>= (λ next. run (at + length l + 1) next ls left)) e

passed_step : (f : Front) (l : List ℕ) (ls : List (List ℕ)) (g : Front) → step f l ≡ Some g → passed f (l ∷ ls) ≡ passed g ls
passed_step f l ls g e = ap (option_and_then (λ h. passed h ls)) e

size_step : (at : ℕ) (l rest : List ℕ) → (at + length l + 1) + length rest ≡ at + length (line l ++ rest)
size_step at l rest = omega (arith, length-append (line l) rest, length-append l (10 ∷ []))

-- ---- lines that were taken, and others

pub run_passed : (at : ℕ) (f : Front) (ls more : List (List ℕ)) (left : List ℕ) (g : Front) → passed f ls ≡ Some g → run at f (ls ++ more) left ≡ run (at + length (flat_map line ls)) g more left
run_passed at f [] more left g e = ap (λ h. run at h more left) (some_is f g e) ∙ ap (λ n. run n g more left) (sym (add-zero at))
  where
    some_is : (f g : Front) → Some f ≡ Some g → f ≡ g
    some_is f g e = cc
run_passed at f (l ∷ ls) more left g e = elim (split_step f l) [
  | inl none ↦ not_passed (ap (option_and_then (λ h. passed h ls)) none)
  | inr some ↦
      run_step at f l (ls ++ more) left some.0 some.1
      ∙ run_passed (at + length l + 1) some.0 ls more left g (sym (passed_step f l ls some.0 some.1) ∙ e)
      ∙ ap (λ n. run n g more left) (size_step at l (flat_map line ls))
]
  where
    not_passed : {X : Type 0} → option_and_then (λ h. passed h ls) (step f l) ≡ None → X
    not_passed none = absurd (some_none g (sym e ∙ none))
      where
        some_none : (g : Front) → Some g ≡ None → ⊥
        some_none g e = cc

-- what is read at last took the first lines
pub run_took : (at : ℕ) (f : Front) (ls more : List (List ℕ)) (left : List ℕ) (r : Recorded) → run at f (ls ++ more) left ≡ Ok r → (g : Front) × (passed f ls ≡ Some g)
run_took at f [] more left r e = (f, refl)
run_took at f (l ∷ ls) more left r e = elim (split_step f l) [
  | inl none ↦ absurd (refused r at (sym e ∙ run_none at f l (ls ++ more) left none))
  | inr some ↦
      let rest = run_took (at + length l + 1) some.0 ls more left r (sym (run_step at f l (ls ++ more) left some.0 some.1) ∙ e) in
      (rest.0, passed_step f l ls some.0 some.1 ∙ rest.1)
]
  where
    refused : (s : Recorded) (n : ℕ) → Ok s ≡ Err (Form n) → ⊥
    refused s n e = cc

-- ---- the end

-- what is read at the end is all
finish_ok : (at : ℕ) (f : Front) (left : List ℕ) (r : Recorded) → finish at f left ≡ Ok r → (f ≡ Ended r) × (left ≡ [])
finish_ok at Versioned left r e = cc
finish_ok at (Introduced intro) left r e = cc
finish_ok at (Signed intro signer) left r e = cc
finish_ok at (Body s) left r e = cc
finish_ok at (Ended s) [] r e = (cc, refl)
finish_ok at (Ended s) (b ∷ left) r e = cc

finish_err : (at : ℕ) (f : Front) (left : List ℕ) (fail : CacheFail) → finish at f left ≡ Err fail → fail ≡ Form at
finish_err at Versioned left fail e = cc
finish_err at (Introduced intro) left fail e = cc
finish_err at (Signed intro signer) left fail e = cc
finish_err at (Body s) left fail e = cc
finish_err at (Ended s) [] fail e = cc
finish_err at (Ended s) (b ∷ left) fail e = cc

-- ---- what is read holds, and is what the lines spell

pub record Reads (f g : Front) (text : List ℕ) : Type 0 where
  pub holds : Holds g
  pub is : spelled g ≡ spelled f ++ text

joined : (f g h : Front) (l rest : List ℕ) → Adds f g l → Reads g h rest → Reads f h (line l ++ rest)
joined f g h l rest one more = record { holds = more.holds; is = more.is ∙ ap (λ t. t ++ rest) one.is ∙ append_assoc (spelled f) (line l) rest }

pub passed_reads : (f : Front) (ls : List (List ℕ)) (g : Front) → Holds f → passed f ls ≡ Some g → Reads f g (flat_map line ls)
passed_reads f [] g h e = subst (λ (k : Front). Reads f k []) (some_is f g e) (record { holds = h; is = sym (append-nil (spelled f)) })
  where
    some_is : (f g : Front) → Some f ≡ Some g → f ≡ g
    some_is f g e = cc
passed_reads f (l ∷ ls) g h e = elim (split_step f l) [
  | inl none ↦ absurd (some_none g (sym e ∙ ap (option_and_then (λ h. passed h ls)) none))
  | inr some ↦
      let one = step_adds f l some.0 h some.1 in
      joined f some.0 g l (flat_map line ls) one (passed_reads some.0 ls g one.holds (sym (passed_step f l ls some.0 some.1) ∙ e))
]
  where
    some_none : (g : Front) → Some g ≡ None → ⊥
    some_none g e = cc

pub run_reads : (at : ℕ) (f : Front) (ls : List (List ℕ)) (left : List ℕ) (r : Recorded) → Holds f → run at f ls left ≡ Ok r → Reads f (Ended r) (flat_map line ls ++ left)
run_reads at f [] left r h e =
    let end = finish_ok at f left r e in
    record { holds = subst Holds end.0 h; is = ap spelled (sym end.0) ∙ sym (append-nil (spelled f)) ∙ ap (λ t. spelled f ++ t) (sym end.1) }
run_reads at f (l ∷ ls) left r h e = elim (split_step f l) [
  | inl none ↦ absurd (refused r at (sym e ∙ run_none at f l ls left none))
  | inr some ↦
      let one = step_adds f l some.0 h some.1 in
      let more = run_reads (at + length l + 1) some.0 ls left r one.holds (sym (run_step at f l ls left some.0 some.1) ∙ e) in
      let all = joined f some.0 (Ended r) l (flat_map line ls ++ left) one more in
      record { holds = all.holds; is = all.is ∙ ap (λ t. spelled f ++ t) (sym (append_assoc (line l) (flat_map line ls) left)) }
]
  where
    refused : (s : Recorded) (n : ℕ) → Ok s ≡ Err (Form n) → ⊥
    refused s n e = cc

-- ---- where a reading stops

-- lines that were taken, up to the place of the fault
pub record Stops (at : ℕ) (f : Front) (ls : List (List ℕ)) (fail : CacheFail) : Type 0 where
  pub front : List (List ℕ)
  pub more : List (List ℕ)
  pub last : Front
  pub parts : ls ≡ front ++ more
  pub takes : passed f front ≡ Some last
  pub place : fail ≡ Form (at + length (flat_map line front))

pub run_stops : (at : ℕ) (f : Front) (ls : List (List ℕ)) (left : List ℕ) (fail : CacheFail) → run at f ls left ≡ Err fail → Stops at f ls fail
run_stops at f [] left fail e = record { front = []; more = []; last = f; parts = refl; takes = refl; place = finish_err at f left fail e ∙ ap (λ n. Form n) (sym (add-zero at)) }
run_stops at f (l ∷ ls) left fail e = elim (split_step f l) [
  | inl none ↦ record { front = []; more = l ∷ ls; last = f; parts = refl; takes = refl; place = same_fail fail (Form at) (sym e ∙ run_none at f l ls left none) ∙ ap (λ n. Form n) (sym (add-zero at)) }
  | inr some ↦
      let rest = run_stops (at + length l + 1) some.0 ls left fail (sym (run_step at f l ls left some.0 some.1) ∙ e) in
      record {
        front = l ∷ rest.front;
        more = rest.more;
        last = rest.last;
        parts = ap (λ k. l ∷ k) rest.parts;
        takes = passed_step f l rest.front some.0 some.1 ∙ rest.takes;
        place = rest.place ∙ ap (λ n. Form n) (size_step at l (flat_map line rest.front));
      }
]
  where
    same_fail : (fail other : CacheFail) → ◌≡◌ {A = Result Recorded CacheFail} (Err fail) (Err other) → fail ≡ other
    same_fail fail other e = cc
