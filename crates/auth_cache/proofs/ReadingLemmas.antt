-- The reading of bytes, as the code goes.
use Rattle.std.proofs.Common.{◌≡◌, ◌≢◌, ◌⊎◌, inl, inr, cond, ℕ, ◌+◌, ◌-◌, ◌≤◌, Option, Some, None, Result, Ok, Err, List, ◌∷◌, ◌++◌, length, refl, sym, ap, ◌∙◌, subst, arith, length-append, ok_or}
use Rattle.std.proofs.lemmas.Bool.{ne_eqb, eq-eqb}
use Rattle.byte_cuts.specs.Cuts.{Lacks}
use Rattle.authorizations.specs.declared.scope.Scope.{Scope}
use Rattle.auth_cache.specs.declared.fail.CacheFail.{CacheFail}
use Rattle.auth_cache.specs.declared.fail.CacheFail.TheVariants.{Version, Form, Memory}
use Rattle.auth_cache.specs.declared.front.Recorded.{Recorded}
use Rattle.auth_cache.specs.declared.front.Front.{Front}
use Rattle.auth_cache.specs.declared.front.Front.TheVariants.{Versioned}
use Rattle.auth_cache.specs.Lines.{Lines, lines_of}
use Rattle.auth_cache.specs.Reading.{◌>>=◌, Gives, version_on, step, finish, run, behind_version, from_lines, recorded_of, entries_for, cache_of}
use Rattle.auth_cache.proofs.LineLemmas.{lines_cons, lines_none}
use Rattle.auth_cache.proofs.RunLemmas.{run_step, run_none}

-- the reading of a text from an offset on
abbrev pub run_on : ℕ → Front → List ℕ → Result Recorded CacheFail
run_on at f text = run at f (lines_of text).whole (lines_of text).left

-- an answer that is one for another, where both are the same refusal
pub gives_err : {A B : Type 0} (fail : CacheFail) (x : Result A CacheFail) (y : Result B CacheFail) → (x ≡ Err fail → y ≡ Err fail) → Gives (Err fail) x → Gives (Err fail) y
gives_err (Version n) x y same given = same given
gives_err (Form at) x y same given = same given
gives_err Memory x y same given = tt

step_ok : (r : Option Front) (fail : CacheFail) (g : Front) → ok_or r fail ≡ Ok g → r ≡ Some g
step_ok None fail g e = cc
step_ok (Some f) fail g e = cc

step_err : (r : Option Front) (fail other : CacheFail) → ok_or r fail ≡ Err other → (r ≡ None) × (fail ≡ other)
step_err None fail other e = (refl, cc)
step_err (Some f) fail other e = cc

cut_lines : (at : ℕ) (f : Front) (rest l next : List ℕ) → Lacks 10 l → rest ≡ l ++ 10 ∷ next → run_on at f rest ≡ run at f (l ∷ (lines_of next).whole) (lines_of next).left
cut_lines at f rest l next one is = ap (λ (it : Lines). run at f it.whole it.left) (ap lines_of is ∙ lines_cons l next one)

-- a line that is taken
pub line_on : (size : ℕ) (f g : Front) (rest l next : List ℕ) → Lacks 10 l → rest ≡ l ++ 10 ∷ next → length rest ≤ size → ok_or (step f l) (Form (size - length rest)) ≡ Ok g
    → run_on (size - length rest) f rest ≡ run_on (size - length next) g next
line_on size f g rest l next one is inside e =
    let at = size - length rest in
    let long = ap length is ∙ length-append l (10 ∷ next) in
    let place : at + length l + 1 ≡ size - length next = omega arith in
    cut_lines at f rest l next one is ∙ run_step at f l (lines_of next).whole (lines_of next).left g (step_ok (step f l) (Form at) g e) ∙ ap (λ n. run_on n g next) place

-- a line that isn't
pub stop_on : (at : ℕ) (f : Front) (rest l next : List ℕ) (fail : CacheFail) → Lacks 10 l → rest ≡ l ++ 10 ∷ next → ok_or (step f l) (Form at) ≡ Err fail → run_on at f rest ≡ Err fail
stop_on at f rest l next fail one is e =
    let none = step_err (step f l) (Form at) fail e in
    cut_lines at f rest l next one is ∙ run_none at f l (lines_of next).whole (lines_of next).left none.0 ∙ ap (λ (k : CacheFail). Err k) none.1

-- no further line
pub end_on : (at : ℕ) (f : Front) (rest : List ℕ) → Lacks 10 rest → run_on at f rest ≡ finish at f rest
end_on at f rest none = ap (λ (it : Lines). run at f it.whole it.left) (lines_none rest none)

pub gives_all : {A : Type 0} (r : Result A CacheFail) → Gives r r
gives_all (Ok x) = refl
gives_all (Err (Version n)) = refl
gives_all (Err (Form at)) = refl
gives_all (Err Memory) = tt

pub gives_same : {A : Type 0} (r x : Result A CacheFail) → r ≡ x → Gives r x
gives_same r x e = subst (Gives r) e (gives_all r)

-- ---- the version's line

pub recorded_none : (bytes : List ℕ) → Lacks 10 bytes → recorded_of bytes ≡ Err (Form 0)
unfolding recorded_of
recorded_none bytes none = ap (λ (it : Lines). from_lines it.whole it.left) (lines_none bytes none)

pub recorded_cut : (bytes l rest : List ℕ) (v : Option ℕ) → Lacks 10 l → bytes ≡ l ++ 10 ∷ rest → v ≡ version_on l → recorded_of bytes ≡ behind_version v (length l + 1) (lines_of rest).whole (lines_of rest).left
unfolding recorded_of
recorded_cut bytes l rest v one is e =
    ap (λ (it : Lines). from_lines it.whole it.left) (ap lines_of is ∙ lines_cons l rest one) ∙ ap (λ w. behind_version w (length l + 1) (lines_of rest).whole (lines_of rest).left) (sym e)

pub other_version : (n at : ℕ) (rest : List ℕ) → n ≢ 1 → behind_version (Some n) at (lines_of rest).whole (lines_of rest).left ≡ Err (Version n)
other_version n at rest other = ap (λ t. cond t (run_on at Versioned rest) (Err (Version n))) (ne_eqb n 1 other)

pub first_version : (n size : ℕ) (bytes l rest : List ℕ) → n ≡ 1 → size ≡ length bytes → bytes ≡ l ++ 10 ∷ rest → behind_version (Some n) (length l + 1) (lines_of rest).whole (lines_of rest).left ≡ run_on (size - length rest) Versioned rest
first_version n size bytes l rest one long is =
    let all = ap length is ∙ length-append l (10 ∷ rest) in
    let place : length l + 1 ≡ size - length rest = omega arith in
    ap (λ t. cond t (run_on (length l + 1) Versioned rest) (Err (Version n))) (eq-eqb n 1 one) ∙ ap (λ at. run_on at Versioned rest) place

-- ---- what counts

pub cache_err : (bytes : List ℕ) (scope : Scope) (fail : CacheFail) → recorded_of bytes ≡ Err fail → cache_of bytes scope ≡ Err fail
unfolding cache_of
cache_err bytes scope fail e = ap (λ r. r >>= (λ r. Ok (entries_for r scope))) e

pub cache_ok : (bytes : List ℕ) (scope : Scope) (r : Recorded) → recorded_of bytes ≡ Ok r → cache_of bytes scope ≡ Ok (entries_for r scope)
unfolding cache_of
cache_ok bytes scope r e = ap (λ r. r >>= (λ r. Ok (entries_for r scope))) e

-- an answer comes from what the bytes record, or is their fault
pub cache_split : (bytes : List ℕ) (scope : Scope) → ((r : Recorded) × (recorded_of bytes ≡ Ok r)) ⊎ ((fail : CacheFail) × (recorded_of bytes ≡ Err fail))
cache_split bytes scope = elim (recorded_of bytes) as (λ x. recorded_of bytes ≡ x → ((r : Recorded) × (recorded_of bytes ≡ Ok r)) ⊎ ((fail : CacheFail) × (recorded_of bytes ≡ Err fail))) [
  | Ok r ↦ λ e. inl (r, e)
  | Err fail ↦ λ e. inr (fail, e)
] refl
