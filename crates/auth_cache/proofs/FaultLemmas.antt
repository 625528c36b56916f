-- What is read of bytes is what they spell, and a refusal is the first thing at fault.
use Rattle.std.proofs.Common.{◌≡◌, ◌≢◌, ℕ, zero, suc, ◌+◌, ◌<◌, ◌≤◌, ◌^◌, true, false, cond, ◌==◌, Some, None, Result, Ok, Err, List, [], ◌∷◌, ◌++◌, length, replicate, refl, sym, ap, ◌∙◌, subst, arith, append_assoc, append-nil, length-append, codes, decimal, lit<, option_map}
use Rattle.std.specs.Prelude.{slice_index}
use Rattle.std.specs.List.{AllByRecursion, flat_map}
use Rattle.std.proofs.lemmas.Bool.{eqb-true, eqb-false, ne_eqb}
use Rattle.std.proofs.lemmas.Fmt.{decimal_digit}
use Rattle.std.proofs.lemmas.List.{length-replicate}
use Rattle.child_ports.specs.declared.fingerprint.Fingerprint.{Fingerprint}
use Rattle.child_ports.proofs.HeaderLemmas.{lacks_decimal}
use Rattle.object_frames.specs.Id.{IsId}
use Rattle.auth_cache.specs.declared.fail.CacheFail.{CacheFail}
use Rattle.auth_cache.specs.declared.fail.CacheFail.TheVariants.{Version, Form}
use Rattle.auth_cache.specs.declared.front.Recorded.{Recorded}
use Rattle.auth_cache.specs.declared.front.Front.{Front}
use Rattle.auth_cache.specs.declared.front.Front.TheVariants.{Versioned, Introduced, Signed, Body, Ended}
use Rattle.auth_cache.specs.Faults.{NamesVersion, Fits, IsFormFault, IsFault}
use Rattle.auth_cache.specs.Keys.{IsKey}
use Rattle.auth_cache.specs.Lines.{NoLineEnd, Lines, line, lines_of, Begins}
use Rattle.auth_cache.specs.Reading.{version_on, run, behind_version, from_lines, recorded_of}
use Rattle.auth_cache.specs.Text.{id_text, key_text, heading, historical_line, commit_line, spelling, IsRecorded}
use Rattle.auth_cache.proofs.LineLemmas.{lines_front, lines_cons, lines_joined, lines_each}
use Rattle.auth_cache.proofs.RunLemmas.{passed, run_passed, run_took, run_reads, passed_reads, run_stops}
use Rattle.auth_cache.proofs.StepLemmas.{Holds, spelled, text_last, step_adds, Adds}
use Rattle.auth_cache.proofs.WholeLemmas.{all_append, no_end, recorded_of-spelling, version_one}
use Rattle.auth_cache.proofs.WordLemmas.{id_on_yes, key_on_yes, version_on_is, version_on_yes}

-- ---- the version's line

-- what the first line says
data FirstIs (l : List ℕ) (ls : List (List ℕ)) (left : List ℕ) : Type 0 where
  no_version : from_lines (l ∷ ls) left ≡ Err (Form 0) → FirstIs l ls left
  other_version : (n : ℕ) → n ≢ 1 → n < 2 ^ 32 → l ≡ codes "guix-auth-cache " ++ decimal n → from_lines (l ∷ ls) left ≡ Err (Version n) → FirstIs l ls left
  version_1 : l ≡ codes "guix-auth-cache 1" → from_lines (l ∷ ls) left ≡ run (length l + 1) Versioned ls left → FirstIs l ls left

first_is : (l : List ℕ) (ls : List (List ℕ)) (left : List ℕ) → FirstIs l ls left
first_is l ls left = elim (version_on l) as (λ v. version_on l ≡ v → FirstIs l ls left) [
  | None ↦ λ e. no_version (ap (λ v. behind_version v (length l + 1) ls left) e)
  | Some n ↦ λ e.
      let named = version_on_is l n e in
      let given : from_lines (l ∷ ls) left ≡ cond (n == 1) (run (length l + 1) Versioned ls left) (Err (Version n)) = ap (λ v. behind_version v (length l + 1) ls left) e in
      elim (n == 1) as (λ t. (n == 1) ≡ t → FirstIs l ls left) [
        | true ↦ λ one. version_1
            (named.1 ∙ ap (λ m. codes "guix-auth-cache " ++ decimal m) (eqb-true n 1 one) ∙ ap (λ d. codes "guix-auth-cache " ++ d) (decimal_digit 1 (omega arith)))
            (given ∙ ap (λ t. cond t (run (length l + 1) Versioned ls left) (Err (Version n))) one)
        | false ↦ λ one. other_version n (eqb-false n 1 one) named.0 named.1 (given ∙ ap (λ t. cond t (run (length l + 1) Versioned ls left) (Err (Version n))) one)
      ] refl
] refl

-- bytes whose first line names another version
pub version_named : (bytes : List ℕ) (n : ℕ) → NamesVersion bytes n → recorded_of bytes ≡ Err (Version n)
unfolding recorded_of
version_named bytes n named =
    let l = codes "guix-auth-cache " ++ decimal n in
    let small : n < 2 ^ 32 = named.fits in
    let one : NoLineEnd l = all_append (λ b. b ≢ 10) (codes "guix-auth-cache ") (decimal n) (no_end (codes "guix-auth-cache ") refl) (lacks_decimal n (omega arith)) in
    ap (λ (it : Lines). from_lines it.whole it.left) (ap lines_of (named.whole ∙ append_assoc l (10 ∷ []) named.rest) ∙ lines_cons l named.rest one)
    ∙ ap (λ v. behind_version v (length l + 1) (lines_of named.rest).whole (lines_of named.rest).left) (version_on_yes n small)
    ∙ ap (λ t. cond t (run (length l + 1) Versioned (lines_of named.rest).whole (lines_of named.rest).left) (Err (Version n))) (ne_eqb n 1 named.other)

-- ---- what is read

-- the text of its lines
text_is : (bytes : List ℕ) (l : List ℕ) (ls : List (List ℕ)) → (lines_of bytes).whole ≡ l ∷ ls → bytes ≡ line l ++ (flat_map line ls ++ (lines_of bytes).left)
text_is bytes l ls e = sym (lines_joined bytes) ∙ ap (λ k. flat_map line k ++ (lines_of bytes).left) e ∙ append_assoc (line l) (flat_map line ls) (lines_of bytes).left

pub record Recording (bytes : List ℕ) (r : Recorded) : Type 0 where
  pub is : IsRecorded r
  pub whole : bytes ≡ spelling r

recording : (bytes : List ℕ) (r : Recorded) (whole : List (List ℕ)) → (lines_of bytes).whole ≡ whole → from_lines whole (lines_of bytes).left ≡ Ok r → Recording bytes r
recording bytes r [] cut e = cc
recording bytes r (l ∷ ls) cut e = elim (first_is l ls (lines_of bytes).left) [
  | no_version none ↦ absurd (not_ok r (Form 0) (sym e ∙ none))
  | other_version n other fits is none ↦ absurd (not_ok r (Version n) (sym e ∙ none))
  | version_1 is ran ↦
      let reads = run_reads (length l + 1) Versioned ls (lines_of bytes).left r tt (sym ran ∙ e) in
      record { is = reads.holds; whole = text_is bytes l ls cut ∙ ap (λ k. line k ++ (flat_map line ls ++ (lines_of bytes).left)) is ∙ sym reads.is }
]
  where
    not_ok : (r : Recorded) (fail : CacheFail) → Ok r ≡ Err fail → ⊥
    not_ok r fail e = cc

pub is_recorded : (bytes : List ℕ) (r : Recorded) → recorded_of bytes ≡ Ok r → Recording bytes r
unfolding recorded_of
is_recorded bytes r e = recording bytes r (lines_of bytes).whole refl e

-- ---- what was read can go on to a text

pub record Viable (f : Front) : Type 0 where
  pub parts : Recorded
  pub is : IsRecorded parts
  pub rest : List ℕ
  pub whole : spelling parts ≡ spelled f ++ rest

goes_on : (f g : Front) (l : List ℕ) → Adds f g l → Viable g → Viable f
goes_on f g l one v = record { parts = v.parts; is = v.is; rest = line l ++ v.rest; whole = v.whole ∙ ap (λ t. t ++ v.rest) one.is ∙ append_assoc (spelled f) (line l) v.rest }

zeros_below : (n i : ℕ) → slice_index (replicate n 0) i < 256
zeros_below zero i = lit< tt
zeros_below (suc n) zero = lit< tt
zeros_below (suc n) (suc i) = zeros_below n i

some_id : List ℕ
some_id = replicate 20 0

some_id-IsId : IsId some_id
unfolding some_id
some_id-IsId = record { count = length-replicate {A = ℕ} 20 0; bytes = zeros_below 20 }

some_key : Fingerprint
some_key = record { 0 = some_id }

some_key-IsKey : IsKey some_key
unfolding some_key
some_key-IsKey = record { count = some_id-IsId.count; bytes = some_id-IsId.bytes }

viable_body : (r : Recorded) → IsRecorded r → Viable (Body r)
unfolding spelling
viable_body r is = record { parts = r; is = is; rest = line (codes "end"); whole = text_last (heading r.intro r.signer r.keyring) (flat_map historical_line r.keys) (flat_map commit_line r.commits) (line (codes "end")) (line (codes "end")) refl }

viable_signed : (intro : List ℕ) (signer : Fingerprint) → IsId intro → IsKey signer → Viable (Signed intro signer)
viable_signed intro signer i s =
    let l = id_text (codes "keyring ") some_id in
    let g : Front = Body (record { intro = intro; signer = signer; keyring = some_id; keys = []; commits = [] }) in
    let one = step_adds (Signed intro signer) l g (i, s) (ap (option_map (λ (tree : List ℕ). Body (record { intro = intro; signer = signer; keyring = tree; keys = []; commits = [] }))) (id_on_yes (codes "keyring ") some_id some_id-IsId)) in
    goes_on (Signed intro signer) g l one (viable_body _ one.holds)

viable_introduced : (intro : List ℕ) → IsId intro → Viable (Introduced intro)
viable_introduced intro i =
    let l = key_text (codes "signer ") some_key in
    let one = step_adds (Introduced intro) l (Signed intro some_key) i (ap (option_map (λ (key : Fingerprint). Signed intro key)) (key_on_yes (codes "signer ") some_key some_key-IsKey)) in
    goes_on (Introduced intro) (Signed intro some_key) l one (viable_signed intro some_key i some_key-IsKey)

pub viable : (f : Front) → Holds f → Viable f
viable Versioned h =
    let l = id_text (codes "intro ") some_id in
    let one = step_adds Versioned l (Introduced some_id) h (ap (option_map (λ intro. Introduced intro)) (id_on_yes (codes "intro ") some_id some_id-IsId)) in
    goes_on Versioned (Introduced some_id) l one (viable_introduced some_id some_id-IsId)
viable (Introduced intro) h = viable_introduced intro h
viable (Signed intro signer) h = viable_signed intro signer h.0 h.1
viable (Body r) h = viable_body r h
viable (Ended r) h = record { parts = r; is = h; rest = []; whole = sym (append-nil (spelling r)) }

-- ---- the front that fits

fits_none : (bytes : List ℕ) → Fits [] bytes
fits_none bytes =
    let v = viable Versioned tt in
    record { here = record { each = tt; rest = bytes; whole = refl }; parts = v.parts; is = v.is; there = record { each = tt; rest = spelling v.parts; whole = refl } }

all_front : (xs ys : List (List ℕ)) → AllByRecursion NoLineEnd (xs ++ ys) → AllByRecursion NoLineEnd xs
all_front [] ys h = tt
all_front (x ∷ xs) ys h = (h.0, all_front xs ys h.1)

flat_both : (xs ys : List (List ℕ)) → flat_map line (xs ++ ys) ≡ flat_map line xs ++ flat_map line ys
flat_both [] ys = refl
flat_both (x ∷ xs) ys = ap (λ t. line x ++ t) (flat_both xs ys) ∙ sym (append_assoc (line x) (flat_map line xs) (flat_map line ys))

fits_front : (bytes l : List ℕ) (ls front more : List (List ℕ)) (f : Front) → (lines_of bytes).whole ≡ l ∷ ls → l ≡ codes "guix-auth-cache 1" → ls ≡ front ++ more → passed Versioned front ≡ Some f → Fits (l ∷ front) bytes
fits_front bytes l ls front more f cut first parts takes =
    let reads = passed_reads Versioned front f tt takes in
    let v = viable f reads.holds in
    let left = (lines_of bytes).left in
    let each : AllByRecursion NoLineEnd ((l ∷ front) ++ more) = subst (AllByRecursion NoLineEnd) (cut ∙ ap (λ k. l ∷ k) parts) (lines_each bytes) in
    let mine = all_front (l ∷ front) more each in
    record {
      here = record {
        each = mine;
        rest = flat_map line more ++ left;
        whole = text_is bytes l ls cut ∙ ap (λ k. line l ++ (flat_map line k ++ left)) parts ∙ ap (λ t. line l ++ (t ++ left)) (flat_both front more)
            ∙ ap (λ t. line l ++ t) (append_assoc (flat_map line front) (flat_map line more) left) ∙ sym (append_assoc (line l) (flat_map line front) (flat_map line more ++ left));
      };
      parts = v.parts;
      is = v.is;
      there = record { each = mine; rest = v.rest; whole = v.whole ∙ ap (λ t. t ++ v.rest) reads.is ∙ ap (λ k. (line k ++ flat_map line front) ++ v.rest) (sym first) };
    }

-- ---- no longer front fits

lines_begin : (lines : List (List ℕ)) (text : List ℕ) → (b : Begins lines text) → lines_of text ≡ record { whole = lines ++ (lines_of b.rest).whole; left = (lines_of b.rest).left }
lines_begin lines text b = ap lines_of b.whole ∙ lines_front lines b.rest b.each

-- what lines of a text of a cache are taken, from the version's on
took : (l : List ℕ) (ls more : List (List ℕ)) (left : List ℕ) (r : Recorded) → from_lines (l ∷ (ls ++ more)) left ≡ Ok r → (l ≡ codes "guix-auth-cache 1") × ((f : Front) × (passed Versioned ls ≡ Some f))
took l ls more left r e = elim (first_is l (ls ++ more) left) [
  | no_version none ↦ absurd (not_ok r (Form 0) (sym e ∙ none))
  | other_version n other fits is none ↦ absurd (not_ok r (Version n) (sym e ∙ none))
  | version_1 is ran ↦ (is, run_took (length l + 1) Versioned ls more left r (sym ran ∙ e))
]
  where
    not_ok : (r : Recorded) (fail : CacheFail) → Ok r ≡ Err fail → ⊥
    not_ok r fail e = cc

same_place : (a b : ℕ) → Form a ≡ Form b → a ≡ b
same_place a b e = cc

stopped : (l : List ℕ) (ls more : List (List ℕ)) (left : List ℕ) (f : Front) (at : ℕ) → l ≡ codes "guix-auth-cache 1" → passed Versioned ls ≡ Some f → from_lines (l ∷ (ls ++ more)) left ≡ Err (Form at) → length (flat_map line (l ∷ ls)) ≤ at
stopped l ls more left f at is takes e =
    let start = length l + 1 in
    let ran : from_lines (l ∷ (ls ++ more)) left ≡ run start Versioned (ls ++ more) left = ap (λ v. behind_version v start (ls ++ more) left) (ap version_on is ∙ version_one) in
    let behind = run_passed start Versioned ls more left f takes in
    let stops = run_stops (start + length (flat_map line ls)) f more left (Form at) (sym behind ∙ sym ran ∙ e) in
    let place = same_place at _ stops.place in
    omega (arith, place, length-append (line l) (flat_map line ls), length-append l (10 ∷ []))

no_longer : (bytes : List ℕ) (at : ℕ) (lines : List (List ℕ)) → recorded_of bytes ≡ Err (Form at) → Fits lines bytes → length (flat_map line lines) ≤ at
unfolding recorded_of
no_longer bytes at [] e fits = omega arith
no_longer bytes at (l ∷ ls) e fits =
    let here = lines_begin (l ∷ ls) bytes fits.here in
    let there = lines_begin (l ∷ ls) (spelling fits.parts) fits.there in
    let ok = ap (λ (it : Lines). from_lines it.whole it.left) (sym there) ∙ recorded_of-spelling fits.parts fits.is in
    let taken = took l ls (lines_of fits.there.rest).whole (lines_of fits.there.rest).left fits.parts ok in
    stopped l ls (lines_of fits.here.rest).whole (lines_of fits.here.rest).left taken.1.0 at taken.0 taken.1.1 (ap (λ (it : Lines). from_lines it.whole it.left) (sym here) ∙ e)

-- ---- the fault

form_fault : (bytes : List ℕ) (at : ℕ) (front : List (List ℕ)) → recorded_of bytes ≡ Err (Form at) → Fits front bytes → length (flat_map line front) ≡ at → IsFormFault bytes at
form_fault bytes at front e fits size = record {
  no_other_version = λ n named. other_fail n at (sym (version_named bytes n named) ∙ e);
  no_text = λ parts is whole. not_err parts at (sym (recorded_of-spelling parts is) ∙ sym (ap recorded_of whole) ∙ e);
  front = front;
  fits = fits;
  size = size;
  longest = λ lines other. no_longer bytes at lines e other;
}
  where
    other_fail : (n at : ℕ) → ◌≡◌ {A = Result Recorded CacheFail} (Err (Version n)) (Err (Form at)) → ⊥
    other_fail n at e = cc

    not_err : (parts : Recorded) (at : ℕ) → Ok parts ≡ Err (Form at) → ⊥
    not_err parts at e = cc

fault_in : (bytes : List ℕ) (fail : CacheFail) (whole : List (List ℕ)) → (lines_of bytes).whole ≡ whole → recorded_of bytes ≡ Err fail → from_lines whole (lines_of bytes).left ≡ Err fail → IsFault bytes fail
fault_in bytes fail [] cut given e =
    let is = same_fail (Form 0) fail e in
    subst (IsFault bytes) is (form_fault bytes 0 [] (given ∙ ap (λ (f : CacheFail). Err f) (sym is)) (fits_none bytes) refl)
  where
    same_fail : (a b : CacheFail) → ◌≡◌ {A = Result Recorded CacheFail} (Err a) (Err b) → a ≡ b
    same_fail a b e = cc
fault_in bytes fail (l ∷ ls) cut given e = elim (first_is l ls (lines_of bytes).left) [
  | no_version none ↦
      let is = same_fail (Form 0) fail (sym none ∙ e) in
      subst (IsFault bytes) is (form_fault bytes 0 [] (given ∙ ap (λ (f : CacheFail). Err f) (sym is)) (fits_none bytes) refl)
  | other_version n other fits named none ↦
      let is = same_fail (Version n) fail (sym none ∙ e) in
      subst (IsFault bytes) is (record {
        other = other;
        fits = fits;
        rest = flat_map line ls ++ (lines_of bytes).left;
        whole = text_is bytes l ls cut ∙ ap (λ k. line k ++ (flat_map line ls ++ (lines_of bytes).left)) named;
      })
  | version_1 first ran ↦
      let stops = run_stops (length l + 1) Versioned ls (lines_of bytes).left fail (sym ran ∙ e) in
      let at = (length l + 1) + length (flat_map line stops.front) in
      let size : length (flat_map line (l ∷ stops.front)) ≡ at = omega (arith, length-append (line l) (flat_map line stops.front), length-append l (10 ∷ [])) in
      subst (IsFault bytes) (sym stops.place) (form_fault bytes at (l ∷ stops.front) (given ∙ ap (λ (f : CacheFail). Err f) stops.place) (fits_front bytes l ls stops.front stops.more stops.last cut first stops.parts stops.takes) size)
]
  where
    same_fail : (a b : CacheFail) → ◌≡◌ {A = Result Recorded CacheFail} (Err a) (Err b) → a ≡ b
    same_fail a b e = cc

pub is_fault : (bytes : List ℕ) (fail : CacheFail) → recorded_of bytes ≡ Err fail → IsFault bytes fail
unfolding recorded_of
is_fault bytes fail e = fault_in bytes fail (lines_of bytes).whole refl e e
