-- What is found among records after pairs were put.
use Rattle.std.proofs.Common.{◌≡◌, ◌≢◌, ℕ, Bool, true, false, cond, List, [], ◌∷◌, ◌++◌, Option, Some, None, refl, sym, ap, ◌∙◌, codes, get_or, arith}
use Rattle.std.specs.FinMap as map
use Rattle.std.specs.FinMap.{get-insert}
use Rattle.std.specs.Cmp.Lexicographic.{nat_list_cmp_total}
use Rattle.std.specs.List.{AllByRecursion}
use Rattle.std.specs.Prelude.{bytes_eq}
use Rattle.std.proofs.lemmas.List.{append_cancel_left}
use Rattle.std.proofs.lemmas.Map.Text.{is_eq-slice_cmp}
use Rattle.std.proofs.lemmas.Slice.Eq.{bytes_eq-Decides}
use Rattle.child_ports.specs.Keeper.{Kept, with_pairs}
use Rattle.child_ports.specs.declared.keeper.Pair.{Pair}

-- none of the pairs has the key
abbrev pub LeaveKey : List ℕ → List Pair → Type 0
LeaveKey key pairs = AllByRecursion (λ (pair : Pair). key ≢ pair.key) pairs

pub pairs_after : (kept : Kept) (a b : List Pair) → with_pairs kept (a ++ b) ≡ with_pairs (with_pairs kept a) b
pairs_after kept [] b = refl
pairs_after kept (pair ∷ a) b = pairs_after (map.insert kept pair.key pair.value) a b

pub leave_both : (key : List ℕ) (a b : List Pair) → LeaveKey key a → LeaveKey key b → LeaveKey key (a ++ b)
leave_both key [] b first second = second
leave_both key (pair ∷ a) b first second = (first.0, leave_both key a b first.1 second)

get_by : (kept : Kept) (pair : Pair) (key : List ℕ) → map.get (map.insert kept pair.key pair.value) key ≡ cond (bytes_eq key pair.key) (Some pair.value) (map.get kept key)
get_by kept pair key = get-insert nat_list_cmp_total kept pair.key pair.value key ∙ ap (λ (b : Bool). cond b (Some pair.value) (map.get kept key)) (is_eq-slice_cmp key pair.key)

found_there : (kept : Kept) (pair : Pair) (key : List ℕ) → key ≡ pair.key → map.get (map.insert kept pair.key pair.value) key ≡ Some pair.value
found_there kept pair key same = get_by kept pair key ∙ ap (λ (b : Bool). cond b (Some pair.value) (map.get kept key)) ((bytes_eq-Decides key pair.key).1 same)

test_false : (b : Bool) → (b ≡ true → ⊥) → b ≡ false
test_false true other = absurd (other refl)
test_false false other = refl

differs : (a b : List ℕ) → a ≢ b → bytes_eq a b ≡ false
differs a b other = test_false (bytes_eq a b) (λ is. other ((bytes_eq-Decides a b).0 is))

-- pairs of other keys leave what is found
pub found_before : (kept : Kept) (pairs : List Pair) (key : List ℕ) → LeaveKey key pairs → map.get (with_pairs kept pairs) key ≡ map.get kept key
found_before kept [] key leave = refl
found_before kept (pair ∷ pairs) key leave =
    found_before (map.insert kept pair.key pair.value) pairs key leave.1
    ∙ get_by kept pair key ∙ ap (λ (b : Bool). cond b (Some pair.value) (map.get kept key)) (differs key pair.key leave.0)

-- what is put before pairs of other keys is found
pub found_put : (kept : Kept) (before : List Pair) (pair : Pair) (after : List Pair) (key : List ℕ) → key ≡ pair.key → LeaveKey key after
    → map.get (with_pairs kept (before ++ pair ∷ after)) key ≡ Some pair.value
found_put kept before pair after key same leave =
    ap (λ (k : Kept). map.get k key) (pairs_after kept before (pair ∷ after))
    ∙ found_before (map.insert (with_pairs kept before) pair.key pair.value) after key leave
    ∙ found_there (with_pairs kept before) pair key same

-- ---- keys of channels

pub same_name : (a b : List ℕ) → codes "channels/" ++ a ≡ codes "channels/" ++ b → a ≡ b
same_name a b same = append_cancel_left (codes "channels/") a b same

pub other_kind : (a b : List ℕ) → codes "channels/" ++ a ≢ codes "deployed/" ++ b
other_kind a b same =
    let first : ◌≡◌ {A = ℕ} 99 100 = ap (λ (l : List ℕ). get_or l 0 0) same in
    absurd (omega (arith, first))
