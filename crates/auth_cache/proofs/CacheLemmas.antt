-- What a text gives under a scope.
use Rattle.std.proofs.Common.{◌≡◌, ◌≢◌, ◌⊎◌, inl, inr, ℕ, Bool, true, false, cond, ◌&&◌, Result, Ok, Err, IfOk, IfErr, List, [], ◌∷◌, ◌++◌, refl, sym, ap, ◌∙◌, subst, codes, bytes_eq}
use Rattle.std.specs.FinSet.{from_list}
use Rattle.std.specs.List.{AllByRecursion, flat_map}
use Rattle.std.specs.List.Sorted.{IsStrictlySortedBy}
use Rattle.std.proofs.lemmas.Bool.{false≢true, and_parts, and_from}
use Rattle.std.proofs.lemmas.Slice.Eq.{bytes_eq-Decides}
use Rattle.child_ports.specs.declared.fingerprint.Fingerprint.{Fingerprint}
use Rattle.child_ports.specs.KeySet.{Keys, key_cmp}
use Rattle.object_frames.specs.Id.{IsId}
use Rattle.authorizations.specs.declared.scope.Scope.{Scope}
use Rattle.auth_cache.specs.declared.fail.CacheFail.{CacheFail}
use Rattle.auth_cache.specs.declared.fail.CacheFail.TheVariants.{Version, Form, Memory}
use Rattle.auth_cache.specs.declared.front.Recorded.{Recorded}
use Rattle.auth_cache.specs.Entries.{AreEntries}
use Rattle.auth_cache.specs.Faults.{IsFault}
use Rattle.auth_cache.specs.Found.{CanBeRecorded, IsFound}
use Rattle.auth_cache.specs.Keys.{IsKey, ascending}
use Rattle.auth_cache.specs.Lines.{line}
use Rattle.auth_cache.specs.Reading.{Gives, keys_eq, is_under, entries_for, recorded_of, cache_of}
use Rattle.auth_cache.specs.Text.{IsRecorded, parts_of, text_of, scope_of, spelling, heading, historical_line, commit_line}
use Rattle.auth_cache.proofs.FaultLemmas.{is_recorded, is_fault, Recording}
use Rattle.auth_cache.proofs.KeyLemmas.{ascending_sorted, ascending_from_list, from_list_ascending}
use Rattle.auth_cache.proofs.ReadingLemmas.{cache_ok, cache_err, cache_split}
use Rattle.auth_cache.proofs.WholeLemmas.{recorded_of-spelling}
use Rattle.auth_cache.proofs.WritingLemmas.{four_from_none}

-- ---- the same scope

keys_same : (ks ms : List Fingerprint) → keys_eq ks ms ≡ true → ks ≡ ms
keys_same [] [] e = refl
keys_same [] (m ∷ ms) e = absurd (false≢true e)
keys_same (k ∷ ks) [] e = absurd (false≢true e)
keys_same (k ∷ ks) (m ∷ ms) e =
    let both = and_parts (bytes_eq k.0 m.0) (keys_eq ks ms) e in
    ap (λ (bytes : List ℕ). record { 0 = bytes } ∷ ks) ((bytes_eq-Decides k.0 m.0).0 both.0) ∙ ap (λ l. m ∷ l) (keys_same ks ms both.1)

bytes_itself : (bytes : List ℕ) → bytes_eq bytes bytes ≡ true
bytes_itself bytes = (bytes_eq-Decides bytes bytes).1 refl

keys_itself : (ks : List Fingerprint) → keys_eq ks ks ≡ true
keys_itself [] = refl
keys_itself (k ∷ ks) = and_from (bytes_eq k.0 k.0) (keys_eq ks ks) (bytes_itself k.0) (keys_itself ks)

record SameParts (r s : Recorded) : Type 0 where
  pub intro : r.intro ≡ s.intro
  pub signer : r.signer ≡ s.signer
  pub keyring : r.keyring ≡ s.keyring
  pub keys : r.keys ≡ s.keys

same_parts : (r : Recorded) (scope : Scope) → is_under r scope ≡ true → SameParts r (parts_of scope [])
same_parts r scope e =
    let keys = keys_eq r.keys (ascending scope.historical) in
    let intro = bytes_eq r.intro scope.intro in
    let signer = bytes_eq r.signer.0 scope.signer.0 in
    let keyring = bytes_eq r.keyring scope.keyring_tree in
    let last = and_parts ((intro && signer) && keyring) keys e in
    let third = and_parts (intro && signer) keyring last.0 in
    let second = and_parts intro signer third.0 in
    record {
      intro = (bytes_eq-Decides r.intro scope.intro).0 second.0;
      signer = ap (λ (bytes : List ℕ). record { 0 = bytes }) ((bytes_eq-Decides r.signer.0 scope.signer.0).0 second.1);
      keyring = (bytes_eq-Decides r.keyring scope.keyring_tree).0 third.1;
      keys = keys_same r.keys (ascending scope.historical) last.1;
    }

under_same : (r : Recorded) (scope : Scope) → is_under r scope ≡ true → scope_of r ≡ scope
under_same r scope e =
    let is = same_parts r scope e in
    ap (λ (bytes : List ℕ). record { intro = bytes; signer = r.signer; keyring_tree = r.keyring; historical = from_list r.keys }) is.intro
    ∙ ap (λ (key : Fingerprint). record { intro = scope.intro; signer = key; keyring_tree = r.keyring; historical = from_list r.keys }) is.signer
    ∙ ap (λ (bytes : List ℕ). record { intro = scope.intro; signer = scope.signer; keyring_tree = bytes; historical = from_list r.keys }) is.keyring
    ∙ ap (λ (ks : Keys). record { intro = scope.intro; signer = scope.signer; keyring_tree = scope.keyring_tree; historical = ks }) (ap (λ ks. from_list {R = key_cmp} ks) is.keys ∙ from_list_ascending scope.historical)

under_itself : (r : Recorded) → IsStrictlySortedBy key_cmp r.keys → is_under r (scope_of r) ≡ true
under_itself r s =
    let keys = keys_eq r.keys (ascending (from_list r.keys)) in
    let same : keys ≡ true = ap (keys_eq r.keys) (ascending_from_list r.keys s) ∙ keys_itself r.keys in
    let intro = bytes_eq r.intro r.intro in
    let signer = bytes_eq r.signer.0 r.signer.0 in
    let keyring = bytes_eq r.keyring r.keyring in
    and_from ((intro && signer) && keyring) keys (and_from (intro && signer) keyring (and_from intro signer (bytes_itself r.intro) (bytes_itself r.signer.0)) (bytes_itself r.keyring)) same

-- ---- a scope as the parts of a text

pub scope_of-parts_of : (scope : Scope) (ids : List (List ℕ)) → scope_of (parts_of scope ids) ≡ scope
scope_of-parts_of scope ids = ap (λ (ks : Keys). record { intro = scope.intro; signer = scope.signer; keyring_tree = scope.keyring_tree; historical = ks }) (from_list_ascending scope.historical)

parts_recorded : (scope : Scope) (ids : List (List ℕ)) → CanBeRecorded scope ids → IsRecorded (parts_of scope ids)
parts_recorded scope ids is = record {
  intro = is.scope_is.intro;
  signer = is.scope_is.signer;
  keyring = is.scope_is.keyring;
  keys = record { each = is.scope_is.keys; ascending = ascending_sorted scope.historical };
  each = is.each;
  commits = is.commits;
}

-- ---- the laws

text_recorded : (scope : Scope) (ids : List (List ℕ)) → CanBeRecorded scope ids → recorded_of (text_of scope ids) ≡ Ok (parts_of scope ids)
text_recorded scope ids is = recorded_of-spelling (parts_of scope ids) (parts_recorded scope ids is)

pub cache_same : (scope : Scope) (ids : List (List ℕ)) → CanBeRecorded scope ids → cache_of (text_of scope ids) scope ≡ Ok ids
cache_same scope ids is =
    cache_ok (text_of scope ids) scope (parts_of scope ids) (text_recorded scope ids is)
    ∙ ap (λ b. Ok (cond b ids [])) (sym (ap (is_under (parts_of scope ids)) (scope_of-parts_of scope ids)) ∙ under_itself (parts_of scope ids) (ascending_sorted scope.historical))

pub cache_other : (scope other : Scope) (ids : List (List ℕ)) → CanBeRecorded scope ids → other ≢ scope → cache_of (text_of scope ids) other ≡ Ok []
cache_other scope other ids is differs =
    cache_ok (text_of scope ids) other (parts_of scope ids) (text_recorded scope ids is)
    ∙ ap (λ b. Ok (cond b ids [])) (not_true (is_under (parts_of scope ids) other) (λ e. differs (sym (under_same (parts_of scope ids) other e) ∙ scope_of-parts_of scope ids)))
  where
    not_true : (b : Bool) → b ≢ true → b ≡ false
    not_true true h = absurd (h refl)
    not_true false h = refl

-- a text gives no entries under a scope, or it records that one
pub cache_under : (scope other : Scope) (ids : List (List ℕ)) → CanBeRecorded scope ids → (cache_of (text_of scope ids) other ≡ Ok []) ⊎ (scope ≡ other)
cache_under scope other ids is = by_test (is_under (parts_of scope ids) other) refl
  where
    by_test : (b : Bool) → is_under (parts_of scope ids) other ≡ b → (cache_of (text_of scope ids) other ≡ Ok []) ⊎ (scope ≡ other)
    by_test true e = inr (sym (scope_of-parts_of scope ids) ∙ under_same (parts_of scope ids) other e)
    by_test false e = inl (cache_ok (text_of scope ids) other (parts_of scope ids) (text_recorded scope ids is) ∙ ap (λ b. Ok (cond b ids [])) e)

-- ---- what is found

recorded_parts : (r : Recorded) → IsRecorded r → CanBeRecorded (scope_of r) r.commits
recorded_parts r is = record {
  scope_is = record { intro = is.intro; signer = is.signer; keyring = is.keyring; keys = subst (AllByRecursion IsKey) (sym (ascending_from_list r.keys is.keys.ascending)) is.keys.each };
  each = is.each;
  commits = is.commits;
}

parts_again : (r : Recorded) → IsRecorded r → parts_of (scope_of r) r.commits ≡ r
parts_again r is = ap (λ (ks : List Fingerprint). record { intro = r.intro; signer = r.signer; keyring = r.keyring; keys = ks; commits = r.commits }) (ascending_from_list r.keys is.keys.ascending)

found_in : (bytes : List ℕ) (scope : Scope) (r : Recorded) → Recording bytes r → IsFound bytes scope (entries_for r scope)
found_in bytes scope r it = record {
  recorded = scope_of r;
  ids = r.commits;
  is = recorded_parts r it.is;
  whole = it.whole ∙ ap spelling (sym (parts_again r it.is));
  same = λ e. ap (λ b. cond b r.commits []) (sym (ap (is_under r) e) ∙ under_itself r it.is.keys.ascending);
  other = λ ne. ap (λ b. cond b r.commits []) (not_true (is_under r scope) (λ e. ne (under_same r scope e)));
}
  where
    not_true : (b : Bool) → b ≢ true → b ≡ false
    not_true true h = absurd (h refl)
    not_true false h = refl

pub found_is : (bytes : List ℕ) (scope : Scope) (result : Result (List (List ℕ)) CacheFail) → Gives result (cache_of bytes scope) → IfOk result (λ entries. IsFound bytes scope entries)
found_is bytes scope (Err fail) given = tt
found_is bytes scope (Ok entries) given = elim (cache_split bytes scope) [
  | inl some ↦ subst (IsFound bytes scope) (same_ok (entries_for some.0 scope) entries (sym (cache_ok bytes scope some.0 some.1) ∙ given)) (found_in bytes scope some.0 (is_recorded bytes some.0 some.1))
  | inr none ↦ absurd (not_ok none.0 entries (sym (cache_err bytes scope none.0 none.1) ∙ given))
]
  where
    same_ok : (a b : List (List ℕ)) → ◌≡◌ {A = Result (List (List ℕ)) CacheFail} (Ok a) (Ok b) → a ≡ b
    same_ok a b e = cc

    not_ok : (fail : CacheFail) (a : List (List ℕ)) → Err fail ≡ Ok a → ⊥
    not_ok fail a e = cc

fault_of : (bytes : List ℕ) (scope : Scope) (fail : CacheFail) → cache_of bytes scope ≡ Err fail → IsFault bytes fail
fault_of bytes scope fail given = elim (cache_split bytes scope) [
  | inl some ↦ absurd (not_err (entries_for some.0 scope) fail (sym (cache_ok bytes scope some.0 some.1) ∙ given))
  | inr none ↦ subst (IsFault bytes) (same_err none.0 fail (sym (cache_err bytes scope none.0 none.1) ∙ given)) (is_fault bytes none.0 none.1)
]
  where
    same_err : (a b : CacheFail) → ◌≡◌ {A = Result (List (List ℕ)) CacheFail} (Err a) (Err b) → a ≡ b
    same_err a b e = cc

    not_err : (a : List (List ℕ)) (fail : CacheFail) → Ok a ≡ Err fail → ⊥
    not_err a fail e = cc

pub cause_is : (bytes : List ℕ) (scope : Scope) (result : Result (List (List ℕ)) CacheFail) → Gives result (cache_of bytes scope) → IfErr result (λ fail. IsFault bytes fail)
cause_is bytes scope (Ok entries) given = tt
cause_is bytes scope (Err (Version n)) given = fault_of bytes scope (Version n) given
cause_is bytes scope (Err (Form at)) given = fault_of bytes scope (Form at) given
cause_is bytes scope (Err Memory) given = tt

read_one : (bytes : List ℕ) (scope : Scope) (fail : CacheFail) (recorded : Scope) (ids : List (List ℕ)) → CanBeRecorded recorded ids → bytes ≡ text_of recorded ids → cache_of bytes scope ≡ Err fail → ⊥
read_one bytes scope fail recorded ids is e given = not_err _ fail (sym (cache_ok bytes scope (parts_of recorded ids) (ap recorded_of e ∙ text_recorded recorded ids is)) ∙ given)
  where
    not_err : (a : List (List ℕ)) (fail : CacheFail) → Ok a ≡ Err fail → ⊥
    not_err a fail e = cc

pub only_memory : (bytes : List ℕ) (scope : Scope) (result : Result (List (List ℕ)) CacheFail) → Gives result (cache_of bytes scope) → (recorded : Scope) (ids : List (List ℕ)) → CanBeRecorded recorded ids → bytes ≡ text_of recorded ids → IfErr result (λ fail. fail ≡ Memory)
only_memory bytes scope (Ok entries) given recorded ids is e = tt
only_memory bytes scope (Err (Version n)) given recorded ids is e = absurd (read_one bytes scope (Version n) recorded ids is e given)
only_memory bytes scope (Err (Form at)) given recorded ids is e = absurd (read_one bytes scope (Form at) recorded ids is e given)
only_memory bytes scope (Err Memory) given recorded ids is e = refl

-- ---- what is written

pub written : (scope : Scope) (ids : List (List ℕ)) (keys : List Fingerprint) (t1 t2 t3 t4 : List ℕ) → scope.historical ≡ from_list keys → IsStrictlySortedBy key_cmp keys
    → t1 ≡ heading scope.intro scope.signer scope.keyring_tree → t2 ≡ t1 ++ flat_map historical_line keys → t3 ≡ t2 ++ flat_map commit_line ids → t4 ≡ t3 ++ line (codes "end") → t4 ≡ text_of scope ids
unfolding spelling
written scope ids keys t1 t2 t3 t4 is s a b c d =
    four_from_none t1 t2 t3 t4 (heading scope.intro scope.signer scope.keyring_tree) (flat_map historical_line keys) (flat_map commit_line ids) (line (codes "end")) a b c d
    ∙ ap (λ ks. heading scope.intro scope.signer scope.keyring_tree ++ (flat_map historical_line ks ++ (flat_map commit_line ids ++ line (codes "end")))) (sym (ascending_from_list keys s) ∙ ap ascending (sym is))

pub can_be : (scope : Scope) (ids : List (List ℕ)) (keys : List Fingerprint) → scope.historical ≡ from_list keys → IsStrictlySortedBy key_cmp keys → IsId scope.intro × IsKey scope.signer × IsId scope.keyring_tree → AllByRecursion IsKey keys → AllByRecursion IsId ids → AreEntries ids → CanBeRecorded scope ids
can_be scope ids keys is s parts each ids_each entries = record {
  scope_is = record { intro = parts.0; signer = parts.1; keyring = parts.2; keys = subst (AllByRecursion IsKey) (sym (ascending_from_list keys s) ∙ ap ascending (sym is)) each };
  each = ids_each;
  commits = entries;
}
