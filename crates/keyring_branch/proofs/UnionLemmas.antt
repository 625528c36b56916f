-- Adding the keys of one set to another, one key at a time.
use Rattle.std.proofs.Common.{◌≡◌, ℕ, ◌+◌, ◌<◌, Bool, true, false, ◌||◌, List, length, get_or, take, refl, sym, ap, ◌∙◌}
use Rattle.std.specs.FinSet.{empty, contains, insert, from_list, union, contains-empty, contains-insert, contains-union, same_set, from_list_push}
use Rattle.std.specs.Ordering.{eq_by_cmp}
use Rattle.std.proofs.lemmas.Grind.{take_at_read}
use Rattle.child_ports.specs.declared.fingerprint.Fingerprint.{Fingerprint}
use Rattle.child_ports.specs.KeySet.{key_cmp, Keys}
use Rattle.child_ports.proofs.KeySetLemmas.{key_cmp_total, key_cmp-IsAntisymmetric}

same : (s t : Keys) → ((q : Fingerprint) → contains s q ≡ contains t q) → s ≡ t
same s t is = same_set key_cmp_total key_cmp-IsAntisymmetric s t is

or_swap : (a b c : Bool) → (a || (b || c)) ≡ (b || (a || c))
or_swap true true c = refl
or_swap true false c = refl
or_swap false b c = refl

or-false : (a : Bool) → (a || false) ≡ a
or-false true = refl
or-false false = refl

pub union-empty : (s : Keys) → union s empty ≡ s
union-empty s = same _ _ (λ q. contains-union key_cmp_total s empty q ∙ ap (λ b. contains s q || b) (contains-empty key_cmp q) ∙ or-false (contains s q))

union-insert : (s t : Keys) (k : Fingerprint) → union s (insert t k) ≡ insert (union s t) k
union-insert s t k = same _ _ (λ q.
    contains-union key_cmp_total s (insert t k) q
    ∙ ap (λ b. contains s q || b) (contains-insert key_cmp_total t k q)
    ∙ or_swap (contains s q) (eq_by_cmp key_cmp q k) (contains t q)
    ∙ sym (contains-insert key_cmp_total (union s t) k q ∙ ap (λ b. eq_by_cmp key_cmp q k || b) (contains-union key_cmp_total s t q)))

or_assoc : (a b c : Bool) → ((a || b) || c) ≡ (a || (b || c))
or_assoc true b c = refl
or_assoc false b c = refl

pub union-none : (s : Keys) → union empty s ≡ s
union-none s = same _ _ (λ q. contains-union key_cmp_total empty s q ∙ ap (λ b. b || contains s q) (contains-empty key_cmp q))

pub union-union : (s t u : Keys) → union (union s t) u ≡ union s (union t u)
union-union s t u = same _ _ (λ q.
    contains-union key_cmp_total (union s t) u q
    ∙ ap (λ b. b || contains u q) (contains-union key_cmp_total s t q)
    ∙ or_assoc (contains s q) (contains t q) (contains u q)
    ∙ sym (contains-union key_cmp_total s (union t u) q ∙ ap (λ b. contains s q || b) (contains-union key_cmp_total t u q)))

pub key_more : (s now new : Keys) (ks : List Fingerprint) (i : ℕ) (d : Fingerprint) → i < length ks → now ≡ union s (from_list (take i ks)) → new ≡ insert now (get_or ks i d) → new ≡ union s (from_list (take (i + 1) ks))
key_more s now new ks i d h so put =
    let step : from_list {R = key_cmp} (take (i + 1) ks) ≡ insert (from_list (take i ks)) (get_or ks i d) =
    ap (λ (l : List Fingerprint). from_list {R = key_cmp} l) (take_at_read ks i d h).1 ∙ from_list_push key_cmp_total key_cmp-IsAntisymmetric (take i ks) (get_or ks i d) in
    put ∙ ap (λ (n : Keys). insert n (get_or ks i d)) so ∙ sym (union-insert s (from_list (take i ks)) (get_or ks i d)) ∙ ap (λ (t : Keys). union s t) (sym step)
