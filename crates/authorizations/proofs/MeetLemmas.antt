-- Keys that two sets have in common, one key at a time.
use Rattle.std.proofs.Common.{◌≡◌, ℕ, ◌+◌, ◌<◌, Bool, true, false, ◌||◌, ◌&&◌, List, [], ◌∷◌, ◌++◌, length, get_or, take, refl, sym, ap, ◌∙◌}
use Rattle.std.specs.Cmp.{Equal-is}
use Rattle.std.specs.FinSet.{empty, contains, insert, from_list, intersection, contains-empty, contains-insert, contains-intersection, contains_tied, same_set, from_list_push}
use Rattle.std.specs.Ordering.{eq_by_cmp}
use Rattle.std.proofs.lemmas.Grind.{take_at_read}
use Rattle.child_ports.specs.declared.fingerprint.Fingerprint.{Fingerprint}
use Rattle.child_ports.specs.KeySet.{key_cmp, Keys}
use Rattle.child_ports.proofs.KeySetLemmas.{key_cmp_total, key_cmp-IsAntisymmetric}

same : (s t : Keys) → ((q : Fingerprint) → contains s q ≡ contains t q) → s ≡ t
same s t is = same_set key_cmp_total key_cmp-IsAntisymmetric s t is

tied : (b : Keys) (k q : Fingerprint) → eq_by_cmp key_cmp q k ≡ true → contains b q ≡ contains b k
tied b k q e = sym (contains_tied key_cmp_total b q k ((Equal-is (key_cmp q k)).0 e))

left : (b : Keys) (s : Keys) (k q : Fingerprint) → contains (intersection (insert s k) b) q ≡ ((eq_by_cmp key_cmp q k || contains s q) && contains b q)
left b s k q = contains-intersection key_cmp_total (insert s k) b q ∙ ap (λ x. x && contains b q) (contains-insert key_cmp_total s k q)

both_more : (e x y : Bool) → (e ≡ true → y ≡ true) → ((e || x) && y) ≡ (e || (x && y))
both_more true x y one = one refl
both_more false x y one = refl

both_less : (e x y : Bool) → (e ≡ true → y ≡ false) → ((e || x) && y) ≡ (x && y)
both_less true true y none = refl
both_less true false y none = none refl
both_less false x y none = refl

pub intersection-empty : (b : Keys) → intersection (empty {R = key_cmp}) b ≡ empty
intersection-empty b = same _ _ (λ q. contains-intersection key_cmp_total empty b q ∙ ap (λ x. x && contains b q) (contains-empty key_cmp q) ∙ sym (contains-empty key_cmp q))

intersection-more : (b s : Keys) (k : Fingerprint) → contains b k ≡ true → intersection (insert s k) b ≡ insert (intersection s b) k
intersection-more b s k is = same _ _ (λ q.
    left b s k q
    ∙ both_more _ _ _ (λ e. tied b k q e ∙ is)
    ∙ sym (contains-insert key_cmp_total (intersection s b) k q ∙ ap (λ x. eq_by_cmp key_cmp q k || x) (contains-intersection key_cmp_total s b q)))

intersection-less : (b s : Keys) (k : Fingerprint) → contains b k ≡ false → intersection (insert s k) b ≡ intersection s b
intersection-less b s k is = same _ _ (λ q.
    left b s k q
    ∙ both_less _ _ _ (λ e. tied b k q e ∙ is)
    ∙ sym (contains-intersection key_cmp_total s b q))

pub from_list-push : (ks : List Fingerprint) (k : Fingerprint) → from_list {R = key_cmp} (ks ++ k ∷ []) ≡ insert (from_list ks) k
from_list-push ks k = from_list_push key_cmp_total key_cmp-IsAntisymmetric ks k

one_more : (ks : List Fingerprint) (i : ℕ) (d : Fingerprint) → i < length ks → from_list {R = key_cmp} (take (i + 1) ks) ≡ insert (from_list (take i ks)) (get_or ks i d)
one_more ks i d h = ap (λ (l : List Fingerprint). from_list {R = key_cmp} l) (take_at_read ks i d h).1 ∙ from_list-push (take i ks) (get_or ks i d)

-- the first keys of a list that are in b: one more is taken, or passed over
pub meet_taken : (ks : List Fingerprint) (i : ℕ) (d : Fingerprint) (b now new : Keys) → i < length ks → now ≡ intersection (from_list (take i ks)) b → contains b (get_or ks i d) ≡ true → new ≡ insert now (get_or ks i d) → new ≡ intersection (from_list (take (i + 1) ks)) b
meet_taken ks i d b now new h so is e =
    let more : intersection (insert (from_list (take i ks)) (get_or ks i d)) b ≡ insert (intersection (from_list (take i ks)) b) (get_or ks i d) = intersection-more b _ _ is in
    let step : from_list {R = key_cmp} (take (i + 1) ks) ≡ insert (from_list (take i ks)) (get_or ks i d) = one_more ks i d h in
    cc

pub meet_passed : (ks : List Fingerprint) (i : ℕ) (d : Fingerprint) (b now new : Keys) → i < length ks → now ≡ intersection (from_list (take i ks)) b → contains b (get_or ks i d) ≡ false → new ≡ now → new ≡ intersection (from_list (take (i + 1) ks)) b
meet_passed ks i d b now new h so is e =
    let less : intersection (insert (from_list (take i ks)) (get_or ks i d)) b ≡ intersection (from_list (take i ks)) b = intersection-less b _ _ is in
    let step : from_list {R = key_cmp} (take (i + 1) ks) ≡ insert (from_list (take i ks)) (get_or ks i d) = one_more ks i d h in
    cc
