-- Rows as a finite map.
use Rattle.std.proofs.Common.{◌≡◌, ℕ, ◌+◌, ◌<◌, cond, List, [], ◌∷◌, ◌++◌, take, get_or, length, refl, sym, ap, ◌∙◌, bytes_eq, Some}
use Rattle.std.specs.Ordering.{nat_cmp}
use Rattle.std.specs.Cmp.Lexicographic.{slice_cmp}
use Rattle.std.specs.FinMap as map
use Rattle.std.specs.FinMap.{get-empty, get-insert, same_map, nat_cmp-IsAntisymmetric, slice_cmp-IsAntisymmetric}
use Rattle.std.proofs.lemmas.Cmp.{nat_list_cmp_total, nat_list_eq_equiv}
use Rattle.std.proofs.lemmas.List.{take_more}
use Rattle.std.proofs.lemmas.Map.Text.{is_eq-slice_cmp}
use Rattle.sqlite_value.specs.Order.{Row}
use Rattle.child_ports.specs.declared.keeper.Pair.{Pair}
use Rattle.child_ports.specs.Keeper.{Kept, with_pairs}
use Rattle.state_store.specs.KeptTable.{key_of, value_of, map_of}
use Rattle.state_store.proofs.RowLemmas.{value_at, PutsAt}

get_put : (kept : Kept) (key value k : List ℕ) → map.get (map.insert kept key value) k ≡ cond (bytes_eq key k) (Some value) (map.get kept k)
get_put kept key value k =
    get-insert nat_list_cmp_total kept key value k ∙ ap (λ b. cond b (Some value) (map.get kept k)) (is_eq-slice_cmp k key ∙ nat_list_eq_equiv.symm k key)

pub get-map_of : (rows : List Row) (k : List ℕ) → map.get (map_of rows) k ≡ value_at rows k
get-map_of [] k = get-empty (slice_cmp nat_cmp) k
get-map_of (row ∷ rows) k =
    get_put (map_of rows) (key_of row) (value_of row) k ∙ ap (λ o. cond (bytes_eq (key_of row) k) (Some (value_of row)) o) (get-map_of rows k)

pub put_is : (key value : List ℕ) (old new : List Row) → PutsAt key value old new → map_of new ≡ map.insert (map_of old) key value
put_is key value old new puts =
    same_map nat_list_cmp_total (slice_cmp-IsAntisymmetric nat_cmp-IsAntisymmetric) (map_of new) (map.insert (map_of old) key value)
    (λ k. get-map_of new k ∙ puts k ∙ sym (get_put (map_of old) key value k ∙ ap (λ o. cond (bytes_eq key k) (Some value) o) (get-map_of old k)))

with_pairs-push : (kept : Kept) (pairs : List Pair) (pair : Pair) → with_pairs kept (pairs ++ pair ∷ []) ≡ map.insert (with_pairs kept pairs) pair.key pair.value
with_pairs-push kept [] pair = refl
with_pairs-push kept (p ∷ pairs) pair = with_pairs-push (map.insert kept p.key p.value) pairs pair

pub put_more : (pairs : List Pair) (i : ℕ) (it : Pair) (kept mid new : Kept) → i < length pairs → it ≡ get_or pairs i it → mid ≡ with_pairs kept (take i pairs) → new ≡ map.insert mid it.key it.value
    → new ≡ with_pairs kept (take (i + 1) pairs)
put_more pairs i it kept mid new low is so put =
    let more : take (i + 1) pairs ≡ take i pairs ++ it ∷ [] = take_more pairs i it low ∙ ap (λ x. take i pairs ++ x ∷ []) (sym is) in
    put ∙ ap (λ m. map.insert m it.key it.value) so ∙ sym (with_pairs-push kept (take i pairs) it) ∙ ap (with_pairs kept) (sym more)
