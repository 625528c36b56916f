-- Pairs as a map.
use Rattle.std.proofs.Common.{◌≡◌, ℕ, ◌+◌, ◌<◌, cond, List, [], ◌∷◌, ◌++◌, drop, get_or, length, refl, sym, ap, ◌∙◌, bytes_eq, append_assoc, Some}
use Rattle.std.specs.Prelude.{reverse}
use Rattle.std.specs.Cmp.Lexicographic.{nat_list_cmp_total}
use Rattle.std.specs.FinMap as map
use Rattle.std.specs.FinMap.{get-insert}
use Rattle.std.proofs.lemmas.List.{drop_more, reverse-append}
use Rattle.std.proofs.lemmas.Map.Text.{is_eq-slice_cmp}
use Rattle.child_ports.specs.declared.keeper.Pair.{Pair}
use Rattle.child_ports.specs.Keeper.{with_pairs, first_pairs}

-- what the first of the pairs adds
pub first_pair : (pairs : List Pair) (p : Pair) (q : List ℕ) → map.get (first_pairs (p ∷ pairs)) q ≡ cond (bytes_eq q p.key) (Some p.value) (map.get (first_pairs pairs) q)
first_pair pairs p q =
    get-insert nat_list_cmp_total (first_pairs pairs) p.key p.value q ∙ ap (λ b. cond b (Some p.value) (map.get (first_pairs pairs) q)) (is_eq-slice_cmp q p.key)

-- what the pair at i adds to those behind it
pub pair_at : (pairs : List Pair) (q : List ℕ) (i : ℕ) (p : Pair) → i < length pairs → p ≡ get_or pairs i p
    → map.get (first_pairs (drop i pairs)) q ≡ cond (bytes_eq q p.key) (Some p.value) (map.get (first_pairs (drop (i + 1) pairs)) q)
pair_at pairs q i p lt is =
    ap (λ l. map.get (first_pairs l) q) (drop_more pairs i p lt ∙ ap (λ x. x ∷ drop (i + 1) pairs) (sym is)) ∙ first_pair (drop (i + 1) pairs) p q

-- new pairs, the last first, before the old ones
pub last_counts : (new old : List Pair) → first_pairs (reverse new ++ old) ≡ with_pairs (first_pairs old) new
last_counts [] old = refl
last_counts (p ∷ new) old =
    ap (λ l. first_pairs (l ++ old)) (reverse-append (p ∷ []) new) ∙ ap first_pairs (append_assoc (reverse new) (p ∷ []) old) ∙ last_counts new (p ∷ old)
