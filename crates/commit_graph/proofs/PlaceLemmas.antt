-- Places tell what is in the list of work.
use Rattle.std.proofs.Common.{◌≡◌, ℕ, ◌+◌, ◌-◌, ◌<◌, ◌≤◌, true, false, cond, List, [], ◌∷◌, ◌++◌, length, Option, Some, None, refl, sym, ap, ◌∙◌, arith, inl, inr, length-append}
use Rattle.std.specs.List.{slice_index_or}
use Rattle.std.specs.Option.{option_map, IsSome}
use Rattle.std.proofs.lemmas.Bool.{true≢false}
use Rattle.std.proofs.lemmas.List.{get_or_append_left, get_or-append_right, get_or_default}
use Rattle.commit_graph.specs.declared.node.Node.{Node}
use Rattle.commit_graph.specs.History.{Name}
use Rattle.commit_graph.specs.Level.{node_at}
use Rattle.commit_graph.specs.Reaching.{place_of, AreInPlace}
use Rattle.commit_graph.specs.Walk.{same_name, is_in}
use Rattle.commit_graph.proofs.OrderLemmas.{names_equiv, names_exact}
use Rattle.commit_graph.proofs.WalkLemmas.{is_in-place}
use Rattle.commit_graph.proofs.ClosureLemmas.{at_or_below, at_place}
use Rattle.commit_graph.proofs.SettlingLemmas.{test_cases}

-- a member stands at its place
pub in_place : (nodes : List (Name × Node)) (work : List Name) (id : Name) → AreInPlace nodes work → is_in work id ≡ true → (k : ℕ) × (k < length work) × (slice_index_or work k id ≡ id) × (option_map place_of (node_at nodes id) ≡ Some k)
in_place nodes work id places t =
    let at = is_in-place work id t in
    (at.0, at.1, at.2, ap (λ x. option_map place_of (node_at nodes x)) (sym at.2) ∙ places at.0 id at.1)

place_is : (n : Node) (k : ℕ) → Some (place_of n) ≡ Some k → place_of n ≡ k
place_is n k e = cc

no_place : (k : ℕ) → None ≡ Some k → ⊥
no_place k e = cc

-- a commit that isn't held
pub marked_absent : (nodes : List (Name × Node)) (work : List Name) (id : Name) → AreInPlace nodes work → node_at nodes id ≡ None → false ≡ is_in work id
marked_absent nodes work id places gone = elim (test_cases (is_in work id)) [
  | inl t ↦ let at = in_place nodes work id places t in absurd (no_place at.0 (sym (ap (option_map place_of) gone) ∙ at.3))
  | inr f ↦ sym f
]

-- a commit whose place is past the end
pub marked_past : (nodes : List (Name × Node)) (work : List Name) (id : Name) (n : Node) → AreInPlace nodes work → node_at nodes id ≡ Some n → length work ≤ place_of n → false ≡ is_in work id
marked_past nodes work id n places there past = elim (test_cases (is_in work id)) [
  | inl t ↦ let at = in_place nodes work id places t in let same = place_is n at.0 (sym (ap (option_map place_of) there) ∙ at.3) in absurd (omega (arith, at.1))
  | inr f ↦ sym f
]

-- a commit whose place holds this one
pub marked_here : (nodes : List (Name × Node)) (work : List Name) (id item : Name) (n : Node) → AreInPlace nodes work → node_at nodes id ≡ Some n → place_of n < length work → item ≡ slice_index_or work (place_of n) item → same_name item id ≡ is_in work id
marked_here nodes work id item n places there low is = elim (test_cases (same_name item id)) [
  | inl same ↦ same ∙ sym (ap (is_in work) (sym (names_exact item id same) ∙ is) ∙ at_place work (place_of n) item low)
  | inr apart ↦ apart ∙ elim (test_cases (is_in work id)) as (λ _. false ≡ is_in work id) [
    | inl t ↦ let at = in_place nodes work id places t in
        let same = place_is n at.0 (sym (ap (option_map place_of) there) ∙ at.3) in
        let equal : item ≡ id = is ∙ get_or_default work (place_of n) item id low ∙ ap (λ k. slice_index_or work k id) same ∙ at.2 in
        absurd (true≢false (sym (ap (λ x. same_name x id) equal ∙ names_equiv.refl id) ∙ apart))
    | inr f ↦ sym f
  ]
]

set_some : (o : Option Node) (place : ℕ) → IsSome o → option_map (λ (before : ℕ). place) (option_map place_of o) ≡ Some place
set_some None place h = absurd (true≢false (sym h))
set_some (Some n) place h = refl

kept_id : (o : Option ℕ) → option_map (λ before. before) o ≡ o
kept_id None = refl
kept_id (Some n) = refl

minus : (n : ℕ) → n - n ≡ 0
minus n = omega arith

differs : (work : List Name) (id q : Name) → is_in work id ≡ false → is_in work q ≡ true → same_name id q ≡ false
differs work id q absent t = elim (test_cases (same_name id q)) [
  | inl same ↦ absurd (true≢false (sym (ap (is_in work) (names_exact id q same) ∙ t) ∙ absent))
  | inr f ↦ f
]

-- one more in its place
pub places_more : (old new : List (Name × Node)) (work more : List Name) (id : Name) (place : ℕ) → AreInPlace old work → is_in work id ≡ false → IsSome (node_at old id) → more ≡ work ++ id ∷ [] → place ≡ length work
    → ((q : Name) → option_map place_of (node_at new q) ≡ option_map (λ before. cond (same_name id q) place before) (option_map place_of (node_at old q))) → AreInPlace new more
places_more old new work more id place places absent there grown is set = λ k d low.
    let size : length more ≡ length work + 1 = ap length grown ∙ length-append work (id ∷ []) in
    elim (at_or_below k (length work) (omega arith)) [
      | inl less ↦
          let q : Name = slice_index_or work k d in
          let same : slice_index_or more k d ≡ q = ap (λ ids. slice_index_or ids k d) grown ∙ get_or_append_left work (id ∷ []) d k less in
          let apart : same_name id q ≡ false = differs work id q absent (at_place work k d less) in
          ap (λ x. option_map place_of (node_at new x)) same ∙ set q ∙ ap (λ b. option_map (λ before. cond b place before) (option_map place_of (node_at old q))) apart ∙ kept_id (option_map place_of (node_at old q)) ∙ places k d less
      | inr last ↦
          let same : slice_index_or more k d ≡ id = ap (λ ids. slice_index_or ids k d) grown ∙ get_or-append_right work (id ∷ []) k k d (sym last) (omega arith) ∙ ap (λ j. slice_index_or (id ∷ []) j d) (minus k) in
          ap (λ x. option_map place_of (node_at new x)) same ∙ set id ∙ ap (λ b. option_map (λ before. cond b place before) (option_map place_of (node_at old id))) (names_equiv.refl id) ∙ set_some (node_at old id) place there ∙ ap Some (is ∙ sym last)
    ]
