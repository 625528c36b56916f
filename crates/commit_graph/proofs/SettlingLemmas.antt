-- A descent keeps levels right.
use Rattle.std.proofs.Common.{◌≡◌, ◌≢◌, ℕ, zero, suc, ◌+◌, ◌-◌, ◌<◌, ◌≤◌, Bool, true, false, cond, ◌||◌, List, [], ◌∷◌, ◌++◌, length, Option, Some, None, refl, sym, ap, ◌∙◌, subst, arith, ◌⊎◌, inl, inr, ⊎_elim, take, length-append}
use Rattle.std.specs.List.{IsDistinct, AllByRecursion, slice_index_or}
use Rattle.std.specs.Option.{option_map}
use Rattle.std.proofs.lemmas.Bool.{cases_eq, true≢false}
use Rattle.std.proofs.lemmas.List.{get_or_append_left, get_or-append_right, get_or_default, take_more}
use Rattle.std.proofs.Math.Seq.{take-length}
use Rattle.std.proofs.lemmas.Map.Keys.{IsDistinct-push}
use Rattle.commit_graph.specs.declared.node.Node.{Node}
use Rattle.commit_graph.specs.declared.level.Level.{Level}
use Rattle.commit_graph.specs.declared.level.Level.TheVariants.{Unknown, Entered, Known, Endless}
use Rattle.commit_graph.specs.Chains.{Reaches, IsGeneration}
use Rattle.commit_graph.specs.History.{Name, IsParent, IsWhole}
use Rattle.commit_graph.specs.Node.{held_of}
use Rattle.commit_graph.specs.Walk.{same_name, is_in}
use Rattle.commit_graph.specs.Level.{level_at, total, undecided, SetsLevel, GivesUp, AreSmall, AreLevels, IsSettled, IsEndless, IsTrail, NoneEntered, Settles}
use Rattle.commit_graph.proofs.OrderLemmas.{names_equiv, names_exact}
use Rattle.commit_graph.proofs.WalkLemmas.{is_in-push, is_in-place, either, left_of, right_of}
use Rattle.commit_graph.proofs.ChainLemmas.{reach_itself, reach_from_child}
use Rattle.commit_graph.proofs.EndlessLemmas.{endless_parent, endless_reach, cycle_endless}
use Rattle.commit_graph.proofs.LevelLemmas.{came_from, levels_set, settled_generation}

minus : (k : ℕ) → (k + 1) - (k + 1) ≡ 0
minus k = omega arith

-- the state of a descent
pub record IsDescent (old nodes : List (Name × Node)) (trail : List Name) : Type 0 where
  pub held : held_of nodes ≡ held_of old
  pub size : length nodes ≡ length old
  pub levels : AreLevels nodes
  pub is_trail : IsTrail nodes trail
  pub stays : (q : Name) → level_at old q ≢ Some Unknown → level_at nodes q ≢ Some Unknown

pub descent_start : (nodes : List (Name × Node)) → AreLevels nodes → NoneEntered nodes → IsDescent nodes nodes []
unfolding IsDistinct
descent_start nodes levels rest = record {
  held = refl;
  size = refl;
  levels = levels;
  is_trail = record { distinct = tt; entered = λ q e. absurd (rest q e); listed = λ q t. absurd (true≢false (sym t)); chain = λ k d e low. absurd (omega arith) };
  stays = λ q h. h;
}

level_there : (to before : Level) (b : Bool) (o : Option Level) → o ≡ Some before → b ≡ true → option_map (λ l. cond b to l) o ≡ Some to
level_there to before b o e t = ap (option_map (λ l. cond b to l)) e ∙ ap (λ c. Some (cond c to before)) t

-- the level at the id that was set
pub set_there : (old new : List (Name × Node)) (id : Name) (to before : Level) → SetsLevel old new id to → level_at old id ≡ Some before → level_at new id ≡ Some to
set_there old new id to before sets at = sets.levels id ∙ level_there to before (same_name id id) (level_at old id) at (names_equiv.refl id)

-- the level elsewhere
set_elsewhere : (old new : List (Name × Node)) (id : Name) (to l : Level) (q : Name) → SetsLevel old new id to → same_name id q ≡ false → level_at old q ≡ Some l → level_at new q ≡ Some l
set_elsewhere old new id to l q sets apart at = sets.levels q ∙ ap (option_map (λ before. cond (same_name id q) to before)) at ∙ ap (λ c. Some (cond c to l)) apart

-- what was looked at stays so
pub set_stays : (old new : List (Name × Node)) (id : Name) (to : Level) → SetsLevel old new id to → (to ≢ Unknown) → (q : Name) → level_at old q ≢ Some Unknown → level_at new q ≢ Some Unknown
set_stays old new id to sets other q was e = elim (came_from old new id to q Unknown sets e) [ inl h ↦ other h.1 | inr h ↦ was h ]

same_known : (l m : Level) → Some l ≡ Some m → l ≡ m
same_known l m e = cc

not_in : (ids : List Name) (id q : Name) → same_name q id ≡ true → is_in ids q ≡ true → is_in ids id ≡ true
not_in ids id q same t = ap (is_in ids) (sym (names_exact q id same)) ∙ t

-- a test is one or the other
pub test_cases : (b : Bool) → (b ≡ true) ⊎ (b ≡ false)
test_cases true = inl refl
test_cases false = inr refl

absent : (nodes : List (Name × Node)) (trail : List Name) (id : Name) → IsTrail nodes trail → level_at nodes id ≡ Some Unknown → is_in trail id ≡ false
absent nodes trail id h at = elim (test_cases (is_in trail id)) [
  | inl t ↦ absurd (differ (sym (h.listed id t) ∙ at))
  | inr f ↦ f
]
  where
    differ : Some Entered ≡ Some Unknown → ⊥
    differ e = cc

-- one more is looked at, a parent of the last
pub descent_enter : (old nodes new : List (Name × Node)) (trail more : List Name) (id : Name) → IsDescent old nodes trail → ((k : ℕ) (d : Name) → k + 1 ≡ length trail → IsParent (held_of nodes) (slice_index_or trail k d) id) → level_at nodes id ≡ Some Unknown → SetsLevel nodes new id Entered → more ≡ trail ++ id ∷ [] → IsDescent old new more
descent_enter old nodes new trail more id descent parent at sets grown =
    let gone = absent nodes trail id descent.is_trail at in
    let count = sets.count undecided Unknown at in
    record {
      held = sets.held ∙ descent.held;
      size = sets.size ∙ descent.size;
      levels = levels_set nodes new id Entered descent.levels sets (omega (arith, count)) (record { known = λ n e. absurd (no_known n e); endless = λ e. absurd (no_endless e) });
      is_trail = subst (IsTrail new) (sym grown) (record {
        distinct = IsDistinct-push names_equiv trail id descent.is_trail.distinct gone;
        entered = λ q e. is_in-push trail id q ∙ elim (came_from nodes new id Entered q Entered sets e) as (λ _. (is_in trail q || same_name q id) ≡ true) [
          | inl h ↦ right_of (is_in trail q) (same_name q id) (ap (same_name q) h.0 ∙ names_equiv.refl q)
          | inr h ↦ left_of (is_in trail q) (same_name q id) (descent.is_trail.entered q h)
        ];
        listed = λ q t. elim (either (is_in trail q) (same_name q id) (sym (is_in-push trail id q) ∙ t)) [
          | inl h ↦ elim (test_cases (same_name id q)) [
            | inl same ↦ set_there_at q same
            | inr apart ↦ set_elsewhere nodes new id Entered Entered q sets apart (descent.is_trail.listed q h)
          ]
          | inr h ↦ set_there_at q (names_equiv.symm id q ∙ h)
        ];
        chain = chain;
      });
      stays = λ q h. set_stays nodes new id Entered sets no_unknown q (descent.stays q h);
    }
  where
    no_known : (n : ℕ) → Entered ≡ Known n → ⊥
    no_known n e = cc

    no_endless : Entered ≡ Endless → ⊥
    no_endless e = cc

    no_unknown : Entered ≢ Unknown
    no_unknown e = cc

    set_there_at : (q : Name) → same_name id q ≡ true → level_at new q ≡ Some Entered
    set_there_at q same = ap (level_at new) (sym (names_exact id q same)) ∙ set_there nodes new id Entered Unknown sets at

    chain : (k : ℕ) (d e : Name) → k + 1 < length (trail ++ id ∷ []) → IsParent (held_of new) (slice_index_or (trail ++ id ∷ []) k d) (slice_index_or (trail ++ id ∷ []) (k + 1) e)
    chain k d e low =
        let size : length (trail ++ id ∷ []) ≡ length trail + 1 = length-append trail (id ∷ []) in
        let first : slice_index_or (trail ++ id ∷ []) k d ≡ slice_index_or trail k d = get_or_append_left trail (id ∷ []) d k (omega arith) in
        subst (λ held. IsParent held (slice_index_or (trail ++ id ∷ []) k d) (slice_index_or (trail ++ id ∷ []) (k + 1) e)) (sym sets.held)
        (subst (λ x. IsParent (held_of nodes) x (slice_index_or (trail ++ id ∷ []) (k + 1) e)) (sym first)
        (⊎_elim
        (λ last. subst (IsParent (held_of nodes) (slice_index_or trail k d)) (sym (get_or-append_right trail (id ∷ []) (k + 1) (k + 1) e (sym last) (omega arith) ∙ ap (λ j. slice_index_or (id ∷ []) j e) (minus k))) (parent k d last))
        (λ before. subst (IsParent (held_of nodes) (slice_index_or trail k d)) (sym (get_or_append_left trail (id ∷ []) e (k + 1) (omega arith))) (descent.is_trail.chain k d e (omega arith)))
        (cases_eq (k + 1) (length trail))))

-- a list without its last id
all_front : (P : Name → Type 0) (front : List Name) (x : Name) → AllByRecursion P (front ++ x ∷ []) → AllByRecursion P front × P x
all_front P [] x h = (tt, h.0)
all_front P (y ∷ front) x h = let more = all_front P front x h.1 in ((h.0, more.0), more.1)

distinct_front : (front : List Name) (x : Name) → IsDistinct same_name (front ++ x ∷ []) → IsDistinct same_name front × (is_in front x ≡ false)
unfolding IsDistinct
distinct_front [] x h = (tt, refl)
distinct_front (y ∷ front) x h =
    let apart = all_front (λ z. same_name y z ≡ false) front x h.0 in
    let more = distinct_front front x h.1 in
    ((apart.0, more.0), ap (λ b. b || is_in front x) (names_equiv.symm x y ∙ apart.1) ∙ more.1)

total_le : (nodes : List (Name × Node)) → total undecided nodes ≤ length nodes
total_le [] = omega arith
total_le (e ∷ nodes) = let more = total_le nodes in let one = at_most e.1.level in omega arith
  where
    at_most : (l : Level) → undecided l ≤ 1
    at_most Unknown = omega arith
    at_most Entered = omega arith
    at_most (Known n) = omega arith
    at_most Endless = omega arith

known_same : (n m : ℕ) → Known n ≡ Known m → n ≡ m
known_same n m e = cc

fits_best : (nodes : List (Name × Node)) (id : Name) (n under : ℕ) → AreSmall nodes → under + 1 ≡ total undecided nodes → ((n ≡ 1) ⊎ ((p : Name) × IsParent (held_of nodes) id p × ((m : ℕ) × (level_at nodes p ≡ Some (Known m)) × (suc m ≡ n)))) → n + under ≤ length nodes
fits_best nodes id n under small count (inl one) = let most = total_le nodes in omega arith
fits_best nodes id n under small count (inr best) = let most = small.1 best.0 best.2.0 best.2.1 in omega (arith, most, best.2.2)

-- the last has its generation
pub descent_settle : (old nodes new : List (Name × Node)) (trail front : List Name) (id : Name) (n : ℕ) → IsWhole (held_of nodes) → IsDescent old nodes trail → trail ≡ front ++ id ∷ [] → IsSettled nodes id n → SetsLevel nodes new id (Known n) → IsDescent old new front
descent_settle old nodes new trail front id n whole descent last settled sets =
    record {
      held = sets.held ∙ descent.held;
      size = sets.size ∙ descent.size;
      levels = levels_set nodes new id (Known n) descent.levels sets (omega (arith, count)) (record {
        known = λ m e. subst (λ k. IsGeneration (IsParent (held_of nodes)) id k × (k + total undecided new ≤ length nodes)) (known_same n m e) (settled_generation nodes id n whole descent.levels settled, fits_best nodes id n (total undecided new) descent.levels.small (omega (arith, count)) settled.greatest);
        endless = λ e. absurd (no_endless e);
      });
      is_trail = record {
        distinct = distinct.0;
        entered = λ q e. elim (came_from nodes new id (Known n) q Entered sets e) as (λ _. is_in front q ≡ true) [
          | inl h ↦ absurd (no_entered h.1)
          | inr h ↦ elim (either (is_in front q) (same_name q id) (sym (is_in-push front id q) ∙ sym (ap (λ ids. is_in ids q) last) ∙ descent.is_trail.entered q h)) [
            | inl t ↦ t
            | inr same ↦ absurd (differ (sym (ap (level_at new) (names_exact q id same) ∙ set_there nodes new id (Known n) Entered sets top) ∙ e))
          ]
        ];
        listed = λ q t. elim (test_cases (same_name id q)) [
          | inl same ↦ absurd (true≢false (sym (not_in front id q (names_equiv.symm q id ∙ same) t) ∙ distinct.1))
          | inr apart ↦ set_elsewhere nodes new id (Known n) Entered q sets apart (descent.is_trail.listed q (ap (λ ids. is_in ids q) last ∙ is_in-push front id q ∙ left_of (is_in front q) (same_name q id) t))
        ];
        chain = chain;
      };
      stays = λ q h. set_stays nodes new id (Known n) sets no_unknown q (descent.stays q h);
    }
  where
    distinct : IsDistinct same_name front × (is_in front id ≡ false)
    distinct = distinct_front front id (subst (IsDistinct same_name) last descent.is_trail.distinct)

    top : level_at nodes id ≡ Some Entered
    top = descent.is_trail.listed id (ap (λ ids. is_in ids id) last ∙ is_in-push front id id ∙ right_of (is_in front id) (same_name id id) (names_equiv.refl id))

    count : total undecided new + 1 ≡ total undecided nodes + 0
    count = sets.count undecided Entered top

    no_endless : Known n ≡ Endless → ⊥
    no_endless e = cc

    no_entered : Known n ≡ Entered → ⊥
    no_entered e = cc

    no_unknown : Known n ≢ Unknown
    no_unknown e = cc

    differ : Some (Known n) ≡ Some Entered → ⊥
    differ e = cc

    chain : (k : ℕ) (d e : Name) → k + 1 < length front → IsParent (held_of new) (slice_index_or front k d) (slice_index_or front (k + 1) e)
    chain k d e low =
        let size : length trail ≡ length front + 1 = ap length last ∙ length-append front (id ∷ []) in
        let first : slice_index_or trail k d ≡ slice_index_or front k d = ap (λ ids. slice_index_or ids k d) last ∙ get_or_append_left front (id ∷ []) d k (omega arith) in
        let second : slice_index_or trail (k + 1) e ≡ slice_index_or front (k + 1) e = ap (λ ids. slice_index_or ids (k + 1) e) last ∙ get_or_append_left front (id ∷ []) e (k + 1) low in
        subst (λ held. IsParent held (slice_index_or front k d) (slice_index_or front (k + 1) e)) (sym sets.held)
        (subst (λ x. IsParent (held_of nodes) x (slice_index_or front (k + 1) e)) first
        (subst (IsParent (held_of nodes) (slice_index_or trail k d)) second (descent.is_trail.chain k d e (omega arith))))

-- each of the trail reaches its last
reach_last : (nodes : List (Name × Node)) (trail : List Name) (id : Name) → IsTrail nodes trail → (n k : ℕ) (d : Name) → ((j : ℕ) (e : Name) → j + 1 ≡ length trail → slice_index_or trail j e ≡ id) → k + n + 1 ≡ length trail → Reaches (IsParent (held_of nodes)) (slice_index_or trail k d) id
reach_last nodes trail id h zero k d last at = subst (Reaches (IsParent (held_of nodes)) (slice_index_or trail k d)) (last k d (omega (arith, at))) (reach_itself (slice_index_or trail k d))
reach_last nodes trail id h (suc n) k d last at =
    reach_from_child (slice_index_or trail k d) (h.chain k d d (omega (arith, at))) (reach_last nodes trail id h n (k + 1) d last (omega (arith, at)))

in_reaches : (nodes : List (Name × Node)) (trail : List Name) (id q : Name) → IsTrail nodes trail → ((j : ℕ) (e : Name) → j + 1 ≡ length trail → slice_index_or trail j e ≡ id) → is_in trail q ≡ true → Reaches (IsParent (held_of nodes)) q id
in_reaches nodes trail id q h last t =
    let at = is_in-place trail q t in
    subst (λ x. Reaches (IsParent (held_of nodes)) x id) at.2 (reach_last nodes trail id h (length trail - (at.0 + 1)) at.0 q last (omega (arith, at.1)))

-- the last has a parent on the trail, or one that is given up
pub descent_give_up : (old nodes new : List (Name × Node)) (trail : List Name) (id p : Name) → IsDescent old nodes trail → ((j : ℕ) (e : Name) → j + 1 ≡ length trail → slice_index_or trail j e ≡ id) → IsParent (held_of nodes) id p → ((level_at nodes p ≡ Some Entered) ⊎ (level_at nodes p ≡ Some Endless)) → GivesUp nodes new trail → IsDescent old new []
unfolding IsDistinct
descent_give_up old nodes new trail id p descent last parent why gives = record {
  held = gives.held ∙ descent.held;
  size = gives.size ∙ descent.size;
  levels = record {
    small = (
      omega (arith, gives.size, descent.levels.small.0),
      λ q n e. elim (gave (is_in trail q) (Known n) (level_at nodes q) (sym (gives.levels q) ∙ e)) [
        | inl h ↦ absurd (no_known n h.1)
        | inr h ↦ let r = descent.levels.small.1 q n h.1 in omega (arith, r, gives.undecided, gives.size)
      ],
    );
    known = λ q n e. subst (λ held. IsGeneration (IsParent held) q n) (sym gives.held) (elim (gave (is_in trail q) (Known n) (level_at nodes q) (sym (gives.levels q) ∙ e)) as (λ _. IsGeneration (IsParent (held_of nodes)) q n) [
      | inl h ↦ absurd (no_known n h.1)
      | inr h ↦ descent.levels.known q n h.1
    ]);
    endless = λ q e. subst (λ held. IsEndless (IsParent held) q) (sym gives.held) (elim (gave (is_in trail q) Endless (level_at nodes q) (sym (gives.levels q) ∙ e)) as (λ _. IsEndless (IsParent (held_of nodes)) q) [
      | inl h ↦ endless_reach (IsParent (held_of nodes)) q id (in_reaches nodes trail id q descent.is_trail last h.0) top
      | inr h ↦ descent.levels.endless q h.1
    ]);
  };
  is_trail = record {
    distinct = tt;
    entered = λ q e. elim (gave (is_in trail q) Entered (level_at nodes q) (sym (gives.levels q) ∙ e)) as (λ _. is_in [] q ≡ true) [
      | inl h ↦ absurd (no_entered h.1)
      | inr h ↦ absurd (true≢false (sym (descent.is_trail.entered q h.1) ∙ h.0))
    ];
    listed = λ q t. absurd (true≢false (sym t));
    chain = λ k d e low. absurd (omega arith);
  };
  stays = λ q h e. elim (gave (is_in trail q) Unknown (level_at nodes q) (sym (gives.levels q) ∙ e)) [
    | inl g ↦ no_unknown g.1
    | inr g ↦ descent.stays q h g.1
  ];
}
  where
    top : IsEndless (IsParent (held_of nodes)) id
    top = elim why [
      | inl entered ↦ endless_parent (IsParent (held_of nodes)) id p parent (cycle_endless (IsParent (held_of nodes)) p id (in_reaches nodes trail id p descent.is_trail last (descent.is_trail.entered p entered)) parent)
      | inr endless ↦ endless_parent (IsParent (held_of nodes)) id p parent (descent.levels.endless p endless)
    ]

    gave : (b : Bool) (l : Level) (o : Option Level) → option_map (λ before. cond b Endless before) o ≡ Some l → ((b ≡ true) × (Endless ≡ l)) ⊎ ((b ≡ false) × (o ≡ Some l))
    gave true l None e = cc
    gave true l (Some before) e = inl (refl, cc)
    gave false l None e = inr (refl, e)
    gave false l (Some before) e = inr (refl, e)

    no_known : (n : ℕ) → Endless ≡ Known n → ⊥
    no_known n e = cc

    no_entered : Endless ≡ Entered → ⊥
    no_entered e = cc

    no_unknown : Endless ≢ Unknown
    no_unknown e = cc

-- the end of a descent
pub descent_end : (old nodes : List (Name × Node)) (trail : List Name) (id : Name) → IsDescent old nodes trail → trail ≡ [] → level_at nodes id ≢ Some Unknown → Settles old nodes id
descent_end old nodes trail id descent empty seen = record {
  held = descent.held;
  size = descent.size;
  levels = descent.levels;
  rest = λ q e. true≢false (sym (descent.is_trail.entered q e) ∙ ap (λ ids. is_in ids q) empty);
  done = seen;
  stays = descent.stays;
}

-- what is in the middle
pub in_middle : (front : List Name) (x : Name) (more : List Name) → is_in (front ++ x ∷ more) x ≡ true
in_middle [] x more = left_of (same_name x x) (is_in more x) (names_equiv.refl x)
in_middle (y ∷ front) x more = right_of (same_name x y) (is_in (front ++ x ∷ more) x) (in_middle front x more)

gave_unknown : (b : Bool) (o : Option Level) → option_map (λ before. cond b Endless before) o ≡ Some Unknown → o ≡ Some Unknown
gave_unknown b None e = cc
gave_unknown true (Some before) e = cc
gave_unknown false (Some before) e = e

pub gives_stays : (nodes new : List (Name × Node)) (trail : List Name) (q : Name) → GivesUp nodes new trail → level_at nodes q ≢ Some Unknown → level_at new q ≢ Some Unknown
gives_stays nodes new trail q gives was e = was (gave_unknown (is_in trail q) (level_at nodes q) (sym (gives.levels q) ∙ e))

-- the last of the trail
pub last_is : (trail : List Name) (n : ℕ) (top : Name) → n ≡ length trail → 0 < n → top ≡ slice_index_or trail (n - 1) top → (j : ℕ) (e : Name) → j + 1 ≡ length trail → slice_index_or trail j e ≡ top
last_is trail n top count some at j e last =
    let same : j ≡ n - 1 = omega arith in
    ap (λ k. slice_index_or trail k e) same ∙ get_or_default trail (n - 1) e top (omega arith) ∙ sym at

pub split_last : (trail front : List Name) (n m : ℕ) (top : Name) → n ≡ length trail → m ≡ n → 0 < n → top ≡ slice_index_or trail (n - 1) top → front ≡ take (m - 1) trail → trail ≡ front ++ top ∷ []
split_last trail front n m top count same some at front_is =
    let up : (n - 1) + 1 ≡ length trail = omega arith in
    let whole : take ((n - 1) + 1) trail ≡ trail = ap (λ k. take k trail) up ∙ take-length trail in
    sym whole ∙ take_more trail (n - 1) top (omega arith)
    ∙ ap (λ x. take (n - 1) trail ++ x ∷ []) (sym at)
    ∙ ap (λ ids. ids ++ top ∷ []) (ap (λ k. take (k - 1) trail) (sym same) ∙ sym front_is)
