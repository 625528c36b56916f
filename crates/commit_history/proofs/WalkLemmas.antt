-- A walk begins, takes a commit, and ends with the members.
use Rattle.std.proofs.Common.{◌≡◌, ℕ, ◌+◌, ◌-◌, ◌<◌, ◌≤◌, cond, List, [], ◌∷◌, ◌++◌, length, zero, suc, Option, Some, None, Err, refl, sym, ap, ◌∙◌, subst, arith, Contains, inl, inr, ⊎_elim, is_some}
use Rattle.std.specs.FinMap as fin
use Rattle.std.specs.List.{slice_index_or}
use Rattle.std.specs.Cmp.Lexicographic.{nat_list_cmp_total}
use Rattle.std.proofs.lemmas.Bool.{cases_eq, cases_lt}
use Rattle.std.proofs.lemmas.List.{get_or_append_left, get_or_default}
use Rattle.std.proofs.lemmas.List.Elements.{Contains-append_left, Contains-append_right, Contains-append_cases}
use Rattle.commit_graph.specs.Chains.{Reaches}
use Rattle.commit_graph.specs.Fail.{HasRoom}
use Rattle.commit_graph.specs.History.{Commits, Name, name_cmp, Holds, IsParent}
use Rattle.commit_graph.specs.History as graph
use Rattle.commit_graph.proofs.ChainLemmas.{reach_itself, reach_all}
use Rattle.commit_graph.proofs.CoveredLemmas.{IsWithin-parent}
use Rattle.auth_rules.specs.World.{World}
use Rattle.auth_rules.specs.Rules.{parents_of}
use Rattle.commit_history.specs.declared.walk.Unread.{Unread}
use Rattle.commit_history.specs.declared.fail.HistoryFail.{HistoryFail}
use Rattle.commit_history.specs.declared.fail.HistoryFail.TheVariants.{TooMany, Object, Cycle, GitFault, Memory}
use Rattle.commit_history.specs.Members.{history, IsMember}
use Rattle.commit_history.specs.Walk.{noted, IsLeastUnread, Follows, Keeps, IsRead, TakeFails, IsWalked}
use Rattle.commit_history.proofs.CountLemmas.{more_than}
use Rattle.commit_history.proofs.LeastLemmas.{noted_least}
use Rattle.commit_history.proofs.MapLemmas.{get_itself, get_cases, holds_itself, holds_more, holds_cases, parent_cases}

-- ---- in any world

no_parent : (c p : Name) → IsParent fin.empty c p → ⊥
no_parent c p parent = let none = fin.get-empty {X = List Name} name_cmp c in let some = parent.given in cc

-- the first place of an id that isn't held
pub record IsNext (held : Commits) (met : List Name) (from place : ℕ) : Type 0 where
  pub high : from ≤ place
  pub low : place ≤ length met
  pub before : (k : ℕ) (d : Name) → from ≤ k → k < place → Holds held (slice_index_or met k d)
  pub next : (d : Name) → place < length met → fin.get held (slice_index_or met place d) ≡ None

pub follows_start : (held : Commits) (met : List Name) (place : ℕ) → held ≡ fin.empty → IsNext held met 0 place → Follows held met place
follows_start held met place e is = record {
  low = is.low;
  few = let none = ap fin.len e ∙ fin.len-empty name_cmp (List Name) in omega arith;
  before = λ k d low. is.before k d (omega arith) low;
  next = is.next;
  listed = λ c p parent. absurd (no_parent c p (subst (λ h. IsParent h c p) e parent));
}

module _ (held : Commits) (met parents : List Name) (id : Name) where
  abbrev now : Commits
  now = fin.insert held id parents

  len_more : HasRoom held id → fin.len now ≡ fin.len held + 1
  len_more room = fin.len-insert nat_list_cmp_total held id parents ∙ ap (λ o. cond (is_some o) (fin.len held) (fin.len held + 1)) room.absent

  -- what is before the place is held, and then the id at it
  before_more : (place : ℕ) → Follows held met place → place < length met → slice_index_or met place id ≡ id
      → (k : ℕ) (d : Name) → k < place + 1 → Holds now (slice_index_or (met ++ parents) k d)
  before_more place follows low at k d below =
      let kept : slice_index_or (met ++ parents) k d ≡ slice_index_or met k d = get_or_append_left met parents d k (omega arith) in
      ⊎_elim
      (λ same. subst (Holds now) (sym (kept ∙ ap (λ j. slice_index_or met j d) same ∙ get_or_default met place d id low ∙ at)) (holds_itself held id parents))
      (λ other. subst (Holds now) (sym kept) (holds_more held id parents (slice_index_or met k d) (follows.before k d (omega arith))))
      (cases_eq k place)

  pub follows_more : (place next : ℕ) → Follows held met place → place < length met → slice_index_or met place id ≡ id → HasRoom held id
      → IsNext now (met ++ parents) (place + 1) next → Follows now (met ++ parents) next
  follows_more place next follows low at room is = record {
    low = is.low;
    few = let size = len_more room in let few = room.few in omega arith;
    before = λ k d below. ⊎_elim
        (λ old. before_more place follows low at k d old)
        (λ new. is.before k d new below)
        (cases_lt k (place + 1));
    next = is.next;
    listed = λ c p parent. ⊎_elim
        (λ new. Contains-append_right met parents p new.1)
        (λ old. Contains-append_left met parents p (follows.listed c p old))
        (parent_cases held id parents c p parent);
  }

  pub follows_next : (new : Commits) (more : List Name) (place next : ℕ) → Follows held met place → place < length met → slice_index_or met place id ≡ id → HasRoom held id
      → new ≡ fin.insert held id parents → more ≡ met ++ parents → IsNext new more (place + 1) next → Follows new more next
  follows_next new more place next follows low at room e m is =
      subst (λ h. Follows h more next) (sym e) (subst (λ ids. Follows now ids next) (sym m)
      (follows_more place next follows low at room (subst (λ h. IsNext h (met ++ parents) (place + 1) next) e (subst (λ ids. IsNext new ids (place + 1) next) m is))))

  -- fewer can be taken now
  pub fewer : (new : Commits) → HasRoom held id → new ≡ fin.insert held id parents → 1000000 - fin.len new < 1000000 - fin.len held
  fewer new room e = let size = ap fin.len e ∙ len_more room in let few = room.few in omega arith

-- what was met is held in the end
pub met_held : (held : Commits) (met : List Name) (place : ℕ) → Follows held met place → length met ≤ place → (c : Name) → Contains met c → Holds held c
met_held held met place follows done c at = subst (Holds held) at.2 (follows.before at.0 c (let low = at.1 in omega arith))

-- target and introduction are met from the first on, so both are held in the end
pub both_start : (target intro : Name) (met : List Name) → met ≡ target ∷ intro ∷ [] → Contains met target × Contains met intro
both_start target intro met is = (subst (λ (ids : List Name). Contains ids target) (sym is) (0, omega arith, refl), subst (λ (ids : List Name). Contains ids intro) (sym is) (1, omega arith, refl))

pub both_next : (target intro : Name) (met more now : List Name) → now ≡ met ++ more → Contains met target × Contains met intro → Contains now target × Contains now intro
both_next target intro met more now is both = (
  subst (λ (ids : List Name). Contains ids target) (sym is) (Contains-append_left met more target both.0),
  subst (λ (ids : List Name). Contains ids intro) (sym is) (Contains-append_left met more intro both.1),
)

pub both_held : (target intro : Name) (held : Commits) (met : List Name) (place : ℕ) → Follows held met place → length met ≤ place
    → Contains met target × Contains met intro → Holds held target × Holds held intro
both_held target intro held met place follows end both = (met_held held met place follows end target both.0, met_held held met place follows end intro both.1)

pub follows_whole : (held : Commits) (met : List Name) (place : ℕ) → Follows held met place → length met ≤ place → graph.IsWhole held
follows_whole held met place follows done c p parent = met_held held met place follows done p (follows.listed c p parent)

-- ---- in the world of git's answers

module _ (w : World) (target intro : Name) where
  pub keeps_start : (held : Commits) (met : List Name) (unread : Option Unread) → held ≡ fin.empty → met ≡ target ∷ intro ∷ [] → unread ≡ None → Keeps w target intro held met unread
  keeps_start held met unread e m u = record {
    met_target = subst (λ ids. Contains ids target) (sym m) (0, omega arith, refl);
    met_intro = subst (λ ids. Contains ids intro) (sym m) (1, omega arith, refl);
    met_members = λ c at. one_of c (subst (λ ids. Contains ids c) m at);
    held_members = λ c h. absurd (none c (subst (λ m. Holds m c) e h));
    lists = λ c h. absurd (none c (subst (λ m. Holds m c) e h));
    least = subst (IsLeastUnread w held) (sym u) (λ c h. absurd (none c (subst (λ m. Holds m c) e h)));
  }
    where
      none : (c : Name) → Holds fin.empty c → ⊥
      none c h = let gone = ap is_some (fin.get-empty {X = List Name} name_cmp c) in cc

      one_of : (c : Name) → Contains (target ∷ intro ∷ []) c → IsMember w target intro c
      one_of c (zero, low, e) = inl (subst (λ x. Reaches (history w) target x) e (reach_itself target))
      one_of c (suc zero, low, e) = inr (subst (λ x. Reaches (history w) intro x) e (reach_itself intro))
      one_of c (suc (suc k), low, e) = absurd (omega arith)

  module _ (held : Commits) (met : List Name) (id : Name) (unread : Option Unread) where
    -- the commit that is taken is a member, and so are its parents
    pub keeps_more : Keeps w target intro held met unread → Contains met id
        → Keeps w target intro (fin.insert held id (parents_of w id)) (met ++ parents_of w id) (noted unread id (w.commit id))
    keeps_more keeps at = record {
      met_target = Contains-append_left met (parents_of w id) target keeps.met_target;
      met_intro = Contains-append_left met (parents_of w id) intro keeps.met_intro;
      met_members = λ c h. ⊎_elim
          (λ old. keeps.met_members c old)
          (λ new. IsWithin-parent (history w) target intro id c (keeps.met_members id at) new)
          (Contains-append_cases met (parents_of w id) c h);
      held_members = λ c h. ⊎_elim
          (λ same. subst (IsMember w target intro) (sym same) (keeps.met_members id at))
          (λ old. keeps.held_members c old)
          (holds_cases held id (parents_of w id) c h);
      lists = λ c h. ⊎_elim
          (λ same. subst (λ x. fin.get (fin.insert held id (parents_of w id)) x ≡ Some (parents_of w x)) (sym same) (get_itself held id (parents_of w id)))
          (λ old. old ∙ keeps.lists c (sym (ap is_some old) ∙ h))
          (get_cases held id (parents_of w id) c);
      least = noted_least w held id (parents_of w id) unread keeps.least;
    }

    pub keeps_next : (new : Commits) (more parents : List Name) (now : Option Unread) → Keeps w target intro held met unread → Contains met id
        → parents ≡ parents_of w id → new ≡ fin.insert held id parents → more ≡ met ++ parents → now ≡ noted unread id (w.commit id)
        → Keeps w target intro new more now
    keeps_next new more parents now keeps at p e m u =
        let held_is : new ≡ fin.insert held id (parents_of w id) = e ∙ ap (fin.insert held id) p in
        let met_is : more ≡ met ++ parents_of w id = m ∙ ap (λ ps. met ++ ps) p in
        subst (λ h. Keeps w target intro h more now) (sym held_is)
        (subst (λ ids. Keeps w target intro (fin.insert held id (parents_of w id)) ids now) (sym met_is)
        (subst (λ o. Keeps w target intro (fin.insert held id (parents_of w id)) (met ++ parents_of w id) o) (sym u) (keeps_more keeps at)))

    -- why the walk ends
    pub walk_fails : (fail : HistoryFail) → Keeps w target intro held met unread → Contains met id → TakeFails held id fail → IsWalked w target intro (Err fail)
    walk_fails TooMany keeps at full = more_than held 1000000 id (IsMember w target intro) full.0 full.1 (keeps.met_members id at) keeps.held_members
    walk_fails (Object other what) keeps at none = none
    walk_fails (Cycle other) keeps at none = none
    walk_fails GitFault keeps at none = tt
    walk_fails Memory keeps at any = tt

  pub keeps_end : (held : Commits) (met : List Name) (place : ℕ) (unread : Option Unread) → Follows held met place → length met ≤ place
      → Keeps w target intro held met unread → IsRead w target intro held unread
  keeps_end held met place unread follows done keeps = record {
    members = λ c. (keeps.held_members c, back c);
    few = follows.few;
    lists = keeps.lists;
    least = keeps.least;
  }
    where
      step : (c p : Name) → Holds held c → history w c p → Holds held p
      step c p h parent = follows_whole held met place follows done c p (record { parents = parents_of w c; given = keeps.lists c h; listed = parent })

      back : (c : Name) → IsMember w target intro c → Holds held c
      back c (inl r) = reach_all (Holds held) step (met_held held met place follows done target keeps.met_target) r
      back c (inr r) = reach_all (Holds held) step (met_held held met place follows done intro keeps.met_intro) r
