-- The least commit that can't be read, once one more is held.
use Rattle.std.proofs.Common.{◌≡◌, Bool, true, false, cond, List, Option, Some, None, Result, Ok, Err, refl, sym, ap, subst, ⊎_elim}
use Rattle.std.specs.Ordering.{is_gt, ordering_reverse}
use Rattle.std.specs.declared.cmp.Ordering.{Ordering}
use Rattle.std.specs.declared.cmp.Ordering.TheVariants.{Less, Equal, Greater}
use Rattle.std.specs.Prelude.{IsOk, IsErr}
use Rattle.std.specs.Cmp.{Equal-is}
use Rattle.std.specs.Cmp.Lexicographic.{nat_list_cmp_total}
use Rattle.std.specs.FinMap as fin
use Rattle.std.proofs.lemmas.Cmp.{upto}
use Rattle.commit_objects.specs.declared.commit.Commit.{Commit}
use Rattle.commit_graph.specs.History.{Commits, Name, name_cmp}
use Rattle.commit_graph.proofs.OrderLemmas.{names_equiv}
use Rattle.auth_rules.specs.declared.cause.What.{What}
use Rattle.auth_rules.specs.World.{World}
use Rattle.commit_history.specs.declared.walk.Unread.{Unread}
use Rattle.commit_history.specs.Walk.{noted, IsUnread, IsLeastUnread}
use Rattle.commit_history.proofs.MapLemmas.{holds_itself, holds_more, holds_cases}

not_above : (id : Name) → is_gt (name_cmp id id) ≡ false
not_above id = ap is_gt ((Equal-is (name_cmp id id)).0 (names_equiv.refl id))

turn_gt : (r s : Ordering) → s ≡ ordering_reverse r → is_gt r ≡ true → is_gt s ≡ false
turn_gt Less s e h = cc
turn_gt Equal s e h = cc
turn_gt Greater s e h = ap is_gt e

is_err : (r : Result Commit What) (what : What) → r ≡ Err what → IsErr r
is_err r what e = subst IsErr (sym e) refl

is_ok : (r : Result Commit What) (commit : Commit) → r ≡ Ok commit → IsOk r
is_ok r commit e = subst IsOk (sym e) refl

not_both : (r : Result Commit What) → IsOk r → IsErr r → ⊥
not_both (Ok commit) ok err = cc
not_both (Err what) ok err = cc

module _ (w : World) (held : Commits) (id : Name) (parents : List Name) where
  abbrev now : Commits
  now = fin.insert held id parents

  -- the new one can be read
  with_sound : (least : Option Unread) (commit : Commit) → w.commit id ≡ Ok commit → IsLeastUnread w held least → IsLeastUnread w now least
  with_sound None commit e sound = λ c h. ⊎_elim (λ same. subst (λ x. IsOk (w.commit x)) (sym same) (is_ok (w.commit id) commit e)) (λ old. sound c old) (holds_cases held id parents c h)
  with_sound (Some unread) commit e least = (
    record {
      is = (holds_more held id parents unread.id least.0.is.0, least.0.is.1);
      least = λ other h. ⊎_elim
          (λ same. absurd (not_both (w.commit id) (is_ok (w.commit id) commit e) (subst (λ x. IsErr (w.commit x)) same h.1)))
          (λ old. least.0.least other (old, h.1))
          (holds_cases held id parents other h.0);
    },
    least.1,
  )

  -- it can't, and it is the least
  at_new : (what : What) → w.commit id ≡ Err what
      → ((other : Name) → IsUnread w held other → is_gt (name_cmp id other) ≡ false)
      → IsLeastUnread w now (Some (record { id = id; what = what }))
  at_new what e below = (
    record {
      is = (holds_itself held id parents, is_err (w.commit id) what e);
      least = λ other h. ⊎_elim
          (λ same. subst (λ x. is_gt (name_cmp id x) ≡ false) (sym same) (not_above id))
          (λ old. below other (old, h.1))
          (holds_cases held id parents other h.0);
    },
    e,
  )

  -- it can't, and another is less or the same
  at_old : (unread : Unread) → is_gt (name_cmp unread.id id) ≡ false → IsLeastUnread w held (Some unread) → IsLeastUnread w now (Some unread)
  at_old unread low least = (
    record {
      is = (holds_more held id parents unread.id least.0.is.0, least.0.is.1);
      least = λ other h. ⊎_elim
          (λ same. subst (λ x. is_gt (name_cmp unread.id x) ≡ false) (sym same) low)
          (λ old. least.0.least other (old, h.1))
          (holds_cases held id parents other h.0);
    },
    least.1,
  )

  compared : (unread : Unread) (what : What) (b : Bool) → is_gt (name_cmp unread.id id) ≡ b → w.commit id ≡ Err what → IsLeastUnread w held (Some unread)
      → IsLeastUnread w now (cond b (Some (record { id = id; what = what })) (Some unread))
  compared unread what true gt e least =
      let low : is_gt (name_cmp id unread.id) ≡ false = turn_gt (name_cmp unread.id id) (name_cmp id unread.id) (nat_list_cmp_total.antisymm id unread.id) gt in
      at_new what e (λ other h. upto nat_list_cmp_total id unread.id other low (least.0.least other h))
  compared unread what false gt e least = at_old unread gt least

  by_reading : (least : Option Unread) (r : Result Commit What) → w.commit id ≡ r → IsLeastUnread w held least → IsLeastUnread w now (noted least id r)
  by_reading least (Ok commit) e before = with_sound least commit e before
  by_reading None (Err what) e sound = at_new what e (λ other h. absurd (not_both (w.commit other) (sound other h.0) h.1))
  by_reading (Some unread) (Err what) e least = compared unread what (is_gt (name_cmp unread.id id)) refl e least

  pub noted_least : (least : Option Unread) → IsLeastUnread w held least → IsLeastUnread w (fin.insert held id parents) (noted least id (w.commit id))
  noted_least least before = by_reading least (w.commit id) refl before
