use Rattle.std.proofs.Common.{sym, ap, ◌∙◌, subst}
use Rattle.std.specs.Prelude.{Ok, Err}
use Rattle.std.specs.FinSet.{from_list, insert}
use Rattle.std.specs.List.Sorted.{IsStrictlySortedBy}
use Rattle.child_ports.specs.KeySet.{Keys, key_cmp}
use Rattle.child_ports.proofs.KeySetLemmas.{searched, insert_found, from_list-insert, IsStrictlySortedBy-insert, key_cmp_total, key_cmp-IsAntisymmetric}
use Rattle.child_ports.proofs.key_set.KeySet.insert.Goals as goal

pub invariant_of-self : goal.invariant_of-self
invariant_of-self c =
    let sorted = subst (IsStrictlySortedBy key_cmp) (sym c.deref.ensures.value) c.self.invariant in
    let found = searched key_cmp_total _ c.args.key (Err c.in-Err.place) sorted c.in-Err.ensures.bound c.in-Err.ensures.position in
    let now = IsStrictlySortedBy-insert key_cmp_total _ c.args.key c.in-Err.place found.1 found.2 sorted in
    rw (c.in_ok-insert.ensures.items, ← c.deref.ensures.value) now

pub returns-in_ok-insert-clause-ok : goal.returns-in_ok-insert-clause-ok
returns-in_ok-insert-clause-ok c =
    ap (λ ks. from_list {R = key_cmp} ks) c.in_ok-insert.ensures.items
    ∙ from_list-insert key_cmp_total key_cmp-IsAntisymmetric _ c.in-Err.place c.args.key
    ∙ ap (λ (s : Keys). insert s c.args.key) c.self.view_is

pub returns-in_default-clause-ok : goal.returns-in_default-clause-ok
returns-in_default-clause-ok c =
    let sorted = subst (IsStrictlySortedBy key_cmp) (sym c.deref.ensures.value) c.self.invariant in
    let found = searched key_cmp_total _ c.args.key (Ok c.in_default.field-0) sorted c.in_default.ensures.bound c.in_default.ensures.position in
    let same = insert_found key_cmp_total key_cmp-IsAntisymmetric c.deref.result.now c.args.key c.in_default.field-0 found in
    let old = ap (λ ks. from_list {R = key_cmp} ks) c.deref.ensures.value ∙ c.self.view_is in
    sym old ∙ same ∙ ap (λ (s : Keys). insert s c.args.key) old
