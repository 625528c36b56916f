use Rattle.std.proofs.Common.{Ok, Err, Option, sym, ap, ◌∙◌, arith, bytes_eq}
use Rattle.tree_entries.specs.declared.entry.Entry.{Entry}
use Rattle.tree_entries.specs.declared.fail.TreeFail.TheVariants.{Twice}
use Rattle.tree_entries.specs.Asked.{name_again}
use Rattle.tree_entries.specs.Reading.{find_of, Gives}
use Rattle.tree_entries.proofs.WalkLemmas.{once_all}
use Rattle.tree_entries.proofs.AskedLemmas.{gives_only, only_found, place, stops_gives, stops_fault, twice_gives, twice_fault, shorter, walked_more, is_tree, ends_gives, found_of, FoundBy, some_left, none_left, named_again, named_once, other_once, named_first, named_other}
use Rattle.tree_entries.proofs.reading.find.Goals as goal
use Rattle.tree_entries.proofs.reading.find.Goals.{then-eq+else-is_some+in_ok-to_entry, else-eq}

pub returns-in-Err : goal.returns-in-Err
returns-in-Err c =
    let content = c.args.content.now in
    let name = c.args.name.now in
    let rest = c.entries.rest.now in
    let w = c.entries.invariant in
    let some = some_left rest c.is_empty.result c.is_empty.ensures c.entries-test.true in
    let exact : Gives (Err c.in-Err.fail) (find_of content name) = stops_gives (name_again name) content rest (FoundBy name c.entries.found) w (found_of name) c.in-Err.fail some c.in-Err.ensures in
    record {
      exact = exact;
      found = tt;
      only = λ answer is. gives_only (Err c.in-Err.fail) (find_of content name) answer exact (only_found content name answer is);
      fault = stops_fault (name_again name) content rest (FoundBy name c.entries.found) w c.in-Err.fail some c.in-Err.ensures;
    }

pub returns-then-is_some : goal.returns-then-is_some
returns-then-is_some c =
    let content = c.args.content.now in
    let name = c.args.name.now in
    let rest = c.entries.rest.now in
    let w = c.entries.invariant in
    let reads = c.in-Ok.ensures in
    let some = some_left rest c.is_empty.result c.is_empty.ensures c.entries-test.true in
    let named = ap (λ n. bytes_eq n name) (sym (ap (λ (e : Entry). e.name) reads.shows)) ∙ sym c.eq.ensures ∙ c.if-eq.true in
    let again = named_again name w.es reads.read c.entries.found w.holds named (sym c.is_some.ensures ∙ c.if-is_some.true) in
    let fail = Twice (place (name_again name) content rest (FoundBy name c.entries.found) w) in
    let exact : Gives (Err fail) (find_of content name) = twice_gives (name_again name) content rest (FoundBy name c.entries.found) w (found_of name) _ _ reads some again in
    record {
      exact = exact;
      found = tt;
      only = λ answer is. gives_only (Err fail) (find_of content name) answer exact (only_found content name answer is);
      fault = twice_fault (name_again name) content rest (FoundBy name c.entries.found) w _ _ reads some again;
    }

pub entries-smaller : goal.entries-smaller
entries-smaller c =
    let rest = c.entries.rest.now in
    let some = some_left rest c.is_empty.result c.is_empty.ensures c.entries-test.true in
    omega (arith, shorter (name_again c.args.name.now) c.args.content.now rest (FoundBy c.args.name.now c.entries.found) c.entries.invariant _ _ c.in-Ok.ensures some)

pub entries-preserved : goal.entries-preserved
entries-preserved c =
    let name = c.args.name.now in
    let rest = c.entries.rest.now in
    let w = c.entries.invariant in
    let reads = c.in-Ok.ensures in
    let some = some_left rest c.is_empty.result c.is_empty.ensures c.entries-test.true in
    let named = ap (λ n. bytes_eq n name) (sym (ap (λ (e : Entry). e.name) reads.shows)) ∙ sym c.eq.ensures in
    let more = walked_more (name_again name) c.args.content.now rest (FoundBy name c.entries.found) w _ _ reads some in
    elim c.if-eq.branch [
      | then-eq+else-is_some+in_ok-to_entry v ↦
          let none = sym v.is_some.ensures ∙ v.if-is_some.false in
          more (named_once name w.es reads.read c.entries.found w.holds none) (FoundBy name c.if-eq.found)
          (named_first name w.es reads.read c.entries.found c.if-eq.found v.in_ok-to_entry.field-0 w.holds none (named ∙ v.if-eq.true) v.found-is (v.in_ok-to_entry.ensures ∙ reads.shows))
      | else-eq v ↦
          more (other_once name w.es reads.read (named ∙ v.if-eq.false)) (FoundBy name c.if-eq.found)
          (named_other name w.es reads.read c.entries.found c.if-eq.found w.holds (named ∙ v.if-eq.false) v.found-is)
    ]

pub returns : goal.returns
returns c =
    let content = c.args.content.now in
    let name = c.args.name.now in
    let rest = c.entries.rest.now in
    let w = c.entries.invariant in
    let over = none_left rest c.is_empty.result c.is_empty.ensures c.entries-test.false in
    let exact : Gives (Ok c.entries.found) (find_of content name) =
    ends_gives (name_again name) content rest (FoundBy name c.entries.found) w (found_of name) over ∙ ap (λ (a : Option Entry). Ok a) (sym w.holds) in
    record {
      exact = exact;
      found = record { entries = w.es; tree = is_tree (name_again name) content rest (FoundBy name c.entries.found) w over; once = once_all (name_again name) w.es w.once; answer_is = w.holds };
      only = λ answer is. gives_only (Ok c.entries.found) (find_of content name) answer exact (only_found content name answer is);
      fault = tt;
    }
