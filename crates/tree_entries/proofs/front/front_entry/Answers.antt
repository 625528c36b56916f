use Rattle.std.proofs.Common.{cond, Ok, Err, List, ℕ, take, sym, ap, ◌∙◌, arith}
use Rattle.tree_entries.specs.declared.fail.TreeFail.TheVariants.{Cut, Mode, Name}
use Rattle.tree_entries.specs.Tree.{TreeEntry}
use Rattle.tree_entries.proofs.FrontLemmas.{no_space, no_mode, no_nul, no_name, no_id, whole_entry, name_empty, name_slash, name_is, shows_as}
use Rattle.tree_entries.proofs.front.front_entry.Goals as goal
use Rattle.tree_entries.proofs.front.front_entry.Goals.{then-begins_mode, else-begins_mode, then-has, else-has, then-is_empty-via-then-is_empty, then-is_empty-via-else-is_empty+then-has-2}

pub returns-in_default : goal.returns-in_default
returns-in_default c =
    let at = c.args.place in
    let read = no_space 20 at c.args.content.now c.in_default.ensures.cut in
    elim c.if-begins_mode.branch [
      | then-begins_mode w ↦ rw w.result-is (read ∙ ap (λ t. cond t (Err (Cut at)) (Err (Mode at))) (sym c.begins_mode.ensures ∙ w.if-begins_mode.true))
      | else-begins_mode w ↦ rw w.result-is (read ∙ ap (λ t. cond t (Err (Cut at)) (Err (Mode at))) (sym c.begins_mode.ensures ∙ w.if-begins_mode.false))
    ]

pub returns-in_default-of_digits : goal.returns-in_default-of_digits
returns-in_default-of_digits c =
    let mode = c.in-Some.ensures.cut in
    no_mode 20 c.args.place c.args.content.now c.in-Some.digits.now c.in-Some.text.now mode.0 mode.1 c.in_default-of_digits.ensures.none

pub returns-in_default-cut_at : goal.returns-in_default-cut_at
returns-in_default-cut_at c =
    let at = c.args.place in
    let mode = c.in-Some.ensures.cut in
    let read = no_nul 20 at c.args.content.now c.in-Some.digits.now c.in-Some.text.now mode.0 mode.1 c.in-Some-of_digits.ensures.some.0 c.in_default-cut_at.ensures.cut in
    elim c.if-has.branch [
      | then-has w ↦ rw w.result-is (read ∙ ap (λ t. cond t (Err (Name at)) (Err (Cut at))) (sym c.has.ensures ∙ w.if-has.true))
      | else-has w ↦ rw w.result-is (read ∙ ap (λ t. cond t (Err (Name at)) (Err (Cut at))) (sym c.has.ensures ∙ w.if-has.false))
    ]

pub returns-then-is_empty : goal.returns-then-is_empty
returns-then-is_empty c =
    let mode = c.in-Some.ensures.cut in
    let name = c.in-Some-cut_at.ensures.cut in
    let named = c.in-Some-cut_at.name.now in
    no_name 20 c.args.place c.args.content.now c.in-Some.digits.now c.in-Some.text.now mode.0 mode.1 c.in-Some-of_digits.ensures.some.0 named c.in-Some-cut_at.text.now name.0 name.1 (elim c.then-is_empty.branch [
      | then-is_empty-via-then-is_empty w ↦ name_empty named (sym c.is_empty.ensures ∙ w.if-is_empty.true)
      | then-is_empty-via-else-is_empty+then-has-2 w ↦ name_slash named (sym w.has-else-is_empty.ensures ∙ w.if-has-2.true)
    ])

pub returns-in_default-split_first_chunk : goal.returns-in_default-split_first_chunk
returns-in_default-split_first_chunk c =
    let mode = c.in-Some.ensures.cut in
    let name = c.in-Some-cut_at.ensures.cut in
    let named = c.in-Some-cut_at.name.now in
    no_id 20 c.args.place c.args.content.now c.in-Some.digits.now c.in-Some.text.now mode.0 mode.1 c.in-Some-of_digits.ensures.some.0 named c.in-Some-cut_at.text.now name.0 name.1
    (name_is named (sym c.is_empty.ensures ∙ c.if-is_empty.false) (sym c.has-else-is_empty.ensures ∙ c.if-has-2.false) name.0) c.in_default-split_first_chunk.ensures.cases

pub returns : goal.returns
returns c =
    let mode = c.in-Some.ensures.cut in
    let name = c.in-Some-cut_at.ensures.cut in
    let named = c.in-Some-cut_at.name.now in
    let behind = c.in-Some-cut_at.text.now in
    let parts = c.in-Some-split_first_chunk.ensures.cases in
    let is = c.in-Some-of_digits.ensures.some in
    let read : TreeEntry = record { digits = c.in-Some.digits.now; name = named; id = take 20 behind } in
    record {
      read = read;
      front = whole_entry 20 c.args.place c.args.content.now c.in-Some.digits.now c.in-Some.text.now mode.0 mode.1 is.0 named behind name.0 name.1
          (name_is named (sym c.is_empty.ensures ∙ c.if-is_empty.false) (sym c.has-else-is_empty.ensures ∙ c.if-has-2.false) name.0) (omega (arith, parts.2))
          ∙ ap (λ (r : List ℕ). Ok (read, r)) (sym parts.1);
      shows = shows_as read c.in-Some-of_digits.mode c.of_bytes.result is.1 is.2 (c.of_bytes.ensures ∙ parts.0);
    }
