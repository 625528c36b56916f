use Rattle.std.proofs.Common.{sym, ◌∙◌, inl, inr, codes, length, ◌-◌, [], ◌∷◌}
use Rattle.commit_objects.specs.Faults.{BeginsWith, IsWrongParent, LacksAuthor, NoTextLine}
use Rattle.commit_objects.specs.Form.{sha1_form}
use Rattle.commit_objects.specs.Lines.{committer_line}
use Rattle.commit_objects.proofs.LineLemmas.{begins_if, begins_not}
use Rattle.commit_objects.proofs.HeadingLemmas.{no_text_line, meets_parents, meets_author, meets_heading, has_heading}
use Rattle.commit_objects.proofs.heading.read_heading.Goals as goal

pub returns-then-is_some-clause-fault : goal.returns-then-is_some-clause-fault
returns-then-is_some-clause-fault c =
    let content = c.args.content.now in
    let tree = c.in-Some.ensures.some in
    let parents = c.in_ok-parents.ensures in
    let text = c.in_ok-parents.text.now in
    inl (meets_parents content c.in-Some.tree.id c.in-Some.tree.rest.now text c.in_ok-parents.parents tree.0 parents.0 tree.1 parents.1 (IsWrongParent sha1_form)
    (begins_if c.after.result text (codes "parent ") c.after.ensures (sym c.is_some.ensures ∙ c.if-is_some.true), parents.2))

pub returns-in_default-text_line-clause-fault : goal.returns-in_default-text_line-clause-fault
returns-in_default-text_line-clause-fault c =
    let content = c.args.content.now in
    let tree = c.in-Some.ensures.some in
    let parents = c.in_ok-parents.ensures in
    let text = c.in_ok-parents.text.now in (
      length content - length text,
      meets_parents content c.in-Some.tree.id c.in-Some.tree.rest.now text c.in_ok-parents.parents tree.0 parents.0 tree.1 parents.1 LacksAuthor
          ((λ begins. begins_not c.after.result text (codes "parent ") c.after.ensures (sym c.is_some.ensures ∙ c.if-is_some.false) begins.0 begins.1), no_text_line (codes "author ") text c.in_default-text_line.ensures.none),
    )

pub returns-in_default-text_line-2-clause-fault : goal.returns-in_default-text_line-2-clause-fault
returns-in_default-text_line-2-clause-fault c =
    let content = c.args.content.now in
    let tree = c.in-Some.ensures.some in
    let parents = c.in_ok-parents.ensures in
    let text = c.in_ok-parents.text.now in
    let author = c.in-Some-text_line.ensures.some in
    let text3 = c.in-Some-text_line.text.now in (
      length content - length text3,
      meets_author content c.in-Some.tree.id c.in-Some.tree.rest.now text c.in_ok-parents.parents tree.0 parents.0 tree.1 parents.1
          c.in-Some-text_line.field-0-0.now text3 author.0 author.1 (NoTextLine committer_line) (no_text_line (codes "committer ") text3 c.in_default-text_line-2.ensures.none),
    )

pub returns-then-is_some-2-clause-fault : goal.returns-then-is_some-2-clause-fault
returns-then-is_some-2-clause-fault c =
    let content = c.args.content.now in
    let tree = c.in-Some.ensures.some in
    let parents = c.in_ok-parents.ensures in
    let text = c.in_ok-parents.text.now in
    let author = c.in-Some-text_line.ensures.some in
    let text3 = c.in-Some-text_line.text.now in
    let committer = c.in-Some-text_line-2.ensures.some in
    let rest = c.in-Some-text_line-2.rest.now in
    inr (meets_heading content c.in-Some.tree.id c.in-Some.tree.rest.now text c.in_ok-parents.parents tree.0 parents.0 tree.1 parents.1
    c.in-Some-text_line.field-0-0.now text3 author.0 author.1 c.in-Some-text_line-2.field-0-0.now rest committer.0 committer.1 (BeginsWith (32 ∷ []))
    (begins_if c.after-2.result rest (32 ∷ []) c.after-2.ensures (sym c.is_some-2.ensures ∙ c.if-is_some-2.true)))

pub returns-clause-found : goal.returns-clause-found
returns-clause-found c =
    let content = c.args.content.now in
    let tree = c.in-Some.ensures.some in
    let parents = c.in_ok-parents.ensures in
    let text = c.in_ok-parents.text.now in
    let author = c.in-Some-text_line.ensures.some in
    let text3 = c.in-Some-text_line.text.now in
    let committer = c.in-Some-text_line-2.ensures.some in
    let rest = c.in-Some-text_line-2.rest.now in
    has_heading content c.in-Some.tree.id c.in-Some.tree.rest.now text c.in_ok-parents.parents tree.0 parents.0 tree.1 parents.1
    c.in-Some-text_line.field-0-0.now text3 author.0 author.1 c.in-Some-text_line-2.field-0-0.now rest committer.0 committer.1
    (λ begins. begins_not c.after-2.result rest (32 ∷ []) c.after-2.ensures (sym c.is_some-2.ensures ∙ c.if-is_some-2.false) begins.0 begins.1)
