use Rattle.std.proofs.Common.{get_or, arith, refl, sym, ◌∙◌}
use Rattle.std.proofs.lemmas.Bool.{false≢true}
use Rattle.std.proofs.lemmas.Str.{IsCharBoundary-start, IsCharBoundary-after_ascii}
use Rattle.sexp_reader.proofs.SkipLemmas.{skip-in_comment, skip-begins, skip-blank, blank-ascii, ends-ascii}
use Rattle.sexp_reader.proofs.skip.skip.Goals as goal
use Rattle.sexp_reader.proofs.skip.skip.Goals.{then-in_comment, else-in_comment+then-b-eq59, else-in_comment+else-b-eq59+else-not-is_blank}

pub loop-at-init : goal.loop-at-init
loop-at-init c = record {
  within = omega arith;
  same = refl;
  cut = λ _. IsCharBoundary-start c.as_bytes-bytes.result.now c.as_bytes-bytes.ensures.utf8;
}

pub loop-at-preserved : goal.loop-at-preserved
loop-at-preserved c =
    let bs = c.as_bytes-bytes.result.now in
    let at = c.loop-at.at in
    let flag = c.loop-at.in_comment in
    let next = c.if-in_comment.in_comment in
    elim c.if-in_comment.branch [
      | then-in_comment w ↦ record {
        within = omega arith;
        same = skip-in_comment flag next bs at c.loop-at-test.true w.if-in_comment.true w.in_comment-is ∙ c.loop-at.invariant.same;
        cut = λ over. IsCharBoundary-after_ascii bs at c.as_bytes-bytes.ensures.utf8 c.loop-at-test.true (ends-ascii (get_or bs at 0) next w.in_comment-is over);
      }
      | else-in_comment+then-b-eq59 w ↦ record {
        within = omega arith;
        same = skip-begins flag next bs at c.loop-at-test.true w.if-in_comment.false w.if-b-eq59.true w.in_comment-is ∙ c.loop-at.invariant.same;
        cut = λ over. absurd (false≢true (sym over ∙ w.in_comment-is));
      }
      | else-in_comment+else-b-eq59+else-not-is_blank w ↦
          let blank = sym w.is_blank.ensures ∙ w.if-not-is_blank.false in
          record {
            within = omega arith;
            same = skip-blank flag next bs at c.loop-at-test.true w.if-in_comment.false blank (w.in_comment-is ∙ w.if-in_comment.false) ∙ c.loop-at.invariant.same;
            cut = λ over. IsCharBoundary-after_ascii bs at c.as_bytes-bytes.ensures.utf8 c.loop-at-test.true (blank-ascii (get_or bs at 0) blank);
          }
    ]
