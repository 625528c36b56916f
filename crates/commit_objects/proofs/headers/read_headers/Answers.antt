use Rattle.std.proofs.Common.{◌≡◌, Bool, true, false, is_some, not, MatchOption, List, ℕ, [], ◌∷◌, ◌++◌, sym, ap, ◌∙◌, subst, arith}
use Rattle.std.proofs.lemmas.Bool.{false≢true}
use Rattle.commit_objects.specs.declared.headers.Signed.{Signed}
use Rattle.commit_objects.specs.Form.{sha1_form}
use Rattle.commit_objects.specs.Lines.{NoLineEnd}
use Rattle.commit_objects.specs.Faults.{BeginsWith}
use Rattle.commit_objects.specs.Headers.{UnsignedTo, SignedTo}
use Rattle.commit_objects.proofs.LineLemmas.{begins_if, begins_not}
use Rattle.commit_objects.proofs.FurtherLemmas.{sha1_words, Cut, reached_by, more_by, unsigned_by, signed_first, begins_line, none_after, some_after, some_line, none_line, shorter, cut_short, cut_short_in}
use Rattle.commit_objects.proofs.headers.read_headers.Goals as goal
use Rattle.commit_objects.proofs.headers.read_headers.Goals.{else-is_some-2-via-then-is_some-2+else-is_some-3, else-is_some-2-via-else-is_some-2}

not_false : (a b : Bool) → a ≡ not b → b ≡ true → a ≡ false
not_false a b e h = e ∙ ap not h

not_true : (a b : Bool) → a ≡ not b → b ≡ false → a ≡ true
not_true a b e h = e ∙ ap not h

pub returns-then-is_some-clause-fault : goal.returns-then-is_some-clause-fault
returns-then-is_some-clause-fault c =
    let text = c.args.text.now in
    let rest = c.headers.rest.now in
    let first = c.first_line.result.0.now in
    let reached = reached_by (λ (s : Signed). s.before.now) (λ (s : Signed). s.value.now) (λ (s : Signed). s.more.now) (λ (s : Signed). s.after.now) sha1_form text sha1_words c.headers.signed rest c.headers.invariant.so_far in (
      reached.headers,
      record {
        rest = rest;
        fit = reached.fit;
        whole = reached.whole;
        stands = begins_line c.first_line.result.1 rest first sha1_form.foreign c.first_line.ensures.line
            (begins_if c.after-in-headers.result first sha1_form.foreign c.after-in-headers.ensures (sym c.is_some.ensures ∙ c.if-is_some.true));
      },
    )

pub returns-then-is_some-3-clause-fault : goal.returns-then-is_some-3-clause-fault
returns-then-is_some-3-clause-fault c =
    let text = c.args.text.now in
    let rest = c.headers.rest.now in
    let first = c.first_line.result.0.now in
    let reached = reached_by (λ (s : Signed). s.before.now) (λ (s : Signed). s.value.now) (λ (s : Signed). s.more.now) (λ (s : Signed). s.after.now) sha1_form text sha1_words c.headers.signed rest c.headers.invariant.so_far in (
      reached.headers,
      reached.signed_is ∙ sym c.is_some-then-is_some-2.ensures ∙ c.if-is_some-3.true,
      record {
        rest = rest;
        fit = reached.fit;
        whole = reached.whole;
        stands = begins_line c.first_line.result.1 rest first sha1_form.own c.first_line.ensures.line
            (begins_if c.after-value.result first sha1_form.own c.after-value.ensures (sym c.is_some-in-headers.ensures ∙ c.if-is_some-2.true));
      },
    )

pub returns-in_default-clause-fault : goal.returns-in_default-clause-fault
returns-in_default-clause-fault c =
    let text = c.args.text.now in
    let rest = c.headers.rest.now in
    let first = c.first_line.result.0.now in
    let is : rest ≡ first = none_line c.first_line.result.1 rest first c.first_line.ensures.line c.in_default.is in
    let once : BeginsWith sha1_form.own first → is_some c.headers.signed ≡ false = λ begins. elim c.else-is_some-2.branch [
      | else-is_some-2-via-then-is_some-2+else-is_some-3 w ↦ sym w.is_some-then-is_some-2.ensures ∙ w.if-is_some-3.false
      | else-is_some-2-via-else-is_some-2 w ↦ absurd (begins_not c.after-value.result first sha1_form.own c.after-value.ensures (sym c.is_some-in-headers.ensures ∙ w.if-is_some-2.false) begins.0 begins.1)
    ] in
    let reached = reached_by (λ (s : Signed). s.before.now) (λ (s : Signed). s.value.now) (λ (s : Signed). s.more.now) (λ (s : Signed). s.after.now) sha1_form text sha1_words c.headers.signed rest c.headers.invariant.so_far in
    cut_short sha1_form text rest (is_some c.headers.signed) reached (subst NoLineEnd (sym is) c.first_line.ensures.one_line) c.headers.invariant.no_space
    (λ signed tail e. false≢true (sym (once (tail, sym is ∙ e)) ∙ signed))
    (λ tail e. begins_not c.after-in-headers.result first sha1_form.foreign c.after-in-headers.ensures (sym c.is_some.ensures ∙ c.if-is_some.false) tail (sym is ∙ e))

pub returns-in_default-continuation-clause-fault : goal.returns-in_default-continuation-clause-fault
returns-in_default-continuation-clause-fault c =
    let text = c.args.text.now in
    let rest = c.headers.rest.now in
    let first = c.first_line.result.0.now in
    let lines = c.in-Some.lines.now in
    let is : rest ≡ first ++ 10 ∷ lines = some_line c.first_line.result.1 c.in-Some.lines rest first c.first_line.ensures.line c.in-Some.is in
    let once : BeginsWith sha1_form.own first → is_some c.headers.signed ≡ false = λ begins. elim c.else-is_some-2.branch [
      | else-is_some-2-via-then-is_some-2+else-is_some-3 w ↦ sym w.is_some-then-is_some-2.ensures ∙ w.if-is_some-3.false
      | else-is_some-2-via-else-is_some-2 w ↦ absurd (begins_not c.after-value.result first sha1_form.own c.after-value.ensures (sym c.is_some-in-headers.ensures ∙ w.if-is_some-2.false) begins.0 begins.1)
    ] in
    let reached = reached_by (λ (s : Signed). s.before.now) (λ (s : Signed). s.value.now) (λ (s : Signed). s.more.now) (λ (s : Signed). s.after.now) sha1_form text sha1_words c.headers.signed rest c.headers.invariant.so_far in
    cut_short_in sha1_form sha1_words text rest first lines (is_some c.headers.signed) reached c.first_line.ensures.one_line is c.in_default-continuation.ensures
    (begins_not c.after.result rest (10 ∷ []) c.after.ensures (not_false _ c.is_none.result c.is_none.ensures c.headers-test.true)) (λ tail e. c.headers.invariant.no_space (tail, e))
    (begins_not c.after-in-headers.result first sha1_form.foreign c.after-in-headers.ensures (sym c.is_some.ensures ∙ c.if-is_some.false)) once

pub headers-preserved-in-Some-value : goal.headers-preserved-in-Some-value
headers-preserved-in-Some-value c =
    let text = c.args.text.now in
    let rest = c.headers.rest.now in
    let first = c.first_line.result.0.now in
    let lines = c.in-Some.lines.now in
    let more = c.in-Some-continuation.more.now in
    let next = c.in-Some-continuation.next.now in
    let value = c.in-Some-value.value.now in
    let is : rest ≡ first ++ 10 ∷ lines = some_line c.first_line.result.1 c.in-Some.lines rest first c.first_line.ensures.line c.in-Some.is in
    let found = c.in-Some-continuation.ensures in
    let named : first ≡ sha1_form.own ++ value = some_after c.after-value.result c.in-Some-value.value first sha1_form.own c.after-value.ensures c.in-Some-value.is in
    let once : is_some c.headers.signed ≡ false = elim c.else-is_some-2.branch [
      | else-is_some-2-via-then-is_some-2+else-is_some-3 w ↦ sym w.is_some-then-is_some-2.ensures ∙ w.if-is_some-3.false
      | else-is_some-2-via-else-is_some-2 w ↦ absurd (begins_not c.after-value.result first sha1_form.own c.after-value.ensures (sym c.is_some-in-headers.ensures ∙ w.if-is_some-2.false) value named)
    ] in
    let so_far = unsigned_by (λ (s : Signed). s.before.now) (λ (s : Signed). s.value.now) (λ (s : Signed). s.more.now) (λ (s : Signed). s.after.now) sha1_form text c.headers.signed rest c.headers.invariant.so_far once in
    let cut : Cut rest first more next = record {
      one_line = c.first_line.ensures.one_line;
      continued = found.0;
      whole = is ∙ ap (λ l. first ++ 10 ∷ l) found.1;
      not_empty = begins_not c.after.result rest (10 ∷ []) c.after.ensures (not_false _ c.is_none.result c.is_none.ensures c.headers-test.true);
      no_space = λ tail e. c.headers.invariant.no_space (tail, e);
    } in
    record {
      so_far = signed_first sha1_form sha1_words text rest value more next so_far (subst (λ (n : List ℕ). Cut rest n more next) named cut)
          (λ tail e. begins_not c.after-in-headers.result first sha1_form.foreign c.after-in-headers.ensures (sym c.is_some.ensures ∙ c.if-is_some.false) tail (named ∙ e));
      no_space = found.2;
      within = omega (arith, shorter rest first more next lines is found.1, c.headers.invariant.within);
    }

pub headers-preserved : goal.headers-preserved
headers-preserved c =
    let text = c.args.text.now in
    let rest = c.headers.rest.now in
    let first = c.first_line.result.0.now in
    let lines = c.in-Some.lines.now in
    let more = c.in-Some-continuation.more.now in
    let next = c.in-Some-continuation.next.now in
    let is : rest ≡ first ++ 10 ∷ lines = some_line c.first_line.result.1 c.in-Some.lines rest first c.first_line.ensures.line c.in-Some.is in
    let found = c.in-Some-continuation.ensures in
    let cut : Cut rest first more next = record {
      one_line = c.first_line.ensures.one_line;
      continued = found.0;
      whole = is ∙ ap (λ l. first ++ 10 ∷ l) found.1;
      not_empty = begins_not c.after.result rest (10 ∷ []) c.after.ensures (not_false _ c.is_none.result c.is_none.ensures c.headers-test.true);
      no_space = λ tail e. c.headers.invariant.no_space (tail, e);
    } in
    record {
      so_far = more_by (λ (s : Signed). s.before.now) (λ (s : Signed). s.value.now) (λ (s : Signed). s.more.now) (λ (s : Signed). s.after.now) sha1_form text c.headers.signed rest first more next c.headers.invariant.so_far cut
          (begins_not c.after-in-headers.result first sha1_form.foreign c.after-in-headers.ensures (sym c.is_some.ensures ∙ c.if-is_some.false))
          (none_after c.after-value.result first sha1_form.own c.after-value.ensures c.in_default-value.is);
      no_space = found.2;
      within = omega (arith, shorter rest first more next lines is found.1, c.headers.invariant.within);
    }

pub returns-clause-found : goal.returns-clause-found
returns-clause-found c =
    let text = c.args.text.now in
    let rest = c.headers.rest.now in
    let end = begins_if c.after.result rest (10 ∷ []) c.after.ensures (not_true _ c.is_none.result c.is_none.ensures c.headers-test.false) in
    (end.0, subst (λ (r : List ℕ). MatchOption c.headers.signed (UnsignedTo sha1_form text r) (λ (s : Signed). SignedTo sha1_form text s.before.now s.value.now s.more.now s.after.now r)) end.1 c.headers.invariant.so_far)
