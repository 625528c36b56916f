use Rattle.std.proofs.Common.{◌≡◌, ◌≤◌, ◌+◌, ◌∷◌, [], List, ℕ, length, drop, slice_index, map, false, Ok, ap, sym, ◌∙◌, refl, subst, arith}
use Rattle.std.proofs.lemmas.Result.{err_from_is_err_and}
use Rattle.sexp_reader.specs.declared.datum.Datum.TheVariants as datum
use Rattle.sexp_reader.specs.declared.fail.Cause.TheVariants.{Open, Close}
use Rattle.sexp_reader.specs.Descent.{Stops, ReadsLone}
use Rattle.sexp_reader.specs.Grammar.{IsDatum, skip, ends_token}
use Rattle.sexp_reader.specs.Reading.{listed, quoting}
use Rattle.sexp_reader.specs.Tree.{Tree, tree, depth_of, trees_of}
use Rattle.sexp_reader.proofs.DescentLemmas.{Listing, Listing-more, Listing-closed, Listing-stops, map-tree-append, begins-cell, datum-text, datum-list, datum-quote, datum-token, depth-token, stops-deep, stops-inside, stops-at_end, stops-skipped, stops-close, stops-refused, token-begins, Cuts-some}
use Rattle.sexp_reader.proofs.ExitLemmas.{exit-text, exit-data, exit-lone, exit-token, exit-item, exit-datum, Begins-skipped, tested, cell}
use Rattle.sexp_reader.proofs.ShorterLemmas.{IsDatum-skip, shorter-datum, length-skip_from}
use Rattle.sexp_reader.proofs.TreeLemmas.{tree-Text, tree-List, tree-quote}
use Rattle.sexp_reader.proofs.reading.+descent.Goals as goal

-- data
pub data-returns-in_default : goal.data-returns-in_default
data-returns-in_default t c = λ levels count.
    Listing-stops c.args.level c.args.text.now (map tree c.loop-first.items) c.loop-first.rest.now levels Open 0 c.loop-first.invariant.listing count
    (stops-at_end c.loop-first.rest.now (listed (map tree c.loop-first.items)) levels (sym c.skip-next.ensures ∙ c.in_default.ensures))

pub data-returns-then-first-eq41 : goal.data-returns-then-first-eq41
data-returns-then-first-eq41 t c = (
  Listing-closed c.args.level c.args.text.now (map tree c.loop-first.items) c.loop-first.rest.now c.past_first.result.now c.loop-first.invariant.listing
      (sym c.skip-next.ensures ∙ c.in-Some.ensures ∙ ap (λ b. b ∷ drop 1 c.skip-next.result.now) c.if-first-eq41.true ∙ ap (λ r. 41 ∷ r) (sym c.past_first.ensures)),
  c.loop-first.invariant.listing.deep,
  c.past_first.utf8,
)

pub data-datum-requires : goal.data-datum-requires
data-datum-requires t c = (
  omega (arith, c.loop-first.invariant.listing.within, length-skip_from false c.loop-first.rest.now, ap length c.skip-next.ensures),
  (Begins-skipped c.loop-first.rest.now c.skip-next.result.now c.in-Some.first c.skip-next.ensures c.in-Some.ensures c.if-first-eq41.false, c.requires.1.1),
)

pub data-returns-in_err-item : goal.data-returns-in_err-item
data-returns-in_err-item t c =
    let p = err_from_is_err_and c.from_residual.result c.from_residual.ensures.1 in
    rw (p.1, p.2) (exit-item c.args.level c.args.text.now (map tree c.loop-first.items) c.loop-first.rest.now c.skip-next.result.now c.in_err-item.field-0.0 c.loop-first.invariant.listing c.skip-next.ensures c.in_err-item.ensures)

item_is : (rest next after : List ℕ) (x : Tree) → next ≡ skip rest → IsDatum x next after → IsDatum x rest after
item_is rest next after x is one = IsDatum-skip x rest after (subst (λ b. IsDatum x b after) is one)

pub data-loop-first-smaller : goal.data-loop-first-smaller
data-loop-first-smaller t c = shorter-datum (tree c.in_ok-item.item) c.loop-first.rest.now c.in_ok-item.after.now (item_is c.loop-first.rest.now c.skip-next.result.now c.in_ok-item.after.now (tree c.in_ok-item.item) c.skip-next.ensures c.in_ok-item.ensures.0)

pub data-loop-first-preserved : goal.data-loop-first-preserved
data-loop-first-preserved t c =
    let x = tree c.in_ok-item.item in
    let one = item_is c.loop-first.rest.now c.skip-next.result.now c.in_ok-item.after.now x c.skip-next.ensures c.in_ok-item.ensures.0 in
    record {
      utf8 = c.in_ok-item.ensures.2;
      listing = subst (λ xs. Listing c.args.level c.args.text.now xs c.in_ok-item.after.now) (sym (ap (map tree) c.in_ok-push.ensures.ok ∙ map-tree-append c.loop-first.items c.in_ok-item.item))
          (Listing-more c.args.level c.args.text.now (map tree c.loop-first.items) c.loop-first.rest.now c.in_ok-item.after.now x c.loop-first.invariant.listing one c.in_ok-item.ensures.1);
    }

-- datum
pub datum-returns-in_err-found : goal.datum-returns-in_err-found
datum-returns-in_err-found t c =
    let p = err_from_is_err_and c.from_residual.result c.from_residual.ensures.1 in
    rw (p.1, p.2) (exit-text c.args.level c.args.text.now c.past_first.result.now c.in_err-found.field-0.0
    (cell c.args.text.now c.as_bytes.result.now c.past_first.result.now 34 c.requires.1.1.0 c.as_bytes.ensures.value c.if-first-eq34.true c.past_first.ensures) c.in_err-found.ensures)

pub datum-returns-then-first-eq34 : goal.datum-returns-then-first-eq34
datum-returns-then-first-eq34 t c =
    let text = c.args.text.now in
    let s = c.in_ok-found.found in
    let read = c.in_ok-found.ensures.1 in
    let is = datum-text s text c.past_first.result.now read.0 c.in_ok-found.rest.now c.requires.1.1.0
    (cell text c.as_bytes.result.now c.past_first.result.now 34 c.requires.1.1.0 c.as_bytes.ensures.value c.if-first-eq34.true c.past_first.ensures) read.1 read.2 in
    (subst (λ x. IsDatum x text c.in_ok-found.rest.now) (sym (tree-Text s)) is, subst (λ x. c.args.level + depth_of x ≤ 128) (sym (tree-Text s)) (omega (arith, c.requires.1.1.1)), c.in_ok-found.ensures.0)

pub datum-returns-then-level-eq-MAX_LEVELS : goal.datum-returns-then-level-eq-MAX_LEVELS
datum-returns-then-level-eq-MAX_LEVELS t c = λ levels count.
    let text = c.args.text.now in
    stops-deep text (drop 1 text) levels 40 (listed []) (begins-cell text 40 c.requires.1.1.0 (tested text c.as_bytes.result.now 40 c.as_bytes.ensures.value c.if-first-eq40.true)) refl (count ∙ c.if-level-eq-MAX_LEVELS.true)

pub datum-returns-then-level-eq-MAX_LEVELS-2 : goal.datum-returns-then-level-eq-MAX_LEVELS-2
datum-returns-then-level-eq-MAX_LEVELS-2 t c = λ levels count.
    let text = c.args.text.now in
    stops-deep text (drop 1 text) levels 39 quoting (begins-cell text 39 c.requires.1.1.0 (tested text c.as_bytes.result.now 39 c.as_bytes.ensures.value c.if-first-eq39.true)) refl (count ∙ c.if-level-eq-MAX_LEVELS-2.true)

pub datum-returns-in_err-items : goal.datum-returns-in_err-items
datum-returns-in_err-items t c =
    let p = err_from_is_err_and c.from_residual-in_err-items.result c.from_residual-in_err-items.ensures.1 in
    rw (p.1, p.2) (exit-data c.args.level c.args.text.now c.past_first-then-first-eq40.result.now c.in_err-items.field-0.0
    (cell c.args.text.now c.as_bytes.result.now c.past_first-then-first-eq40.result.now 40 c.requires.1.1.0 c.as_bytes.ensures.value c.if-first-eq40.true c.past_first-then-first-eq40.ensures)
    c.requires.1.1.1 c.if-level-eq-MAX_LEVELS.false c.in_err-items.ensures)

pub datum-returns-then-first-eq40 : goal.datum-returns-then-first-eq40
datum-returns-then-first-eq40 t c =
    let text = c.args.text.now in
    let ds = c.in_ok-items.items in
    let read = c.in_ok-items.ensures in
    let is = datum-list (trees_of (map tree ds)) text c.past_first-then-first-eq40.result.now c.in_ok-items.rest.now c.requires.1.1.0
    (cell text c.as_bytes.result.now c.past_first-then-first-eq40.result.now 40 c.requires.1.1.0 c.as_bytes.ensures.value c.if-first-eq40.true c.past_first-then-first-eq40.ensures) read.0 in
    (subst (λ x. IsDatum x text c.in_ok-items.rest.now) (sym (tree-List ds)) is, subst (λ x. c.args.level + depth_of x ≤ 128) (sym (tree-List ds)) (omega (arith, read.1)), read.2)

pub datum-returns-in_err-quoted : goal.datum-returns-in_err-quoted
datum-returns-in_err-quoted t c =
    let p = err_from_is_err_and c.from_residual-in_err-quoted.result c.from_residual-in_err-quoted.ensures.1 in
    rw (p.1, p.2) (exit-lone c.args.level c.args.text.now c.past_first-then-first-eq39.result.now c.in_err-quoted.field-0.0
    (cell c.args.text.now c.as_bytes.result.now c.past_first-then-first-eq39.result.now 39 c.requires.1.1.0 c.as_bytes.ensures.value c.if-first-eq39.true c.past_first-then-first-eq39.ensures)
    c.requires.1.1.1 c.if-level-eq-MAX_LEVELS-2.false c.in_err-quoted.ensures)

pub datum-returns-in_default : goal.datum-returns-in_default
datum-returns-in_default t c = λ levels count.
    let after = c.past_first-then-first-eq39.result.now in
    let at_end : skip after ≡ [] = subst (λ o. ReadsLone (c.args.level + 1) after (Ok o)) c.in_default.is c.in_ok-quoted.ensures in
    stops-inside c.args.text.now after levels 39 quoting Open 0
    (cell c.args.text.now c.as_bytes.result.now after 39 c.requires.1.1.0 c.as_bytes.ensures.value c.if-first-eq39.true c.past_first-then-first-eq39.ensures)
    refl (omega (arith, c.requires.1.1.1, c.if-level-eq-MAX_LEVELS-2.false)) (stops-at_end after quoting levels at_end)

pub datum-returns-then-first-eq39 : goal.datum-returns-then-first-eq39
datum-returns-then-first-eq39 t c =
    let text = c.args.text.now in
    let after = c.past_first-then-first-eq39.result.now in
    let rest = c.in-Some.rest.now in
    let d = c.in-Some.quoted in
    let read = subst (λ o. ReadsLone (c.args.level + 1) after (Ok o)) c.in-Some.is c.in_ok-quoted.ensures in
    let same = ap (λ ds. tree (datum.List ds)) c.in_ok-items-2.ensures ∙ tree-quote d in
    let is = datum-quote (tree d) text after rest c.requires.1.1.0
    (cell text c.as_bytes.result.now after 39 c.requires.1.1.0 c.as_bytes.ensures.value c.if-first-eq39.true c.past_first-then-first-eq39.ensures) read.0 in
    (subst (λ x. IsDatum x text rest) (sym same) is, subst (λ x. c.args.level + depth_of x ≤ 128) (sym same) (omega (arith, read.1)), read.2)

pub datum-returns-then-is_refused : goal.datum-returns-then-is_refused
datum-returns-then-is_refused t c = λ levels count.
    let text = c.args.text.now in
    let got = c.as_bytes.result.now in
    stops-refused text levels (slice_index got 0) c.requires.1.1.0 (tested text got (slice_index got 0) c.as_bytes.ensures.value refl) (sym c.is_refused.ensures ∙ c.if-is_refused.true) c.if-first-eq34.false c.if-first-eq40.false c.if-first-eq39.false

got_first : (bytes got : List ℕ) → got ≡ bytes → slice_index bytes 0 ≡ slice_index got 0
got_first bytes got same = ap (λ x. slice_index x 0) (sym same)

-- a token
pub datum-returns-in_err-found-2 : goal.datum-returns-in_err-found-2
datum-returns-in_err-found-2 t c =
    let text = c.args.text.now in
    let got = c.as_bytes.result.now in
    let same = got_first text got c.as_bytes.ensures.value in
    let inside = token-begins text (slice_index got 0) c.requires.1.1.0 same (sym c.is_refused.ensures ∙ c.if-is_refused.false) c.if-first-eq34.false c.if-first-eq40.false in
    let some = Cuts-some text c.cut_token.result.0.now c.cut_token.result.1.now c.cut_token.ensures c.requires.1.1.0 (ap ends_token same ∙ inside) in
    let p = err_from_is_err_and c.from_residual-in_err-found-2.result c.from_residual-in_err-found-2.ensures.1 in
    rw (p.1, p.2) (exit-token c.args.level text c.cut_token.result.0.now c.cut_token.result.1.now c.in_err-found-2.field-0.0 c.cut_token.ensures some (λ e. c.if-first-eq39.false (sym same ∙ e)) c.in_err-found-2.ensures)

pub datum-returns : goal.datum-returns
datum-returns t c =
    let text = c.args.text.now in
    let got = c.as_bytes.result.now in
    let token = c.cut_token.result.0.now in
    let x = tree c.in_ok-found-2.found in
    let same = got_first text got c.as_bytes.ensures.value in
    let inside = token-begins text (slice_index got 0) c.requires.1.1.0 same (sym c.is_refused.ensures ∙ c.if-is_refused.false) c.if-first-eq34.false c.if-first-eq40.false in
    let some = Cuts-some text token c.cut_token.result.1.now c.cut_token.ensures c.requires.1.1.0 (ap ends_token same ∙ inside) in (
      datum-token x text token c.cut_token.result.1.now c.requires.1.1.0 c.cut_token.ensures some (λ e. c.if-first-eq39.false (sym same ∙ e)) c.in_ok-found-2.ensures,
      omega (arith, depth-token x token c.in_ok-found-2.ensures, c.requires.1.1.1),
      c.cut_token.ensures.utf8,
    )

-- lone
pub lone-datum-requires : goal.lone-datum-requires
lone-datum-requires t c = (
  omega (arith, length-skip_from false c.args.text.now, ap length c.skip-next.ensures),
  (Begins-skipped c.args.text.now c.skip-next.result.now c.in-Some.first c.skip-next.ensures c.in-Some.ensures c.if-first-eq41.false, c.requires.1.1),
)

pub lone-returns-in_err-found : goal.lone-returns-in_err-found
lone-returns-in_err-found t c =
    let p = err_from_is_err_and c.from_residual.result c.from_residual.ensures.1 in
    rw (p.1, p.2) (exit-datum c.args.level c.args.text.now c.skip-next.result.now c.in_err-found.field-0.0 c.skip-next.ensures c.in_err-found.ensures)

pub lone-returns-then-first-eq41 : goal.lone-returns-then-first-eq41
lone-returns-then-first-eq41 t c = λ levels count lone.
    let text = c.args.text.now in
    let next = c.skip-next.result.now in
    let closes = stops-close next (drop 1 next) levels (c.in-Some.ensures ∙ ap (λ b. b ∷ drop 1 next) c.if-first-eq41.true) lone in
    stops-skipped text levels Close (length next) (subst (λ b. Stops levels b Close (length next)) c.skip-next.ensures closes)

pub lone-returns : goal.lone-returns
lone-returns t c =
    (item_is c.args.text.now c.skip-next.result.now c.in_ok-found.rest.now (tree c.in_ok-found.found) c.skip-next.ensures c.in_ok-found.ensures.0, c.in_ok-found.ensures.1, c.in_ok-found.ensures.2)
