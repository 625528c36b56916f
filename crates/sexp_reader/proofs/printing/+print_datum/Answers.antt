use Rattle.std.proofs.Common.{◌∷◌, [], ◌++◌, map, take, ap, sym, ◌∙◌, subst, arith}
use Rattle.std.proofs.lemmas.List.{take_all}
use Rattle.sexp_reader.specs.Spelling.{spelling, quoted_spelling, NumbersFit}
use Rattle.sexp_reader.specs.Tree.{tree, list, trees_of}
use Rattle.sexp_reader.proofs.PrintedLemmas.{Lists, Lists-first, Lists-more, Lists-end, map-tree-take, take-none, take-some}
use Rattle.sexp_reader.proofs.TreeLemmas.{tree-Symbol, tree-Text, tree-Number, tree-List}
use Rattle.sexp_reader.proofs.printing.+print_datum.Goals as goal
use Rattle.sexp_reader.proofs.printing.+print_datum.Goals.{then-i-gt0+in_ok-push-in-List-2, else-i-gt0}

pub returns-in_ok-push-in-Symbol-clause-text : goal.returns-in_ok-push-in-Symbol-clause-text
returns-in_ok-push-in-Symbol-clause-text t c =
    c.in_ok-push-in-Symbol.ensures.ok ∙ ap (λ s. c.args.out.now ++ s) (c.as_str.ensures ∙ sym (ap spelling (ap tree c.in-Symbol.is ∙ tree-Symbol c.in-Symbol.symbol)))

pub returns-in_ok-push-in-Symbol-clause-numbers : goal.returns-in_ok-push-in-Symbol-clause-numbers
returns-in_ok-push-in-Symbol-clause-numbers t c = subst NumbersFit (sym (ap tree c.in-Symbol.is ∙ tree-Symbol c.in-Symbol.symbol)) tt

pub returns-in_ok-print_text-in-Text-clause-text : goal.returns-in_ok-print_text-in-Text-clause-text
returns-in_ok-print_text-in-Text-clause-text t c =
    let is = ap tree c.in-Text.is ∙ tree-Text c.in-Text.text in
    c.in_ok-print_text-in-Text.ensures ∙ ap (λ s. c.args.out.now ++ quoted_spelling s) c.as_str-in-Text.ensures ∙ ap (λ x. c.args.out.now ++ spelling x) (sym is)

pub returns-in_ok-print_text-in-Text-clause-numbers : goal.returns-in_ok-print_text-in-Text-clause-numbers
returns-in_ok-print_text-in-Text-clause-numbers t c = subst NumbersFit (sym (ap tree c.in-Text.is ∙ tree-Text c.in-Text.text)) tt

pub returns-in_ok-print_number-in-Number-clause-text : goal.returns-in_ok-print_number-in-Number-clause-text
returns-in_ok-print_number-in-Number-clause-text t c =
    c.in_ok-print_number-in-Number.ensures.text ∙ ap (λ s. c.args.out.now ++ s) (sym (ap spelling (ap tree c.in-Number.is ∙ tree-Number c.in-Number.number)))

pub returns-in_ok-print_number-in-Number-clause-numbers : goal.returns-in_ok-print_number-in-Number-clause-numbers
returns-in_ok-print_number-in-Number-clause-numbers t c =
    subst NumbersFit (sym (ap tree c.in-Number.is ∙ tree-Number c.in-Number.number)) c.print_number.ensures.fits

pub loop-i-preserved : goal.loop-i-preserved
loop-i-preserved t c =
    let ds = c.as_slice-item-items.result.now in
    let i = c.loop-i.i in
    let d = c.item-item.result in
    let said = c.in_ok-print_datum-in-List.ensures in
    let more = map-tree-take ds i d c.loop-i-test.true (sym c.item-item.is) in
    subst (Lists c.args.out.now c.print_datum.new.out) (sym more)
    (elim c.if-i-gt0.branch [
      | then-i-gt0+in_ok-push-in-List-2 w ↦
          Lists-more c.args.out.now c.loop-i.out c.if-i-gt0.out c.print_datum.new.out (map tree (take i ds)) (tree d) (take-some ds i w.if-i-gt0.true c.loop-i-test.true) c.loop-i.invariant
          (w.out-is ∙ w.in_ok-push-in-List-2.ensures.ok) said.text said.numbers
      | else-i-gt0 w ↦
          (let none = take-none ds i (omega arith) in
          subst (λ xs. Lists c.args.out.now c.print_datum.new.out (xs ++ tree d ∷ [])) (sym none)
          (Lists-first c.args.out.now c.loop-i.out c.print_datum.new.out (tree d) (subst (Lists c.args.out.now c.loop-i.out) none c.loop-i.invariant) (said.text ∙ ap (λ o. o ++ spelling (tree d)) w.out-is) said.numbers))
    ])

pub returns-in_ok-push-in-List-3-clause-text : goal.returns-in_ok-push-in-List-3-clause-text
returns-in_ok-push-in-List-3-clause-text t c =
    let ds = c.as_slice-item-items.result.now in
    let whole = ap (map tree) (take_all c.loop-i.i ds c.loop-i-test.false) in
    let is = ap tree c.in-List.is ∙ tree-List c.in-List.items ∙ ap (λ xs. list (trees_of (map tree xs))) (sym c.as_slice-item-items.ensures) in
    Lists-end c.args.out.now c.loop-i.out c.push-in-List-2.new.self (map tree ds) (subst (Lists c.args.out.now c.loop-i.out) whole c.loop-i.invariant) c.in_ok-push-in-List-3.ensures.ok
    ∙ ap (λ x. c.args.out.now ++ spelling x) (sym is)

pub returns-in_ok-push-in-List-3-clause-numbers : goal.returns-in_ok-push-in-List-3-clause-numbers
returns-in_ok-push-in-List-3-clause-numbers t c =
    let ds = c.as_slice-item-items.result.now in
    let whole = ap (map tree) (take_all c.loop-i.i ds c.loop-i-test.false) in
    let is = ap tree c.in-List.is ∙ tree-List c.in-List.items ∙ ap (λ xs. list (trees_of (map tree xs))) (sym c.as_slice-item-items.ensures) in
    let all = subst (Lists c.args.out.now c.loop-i.out) whole c.loop-i.invariant in
    subst NumbersFit (sym is) all.fit
