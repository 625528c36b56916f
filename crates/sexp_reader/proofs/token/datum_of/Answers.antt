use Rattle.std.proofs.Common.{Ok, [], ◌∷◌, ◌++◌, ap, sym, ◌∙◌, refl}
use Rattle.std.proofs.lemmas.Bool.{false≢true}
use Rattle.std.proofs.lemmas.Slice.Eq.{bytes_eq-Decides}
use Rattle.sexp_reader.specs.declared.datum.Datum.TheVariants.{Symbol}
use Rattle.sexp_reader.specs.Tree.{tree}
use Rattle.sexp_reader.proofs.NumberLemmas.{datum_of-parsed, datum_of-too_large, datum_of-other}
use Rattle.sexp_reader.proofs.TreeLemmas.{tree-Number, tree-Symbol}
use Rattle.sexp_reader.proofs.token.datum_of.Goals as goal

pub returns-in_default : goal.returns-in_default
returns-in_default c = (datum_of-too_large c.args.token.now c.parse.result c.in_default.field-0 (sym c.is_digits.ensures ∙ c.if-is_digits.true) c.requires c.parse.ensures.value.0 c.in_default.is, refl)

pub returns-then-is_digits : goal.returns-then-is_digits
returns-then-is_digits c = datum_of-parsed c.args.token.now c.parse.result c.in-Ok.number (sym c.is_digits.ensures ∙ c.if-is_digits.true) c.parse.ensures.value.0 c.in-Ok.is ∙ ap Ok (sym (tree-Number c.in-Ok.number))

pub returns : goal.returns
returns c =
    let token = c.args.token.now in
    let found = c.in_ok-push.ensures.ok ∙ ap (λ x. x ++ token) c.new-symbol.ensures in
    datum_of-other token (sym c.is_digits.ensures ∙ c.if-is_digits.false) (λ dot. false≢true (sym c.if-eq.false ∙ c.eq.ensures ∙ (bytes_eq-Decides token (46 ∷ [])).1 dot))
    ∙ ap Ok (sym (tree-Symbol token) ∙ ap (λ s. tree (Symbol s)) (sym found))
