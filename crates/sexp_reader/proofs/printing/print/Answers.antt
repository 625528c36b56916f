use Rattle.std.proofs.Common.{◌≡◌, [], ◌++◌, Ok, Some, ap, sym, ◌∙◌, subst}
use Rattle.std.specs.Str.{IsUtf8}
use Rattle.sexp_reader.specs.Reading.{first_datum}
use Rattle.sexp_reader.specs.Spelling.{spelling}
use Rattle.sexp_reader.specs.Tree.{tree}
use Rattle.sexp_reader.proofs.FirstLemmas.{first_datum-first}
use Rattle.sexp_reader.proofs.SpellingLemmas.{first-spelling}
use Rattle.sexp_reader.proofs.printing.print.Goals as goal

pub returns-clause-text : goal.returns-clause-text
returns-clause-text c =
    c.in_ok-bytes.ensures ∙ c.as_bytes.ensures.value ∙ c.as_str.ensures ∙ c.in_ok-print_datum.ensures.text ∙ ap (λ o. o ++ spelling (tree c.args.datum.now)) c.new-out.ensures

pub returns-clause-again : goal.returns-clause-again
returns-clause-again c =
    let t = tree c.args.datum.now in
    let written = c.as_bytes.ensures.value ∙ c.as_str.ensures ∙ c.in_ok-print_datum.ensures.text ∙ ap (λ o. o ++ spelling t) c.new-out.ensures in
    subst (λ b. first_datum b ≡ Ok (Some t)) (sym (c.in_ok-bytes.ensures ∙ written))
    (first_datum-first (spelling t) [] t (subst IsUtf8 written c.as_bytes.ensures.utf8) (first-spelling t c.requires c.in_ok-print_datum.ensures.numbers))
