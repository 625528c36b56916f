-- The tree of each kind of datum.
use Rattle.std.proofs.Common.{◌≡◌, ℕ, Some, List, [], ◌∷◌, map, codes, refl, ap, sym, ◌∙◌}
use Rattle.sexp_reader.specs.declared.datum.Datum.{Datum, fold-Datum, fold-roll-Datum}
use Rattle.sexp_reader.specs.declared.datum.Datum.TheVariants as datum
use Rattle.sexp_reader.specs.Descent.{quoted_data}
use Rattle.sexp_reader.specs.Grammar.{quote_symbol}
use Rattle.sexp_reader.specs.Tree.{Tree, symbol, text, number, list, none, more, trees_of, members, list_in, tree, tree_by}

pub tree-Symbol : (s : List ℕ) → tree (datum.Symbol s) ≡ symbol s
unfolding tree
tree-Symbol s = ap (fold-Datum Tree tree_by) (sym (datum.rolls-Symbol s)) ∙ fold-roll-Datum Tree tree_by _

pub tree-Text : (s : List ℕ) → tree (datum.Text s) ≡ text s
unfolding tree
tree-Text s = ap (fold-Datum Tree tree_by) (sym (datum.rolls-Text s)) ∙ fold-roll-Datum Tree tree_by _

pub tree-Number : (n : ℕ) → tree (datum.Number n) ≡ number n
unfolding tree
tree-Number n = ap (fold-Datum Tree tree_by) (sym (datum.rolls-Number n)) ∙ fold-roll-Datum Tree tree_by _

pub tree-List : (ds : List Datum) → tree (datum.List ds) ≡ list (trees_of (map tree ds))
unfolding tree
tree-List ds = ap (fold-Datum Tree tree_by) (sym (datum.rolls-List ds)) ∙ fold-roll-Datum Tree tree_by _

pub tree-quote : (d : Datum) → tree (datum.List (quoted_data d)) ≡ list (more quote_symbol (more (tree d) none))
tree-quote d = tree-List (quoted_data d) ∙ ap (λ q. list (more q (more (tree d) none))) (tree-Symbol (codes "quote"))

-- ---- what a datum is, by its tree

pub members-trees_of : (ts : List Tree) → members (trees_of ts) ≡ ts
members-trees_of [] = refl
members-trees_of (t ∷ ts) = ap (λ us. t ∷ us) (members-trees_of ts)

pub list_in-List : (ds : List Datum) → list_in (tree (datum.List ds)) ≡ Some (map tree ds)
list_in-List ds = ap list_in (tree-List ds) ∙ ap Some (members-trees_of (map tree ds))

-- what a match on a datum needs
pub ruleset kinds = (tree-Symbol, tree-Text, tree-Number, tree-List, list_in-List)
