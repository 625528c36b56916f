-- A datum as a tree, in which each list is a list of trees.
use Rattle.std.specs.Prelude.{ℕ, ◌+◌, max, Option, Some, None, List, [], ◌∷◌}
use Rattle.sexp_reader.specs.declared.datum.Datum.{Datum, fold-Datum}
use Rattle.sexp_reader.specs.declared.datum.Datum.TheOpen.{Datum-F}

mutual
  pub data Tree : Type 0 where
    symbol : List ℕ → Tree
    text : List ℕ → Tree
    number : ℕ → Tree
    list : Trees → Tree

  pub data Trees : Type 0 where
    none : Trees
    more : Tree → Trees → Trees

-- these trees, one after another
abbrev pub trees_of : List Tree → Trees
trees_of [] = none
trees_of (t ∷ ts) = more t (trees_of ts)

abbrev pub tree_by : Datum-F Tree → Tree
tree_by (Datum-F.Symbol s) = symbol s
tree_by (Datum-F.Text s) = text s
tree_by (Datum-F.Number n) = number n
tree_by (Datum-F.List ts) = list (trees_of ts)

-- the tree of a datum
unfoldable pub tree : Datum → Tree
tree d = fold-Datum Tree tree_by d

-- how many levels of lists there are
abbrev mutual
  pub depth_of : Tree → ℕ
  depth_of (symbol s) = 0
  depth_of (text s) = 0
  depth_of (number n) = 0
  depth_of (list ts) = depths_of ts + 1

  pub depths_of : Trees → ℕ
  depths_of none = 0
  depths_of (more t ts) = max (depth_of t) (depths_of ts)

-- the trees of a list, one after another
abbrev pub members : Trees → List Tree
members none = []
members (more t ts) = t ∷ members ts

-- the bytes of a symbol, if the tree is one
abbrev pub symbol_in : Tree → Option (List ℕ)
symbol_in (symbol s) = Some s
symbol_in (text s) = None
symbol_in (number n) = None
symbol_in (list ts) = None

-- the bytes of a text, if the tree is one
abbrev pub text_in : Tree → Option (List ℕ)
text_in (symbol s) = None
text_in (text s) = Some s
text_in (number n) = None
text_in (list ts) = None

-- a number, if the tree is one
abbrev pub number_in : Tree → Option ℕ
number_in (symbol s) = None
number_in (text s) = None
number_in (number n) = Some n
number_in (list ts) = None

-- the trees of a list, if the tree is one
abbrev pub list_in : Tree → Option (List Tree)
list_in (symbol s) = None
list_in (text s) = None
list_in (number n) = None
list_in (list ts) = Some (members ts)
