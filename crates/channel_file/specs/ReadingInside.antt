-- What the parts of the reading answer, which borrow from the data.
use Rattle.std.specs.Prelude.{ℕ, Option, Result, List, map}
use Rattle.std.specs.Borrow.{Bor}
use Rattle.std.specs.Option.{option_copied, option_map}
use Rattle.std.specs.Result.{result_map_both}
use Rattle.sexp_reader.specs.Tree.{Tree, tree}
use Rattle.sexp_reader.specs.declared.datum.Datum.{Datum}
use Rattle.channel_file.specs.declared.fail.ChannelFail.{ChannelFail}

-- the trees of data, if there are any
abbrev pub trees_in : Option (Bor (List Datum)) → Option (List Tree)
trees_in found = option_map (λ ds. map tree ds) (option_copied found)

-- the tree of a datum, if there is one
abbrev pub tree_in : Option (Bor Datum) → Option Tree
tree_in found = option_map tree (option_copied found)

-- the tree of a datum, or the fault
abbrev pub tree_read : Result Datum ChannelFail → Result Tree ChannelFail
tree_read result = result_map_both tree (λ fault. fault) result

-- the trees of data, or the fault
abbrev pub trees_read : Result (Bor (List Datum)) ChannelFail → Result (List Tree) ChannelFail
trees_read result = result_map_both (λ ds. map tree ds.now) (λ fault. fault) result

-- the bytes of a text, or the fault
abbrev pub text_read : Result (Bor (List ℕ)) ChannelFail → Result (List ℕ) ChannelFail
text_read result = result_map_both (λ text. text.now) (λ fault. fault) result

-- the bytes of a text if there is one, or the fault
abbrev pub text_read_if_any : Result (Option (Bor (List ℕ))) ChannelFail → Result (Option (List ℕ)) ChannelFail
text_read_if_any result = result_map_both option_copied (λ fault. fault) result
