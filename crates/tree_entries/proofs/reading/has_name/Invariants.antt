use Rattle.std.proofs.Common.{◌≡◌, false, take, bytes_eq}
use Rattle.std.specs.List.{list_any}
use Rattle.tree_entries.proofs.reading.has_name.Given as goal

abbrev pub invariant-loop-file : goal.invariant-loop-file
invariant-loop-file l = list_any (λ file. bytes_eq file.name l.fn.name) (take l.file-index l.files) ≡ false
