use Rattle.std.proofs.Common.{◌≡◌, ◌++◌, map, string_bytes}
use Rattle.std.specs.Vec.Iter.{into_iter_items}
use Rattle.guix_auth_cli.specs.Starting.{words_of}
use Rattle.guix_auth_cli.proofs.starting.words_after_first.Given as goal

-- the words so far and those to come are all of them
abbrev pub invariant-loop-arg : goal.invariant-loop-arg
invariant-loop-arg l = l.words ++ map string_bytes (into_iter_items l.arg-iterator) ≡ words_of l.fn.args
