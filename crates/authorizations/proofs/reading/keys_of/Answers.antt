use Rattle.std.proofs.Common.{◌<◌, length, map, sym}
use Rattle.std.proofs.lemmas.List.{length-map}
use Rattle.std.proofs.lemmas.Result.{err_from_is_err_and}
use Rattle.sexp_reader.specs.Tree.{tree}
use Rattle.authorizations.proofs.ReadingLemmas.{read_more, read_fault, map_at}
use Rattle.authorizations.proofs.reading.keys_of.Goals as goal

pub returns-in_err-key-clause-keys : goal.returns-in_err-key-clause-keys
returns-in_err-key-clause-keys c =
    let p = err_from_is_err_and c.from_residual.result c.from_residual.ensures.1 in
    let h : c.loop-index.index < length (map tree c.args.entries.now) = rw (length-map c.args.entries.now tree) c.loop-index-test.true in
    let here = map_at _ _ c.index-entries-index.result c.loop-index-test.true c.index-entries-index.is in
    rw (p.1, p.2) (read_fault _ c.loop-index.index _ c.in_err-key.field-0.0 _ h here (sym c.in_err-key.ensures.key) c.loop-index.invariant)

pub loop-index-preserved : goal.loop-index-preserved
loop-index-preserved c =
    let h : c.loop-index.index < length (map tree c.args.entries.now) = rw (length-map c.args.entries.now tree) c.loop-index-test.true in
    let here = map_at _ _ c.index-entries-index.result c.loop-index-test.true c.index-entries-index.is in
    read_more _ c.loop-index.index _ c.in_ok-key.key _ _ h here (sym c.in_ok-key.ensures.key) c.in_ok-insert.ensures.ok c.loop-index.invariant
