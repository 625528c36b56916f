use Rattle.std.proofs.Common.{sym}
use Rattle.std.proofs.lemmas.Result.{err_from_is_err_and}
use Rattle.sexp_reader.specs.Tree.{tree}
use Rattle.channel_file.proofs.MetadataLemmas.{no_datum, no_properties, gives_metadata}
use Rattle.channel_file.proofs.metadata.read_properties.Goals as goal

pub returns-in_err-datum-clause-reads : goal.returns-in_err-datum-clause-reads
returns-in_err-datum-clause-reads c =
    let p = err_from_is_err_and c.from_residual.result c.from_residual.ensures.1 in
    rw (p.1, p.2) (no_datum _ c.in_err-datum.field-0.0 c.in_err-datum.ensures.datum)

pub returns-in_err-properties-clause-reads : goal.returns-in_err-properties-clause-reads
returns-in_err-properties-clause-reads c =
    let p = err_from_is_err_and c.from_residual-in_err-properties.result c.from_residual-in_err-properties.ensures.1 in
    rw (p.1, p.2) (no_properties _ (tree c.in_ok-datum.datum) c.in_err-properties.field-0.0 c.in_ok-datum.ensures.datum (sym c.in_err-properties.ensures))

pub returns-clause-reads : goal.returns-clause-reads
returns-clause-reads c = gives_metadata _ (tree c.in_ok-datum.datum) _ c.metadata_from.result c.in_ok-datum.ensures.datum (sym c.in_ok-properties.ensures) c.metadata_from.ensures.metadata
