use Rattle.std.proofs.lemmas.Result.{err_from_is_err_and}
use Rattle.sexp_reader.specs.Tree.{tree}
use Rattle.channel_file.proofs.ChannelLemmas.{no_datum, no_list, no_channels, gives_channels}
use Rattle.channel_file.proofs.channels.read_list.Goals as goal

pub returns-in_err-datum-clause-reads : goal.returns-in_err-datum-clause-reads
returns-in_err-datum-clause-reads c =
    let p = err_from_is_err_and c.from_residual.result c.from_residual.ensures.1 in
    rw (p.1, p.2) (no_datum _ c.in_err-datum.field-0.0 c.in_err-datum.ensures.datum)

pub returns-in_err-elements-clause-reads : goal.returns-in_err-elements-clause-reads
returns-in_err-elements-clause-reads c =
    let p = err_from_is_err_and c.from_residual-in_err-elements.result c.from_residual-in_err-elements.ensures.1 in
    rw (p.1, p.2) (no_list _ (tree c.in_ok-datum.datum) c.in_err-elements.field-0.0 c.in_ok-datum.ensures.datum c.in_err-elements.ensures.elements)

pub returns-in_err-channels-clause-reads : goal.returns-in_err-channels-clause-reads
returns-in_err-channels-clause-reads c =
    let p = err_from_is_err_and c.from_residual-in_err-channels.result c.from_residual-in_err-channels.ensures.1 in
    rw (p.1, p.2) (no_channels _ (tree c.in_ok-datum.datum) _ c.in_err-channels.field-0.0 c.in_ok-datum.ensures.datum c.in_ok-elements.ensures.elements c.in_err-channels.ensures.channels)

pub returns-clause-reads : goal.returns-clause-reads
returns-clause-reads c = gives_channels _ (tree c.in_ok-datum.datum) _ c.in_ok-channels.channels c.distinct_channels.result c.in_ok-datum.ensures.datum c.in_ok-elements.ensures.elements c.in_ok-channels.ensures.channels c.distinct_channels.ensures.channels
