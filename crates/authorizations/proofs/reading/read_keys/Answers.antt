use Rattle.std.proofs.lemmas.Result.{err_from_is_err_and}
use Rattle.authorizations.proofs.ReadingLemmas.{gives_no_datum, gives_no_entries, gives_keys}
use Rattle.authorizations.proofs.reading.read_keys.Goals as goal

pub returns-in_err-datum-clause-keys : goal.returns-in_err-datum-clause-keys
returns-in_err-datum-clause-keys c =
    let p = err_from_is_err_and c.from_residual.result c.from_residual.ensures.1 in
    rw (p.1, p.2) (gives_no_datum c.args.bytes.now c.in_err-datum.field-0.0 c.in_err-datum.ensures.datum)

pub returns-in_err-entries-clause-keys : goal.returns-in_err-entries-clause-keys
returns-in_err-entries-clause-keys c =
    let p = err_from_is_err_and c.from_residual-in_err-entries.result c.from_residual-in_err-entries.ensures.1 in
    rw (p.1, p.2) (gives_no_entries c.args.bytes.now c.in_ok-datum.datum c.in_err-entries.field-0.0 c.in_ok-datum.ensures.datum c.in_err-entries.ensures.entries)

pub returns-clause-keys : goal.returns-clause-keys
returns-clause-keys c = gives_keys c.args.bytes.now c.in_ok-datum.datum c.in_ok-entries.entries c.keys_of.result c.in_ok-datum.ensures.datum c.in_ok-entries.ensures.entries c.keys_of.ensures.keys
