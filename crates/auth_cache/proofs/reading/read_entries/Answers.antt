use Rattle.std.proofs.Common.{Ok, [], List, ℕ, cond, sym, ap, ◌∙◌}
use Rattle.std.proofs.lemmas.Result.{err_from_is_err_and}
use Rattle.auth_cache.specs.Reading.{recorded_of, cache_of}
use Rattle.auth_cache.proofs.FaultLemmas.{is_recorded}
use Rattle.auth_cache.proofs.ReadingLemmas.{gives_err, cache_err, cache_ok}
use Rattle.auth_cache.proofs.reading.read_entries.Goals as goal

pub returns-in_err-recorded : goal.returns-in_err-recorded
returns-in_err-recorded c =
    let p = err_from_is_err_and c.from_residual.result c.from_residual.ensures.1 in
    rw (p.1, p.2) (gives_err c.in_err-recorded.field-0.0 (recorded_of c.args.bytes.now) (cache_of c.args.bytes.now c.args.scope.now)
    (λ e. cache_err c.args.bytes.now c.args.scope.now c.in_err-recorded.field-0.0 e) c.in_err-recorded.ensures)

pub of_list-requires : goal.of_list-requires
of_list-requires c = (is_recorded c.args.bytes.now c.in_ok-recorded.recorded c.in_ok-recorded.ensures).is.commits

pub returns-then-is_under : goal.returns-then-is_under
returns-then-is_under c =
    cache_ok c.args.bytes.now c.args.scope.now c.in_ok-recorded.recorded c.in_ok-recorded.ensures
    ∙ ap (λ b. Ok (cond b c.in_ok-recorded.recorded.commits [])) (sym c.is_under.ensures ∙ c.if-is_under.true)
    ∙ ap (λ (ids : List (List ℕ)). Ok ids) (sym c.of_list.ensures)

pub returns-else-is_under : goal.returns-else-is_under
returns-else-is_under c =
    cache_ok c.args.bytes.now c.args.scope.now c.in_ok-recorded.recorded c.in_ok-recorded.ensures
    ∙ ap (λ b. Ok (cond b c.in_ok-recorded.recorded.commits [])) (sym c.is_under.ensures ∙ c.if-is_under.false)
    ∙ ap (λ (ids : List (List ℕ)). Ok ids) (sym c.new.ensures)
