use Rattle.std.proofs.Common.{sym, ◌∙◌}
use Rattle.auth_cache.specs.Reading.{lower_id}
use Rattle.auth_cache.proofs.WordLemmas.{id_answer, nothing_behind}
use Rattle.auth_cache.proofs.lines.id_on.Goals as goal

pub returns-in_err-after : goal.returns-in_err-after
returns-in_err-after c = c.from_residual.ensures ∙ sym (nothing_behind lower_id c.args.word.now c.args.line.now c.in_err-after.ensures)

pub returns : goal.returns
returns c = id_answer c.args.word.now c.args.line.now c.in_ok-after.field-0.now c.of_lower_hex.result c.in_ok-after.ensures c.of_lower_hex.ensures.some c.of_lower_hex.ensures.none
