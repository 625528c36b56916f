use Rattle.std.proofs.Common.{ap, sym, ◌∙◌}
use Rattle.std.specs.List.{list_all}
use Rattle.name_limits.specs.Limits.{is_word}
use Rattle.auth_words.proofs.FitLemmas.{read_fits}
use Rattle.auth_words.proofs.reading.read_words.Goals as goal

pub returns-clause-fitting : goal.returns-clause-fitting
returns-clause-fitting c =
    read_fits c.as_slice-2.result.now c.read_command.result
    (ap (list_all is_word) (c.as_slice-2.ensures ∙ sym c.as_slice.ensures) ∙ sym c.are_words.ensures ∙ c.if-not-are_words.false) c.read_command.ensures
