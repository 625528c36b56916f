use Rattle.std.proofs.Common.{sym, subst, ◌∙◌}
use Rattle.auth_engine.specs.Tally.{IsTally}
use Rattle.auth_engine.proofs.CountingLemmas.{is_tally}
use Rattle.auth_engine.proofs.counting.tally.Goals as goal

pub returns : goal.returns
returns c =
    subst (IsTally c.args.signers.now) (sym (c.from_vec.ensures ∙ c.in_ok-list.ensures))
    (is_tally c.args.signers.now c.in_ok-counts.counts c.in_ok-rows.rows c.in_ok-counts.ensures c.rank.ensures.ordered c.in_ok-rows.ensures.rows)
