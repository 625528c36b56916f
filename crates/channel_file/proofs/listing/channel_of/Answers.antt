use Rattle.std.proofs.Common.{◌∙◌, sym, ap, List, ℕ, Option, codes}
use Rattle.std.specs.Prelude.{unwrap_or}
use Rattle.std.proofs.lemmas.Result.{err_from_is_err_and}
use Rattle.channel_file.proofs.ChannelLemmas.{unsound, no_name, no_url, channel_made}
use Rattle.channel_file.proofs.listing.channel_of.Goals as goal

pub returns-in_err-judge_elements-clause-channel : goal.returns-in_err-judge_elements-clause-channel
returns-in_err-judge_elements-clause-channel c =
    let p = err_from_is_err_and c.from_residual.result c.from_residual.ensures.1 in
    rw (p.1, p.2) (unsound c.args.index _ c.in_err-judge_elements.field-0.0 c.in_err-judge_elements.ensures.judged)

pub returns-in_default-clause-channel : goal.returns-in_default-clause-channel
returns-in_default-clause-channel c = no_name c.args.index _ c.in_ok-judge_elements.ensures.judged (sym c.in_default.ensures)

pub returns-in_default-url_among-clause-channel : goal.returns-in_default-url_among-clause-channel
returns-in_default-url_among-clause-channel c = no_url c.args.index _ c.in-Some.name.now c.in_ok-judge_elements.ensures.judged (sym c.in-Some.ensures) (sym c.in_default-url_among.ensures)

pub returns-clause-channel : goal.returns-clause-channel
returns-clause-channel c = channel_made c.args.index _ c.in-Some.name.now c.in-Some-url_among.url.now c.branch_or_default-branch.result.now c.commit_among-commit.result c.introduction_among-introduction.result c.in_ok-channel.channel c.in_ok-judge_elements.ensures.judged (sym c.in-Some.ensures) (sym c.in-Some-url_among.ensures)
    (c.branch_or_default-branch.ensures ∙ ap (λ (o : Option (List ℕ)). unwrap_or o (codes "master")) c.branch_among.ensures) c.commit_among-commit.ensures c.introduction_among-introduction.ensures c.in_ok-channel.ensures
