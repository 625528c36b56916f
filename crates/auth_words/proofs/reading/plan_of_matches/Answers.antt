use Rattle.std.proofs.Common.{sym, codes, ◌∙◌}
use Rattle.std.proofs.lemmas.Result.{IfOk-weaker}
use Rattle.clap.specs.Words.{found_of, rows_of}
use Rattle.clap.proofs.WalkLemmas.{first_value-rows}
use Rattle.auth_words.specs.GivenInside.{options_seen}
use Rattle.auth_words.proofs.MatchLemmas.{no_commit, no_signer, is_plan}
use Rattle.auth_words.proofs.reading.plan_of_matches.Goals as goal

pub returns-in-Some-get_str : goal.returns-in-Some-get_str
returns-in-Some-get_str c =
    let found = found_of c.args.matches.now in
    IfOk-weaker c.plan_of.result _ _
    (λ plan h. is_plan (rows_of found) c.in-Some.commit.now c.in-Some-get_str.signer.now (options_seen c.options_in.result) plan
    (sym (c.in-Some.ensures ∙ first_value-rows found (codes "commit"))) (sym (c.in-Some-get_str.ensures ∙ first_value-rows found (codes "signer"))) c.options_in.ensures h)
    c.plan_of.ensures

pub returns-in-None-get_str : goal.returns-in-None-get_str
returns-in-None-get_str c =
    let found = found_of c.args.matches.now in
    no_signer (rows_of found) (sym (c.in-None-get_str.ensures ∙ first_value-rows found (codes "signer")))

pub returns-in-None : goal.returns-in-None
returns-in-None c =
    let found = found_of c.args.matches.now in
    no_commit (rows_of found) (sym (c.in-None.ensures ∙ first_value-rows found (codes "commit")))
