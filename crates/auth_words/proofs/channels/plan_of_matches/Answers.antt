use Rattle.std.proofs.Common.{sym, codes, ◌∙◌}
use Rattle.std.proofs.lemmas.Result.{IfOk-weaker}
use Rattle.clap.specs.Words.{found_of, rows_of}
use Rattle.clap.proofs.WalkLemmas.{first_value-rows, one_text-rows}
use Rattle.auth_words.proofs.MatchLemmas.{agrees, no_file, no_clones, is_channels_plan}
use Rattle.auth_words.proofs.channels.plan_of_matches.Goals as goal

pub returns-in-Some-get_str : goal.returns-in-Some-get_str
returns-in-Some-get_str c =
    let found = found_of c.args.matches.now in
    let downgrades = agrees (rows_of found) (codes "allow-downgrades") c.get_flag-allow_downgrades.result (λ h. c.get_flag-allow_downgrades.ensures.value (one_text-rows found (codes "allow-downgrades") ∙ h))
    (λ h. c.get_flag-allow_downgrades.ensures.other (one_text-rows found (codes "allow-downgrades") ∙ h)) in
    let unchecked = agrees (rows_of found) (codes "disable-authentication") c.get_flag-unchecked.result (λ h. c.get_flag-unchecked.ensures.value (one_text-rows found (codes "disable-authentication") ∙ h))
    (λ h. c.get_flag-unchecked.ensures.other (one_text-rows found (codes "disable-authentication") ∙ h)) in
    IfOk-weaker c.channels_from.result _ _
    (λ plan h. is_channels_plan (rows_of found) c.in-Some.file.now c.in-Some-get_str.clones.now c.get_flag-allow_downgrades.result c.get_flag-unchecked.result plan
    (sym (c.in-Some.ensures ∙ first_value-rows found (codes "file"))) (sym (c.in-Some-get_str.ensures ∙ first_value-rows found (codes "clones"))) downgrades unchecked h)
    c.channels_from.ensures

pub returns-in-None-get_str : goal.returns-in-None-get_str
returns-in-None-get_str c =
    let found = found_of c.args.matches.now in
    no_clones (rows_of found) (sym (c.in-None-get_str.ensures ∙ first_value-rows found (codes "clones")))

pub returns-in-None : goal.returns-in-None
returns-in-None c =
    let found = found_of c.args.matches.now in
    no_file (rows_of found) (sym (c.in-None.ensures ∙ first_value-rows found (codes "file")))
