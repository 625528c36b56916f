use Rattle.std.proofs.Common.{List, Option, ap, map, subst, ◌∙◌}
use Rattle.std.specs.Str.{IsUtf8}
use Rattle.std.proofs.lemmas.Result.{IfOk-weaker}
use Rattle.std.proofs.lemmas.List.Elements.{All-drop}
use Rattle.clap.specs.Words.{Row, is_simple_and_free}
use Rattle.clap.specs.declared.parser.matches.ArgMatches.{ArgMatches}
use Rattle.auth_words.specs.App.{auth_app}
use Rattle.auth_words.specs.GivenInside.{IsPlanOf, Takes}
use Rattle.auth_words.proofs.MatchLemmas.{auth_free}
use Rattle.auth_words.proofs.AuthenticateLemmas.{refused_plan, taken_plan}
use Rattle.auth_words.proofs.reading.plan_of_texts.Goals as goal

pub matches_in-requires : goal.matches_in-requires
matches_in-requires c = ap is_simple_and_free c.in_ok-authenticate.ensures ∙ auth_free

pub returns-in-Some : goal.returns-in-Some
returns-in-Some c =
    let texts = map (λ s. s.now) c.args.texts.now in
    let takes = subst (λ (m : Option ArgMatches). Takes auth_app texts m) c.in-Some.is (rw c.in_ok-authenticate.ensures at c.in_ok-matches.ensures) in
    IfOk-weaker c.plan_of_matches.result _ _
    (λ plan h. taken_plan texts plan (All-drop IsUtf8 1 texts c.requires) takes.0 (subst (λ (rows : List Row). IsPlanOf rows plan) takes.1 h))
    c.plan_of_matches.ensures

pub returns-in-None : goal.returns-in-None
returns-in-None c =
    let texts = map (λ s. s.now) c.args.texts.now in
    refused_plan texts (All-drop IsUtf8 1 texts c.requires)
    (subst (λ (m : Option ArgMatches). Takes auth_app texts m) c.in-None.is (rw c.in_ok-authenticate.ensures at c.in_ok-matches.ensures))
