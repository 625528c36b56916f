use Rattle.std.proofs.Common.{map}
use Rattle.std.proofs.lemmas.Result.{IfOk-weaker}
use Rattle.clap.specs.Words.{app_of}
use Rattle.auth_words.specs.GivenInside.{Takes}
use Rattle.auth_words.proofs.MatchLemmas.{is_simple_too, is_refused}
use Rattle.auth_words.proofs.given.matches_in.Goals as goal

pub returns-in-Ok : goal.returns-in-Ok
returns-in-Ok c =
    (c.in-Ok.ensures.kinds c.requires, (c.in-Ok.ensures.matches (is_simple_too (app_of c.args.command) c.requires)).0)

pub returns-in-Err : goal.returns-in-Err
returns-in-Err c =
    let texts = map (λ s. s.now) c.args.words.now in
    IfOk-weaker c.refused.result _ (Takes (app_of c.args.command) texts)
    (λ m h. is_refused (app_of c.args.command) texts c.in-Err.error m (c.in-Err.ensures.kinds c.requires) h)
    c.refused.ensures
