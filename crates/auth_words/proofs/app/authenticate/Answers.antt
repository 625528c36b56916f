use Rattle.std.proofs.Common.{ap₂, ◌≡◌, ◌∙◌}
use Rattle.std.proofs.lemmas.Result.{IfOk-weaker}
use Rattle.clap.specs.Words.{app_of, with_rule}
use Rattle.auth_words.specs.App.{auth_app, options_app}
use Rattle.auth_words.proofs.app.authenticate.Goals as goal

pub returns : goal.returns
unfolding auth_app
returns c =
    let e6 : app_of c.in_ok-c6.c6 ≡ options_app = c.in_ok-c6.ensures in
    let e7 = c.in_ok-c7.ensures.shape c.word.ensures.local ∙ ap₂ with_rule e6 c.word.ensures.rule in
    IfOk-weaker c.arg-2.result _ _ (λ m h. h.shape c.word-2.ensures.local ∙ ap₂ with_rule e7 c.word-2.ensures.rule) c.arg-2.ensures
