use Rattle.std.proofs.Common.{ap₂, ◌∙◌}
use Rattle.std.proofs.lemmas.Result.{IfOk-weaker}
use Rattle.clap.specs.Words.{with_rule}
use Rattle.auth_words.specs.App.{options_app}
use Rattle.auth_words.proofs.app.options.Goals as goal

pub returns : goal.returns
unfolding options_app
returns c =
    let e1 = c.in_ok-c1.ensures.shape c.repository.ensures.local ∙ ap₂ with_rule c.bare.ensures c.repository.ensures.rule in
    let e2 = c.in_ok-c2.ensures.shape c.keyring.ensures.local ∙ ap₂ with_rule e1 c.keyring.ensures.rule in
    let e3 = c.in_ok-c3.ensures.shape c.option.ensures.local ∙ ap₂ with_rule e2 c.option.ensures.rule in
    let e4 = c.in_ok-c4.ensures.shape c.option-2.ensures.local ∙ ap₂ with_rule e3 c.option-2.ensures.rule in
    let e5 = c.in_ok-c5.ensures.shape c.option-3.ensures.local ∙ ap₂ with_rule e4 c.option-3.ensures.rule in
    IfOk-weaker c.arg-6.result _ _ (λ m h. h.shape c.flag.ensures.local ∙ ap₂ with_rule e5 c.flag.ensures.rule) c.arg-6.ensures
