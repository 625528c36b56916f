use Rattle.std.proofs.Common.{ap₂, ◌∙◌}
use Rattle.std.proofs.lemmas.Result.{IfOk-weaker}
use Rattle.clap.specs.Words.{with_rule}
use Rattle.auth_words.specs.App.{channels_app}
use Rattle.auth_words.proofs.app.channels.Goals as goal

pub returns : goal.returns
unfolding channels_app
returns c =
    let e1 = c.in_ok-c1.ensures.shape c.clones.ensures.local ∙ ap₂ with_rule c.bare.ensures c.clones.ensures.rule in
    let e2 = c.in_ok-c2.ensures.shape c.flag.ensures.local ∙ ap₂ with_rule e1 c.flag.ensures.rule in
    let e3 = c.in_ok-c3.ensures.shape c.flag-2.ensures.local ∙ ap₂ with_rule e2 c.flag-2.ensures.rule in
    IfOk-weaker c.arg-4.result _ _ (λ m h. h.shape c.word.ensures.local ∙ ap₂ with_rule e3 c.word.ensures.rule) c.arg-4.ensures
