use Rattle.std.proofs.Common.{◌≡◌, ◌∙◌, ℕ, List, Bool, Ok, Err, sym, subst}
use Rattle.child_ports.specs.Causes.{RoseWhen}
use Rattle.auth_rules.specs.World.{Id}
use Rattle.auth_engine.specs.Answers as engine
use Rattle.channel_clone.specs.Resolving.{resolved}
use Rattle.channel_deps.proofs.AnswerLemmas.{told_faults}
use Rattle.channel_deps.proofs.KnownLemmas.{target_told, target_found}
use Rattle.channel_deps.proofs.reading.read_target.Goals as goal

pub returns-in-Ok-resolve-clause-exact : goal.returns-in-Ok-resolve-clause-exact
returns-in-Ok-resolve-clause-exact g c = λ told.
    let found = subst (λ (names : List (List ℕ)). Ok c.in-Ok-resolve.target ≡ resolved (g.G.GitPort.table c.args.git.now) c.args.dir.now names) c.in-Ok.ensures.names (c.in-Ok-resolve.ensures.exact told) in
    target_found c.args.channel.now c.in-Ok-resolve.target _ found

pub returns-clause-exact : goal.returns-clause-exact
returns-clause-exact g c = λ told.
    let found = subst (λ (names : List (List ℕ)). engine.Gives {T = Id} (Err c.in-Err.fail) (resolved (g.G.GitPort.table c.args.git.now) c.args.dir.now names)) c.in-Ok.ensures.names (c.in-Err.ensures.exact told) in
    target_told c.args.channel.now c.in-Err.fail c.channel_fail.result _ c.channel_fail.ensures.told found

pub returns-clause-git_fault : goal.returns-clause-git_fault
returns-clause-git_fault g c =
    let same = told_faults {A = Id} {B = Id} c.args.channel.now c.in-Err.fail c.channel_fail.result c.channel_fail.ensures.told in
    subst (λ (b : Bool). RoseWhen b (g.G.GitPort.faults c.args.git.now) (g.G.GitPort.faults c.resolve.new.git)) same.git c.in-Err.ensures.cause

pub returns-clause-no_sig_fault : goal.returns-clause-no_sig_fault
returns-clause-no_sig_fault g c = sym (told_faults {A = Id} {B = Id} c.args.channel.now c.in-Err.fail c.channel_fail.result c.channel_fail.ensures.told).sig ∙ c.in-Err.ensures.no_sig_fault

pub returns-clause-no_keep_fault : goal.returns-clause-no_keep_fault
returns-clause-no_keep_fault g c = sym (told_faults {A = Id} {B = Id} c.args.channel.now c.in-Err.fail c.channel_fail.result c.channel_fail.ensures.told).keep ∙ c.in-Err.ensures.no_keep_fault
