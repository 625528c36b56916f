use Rattle.std.proofs.Common.{◌∙◌, ℕ, List, Bool, Option, sym, subst}
use Rattle.std.specs.Prelude.{IsTrue}
use Rattle.std.proofs.lemmas.Result.{err_from_is_err_and}
use Rattle.child_ports.specs.Causes.{RoseWhen}
use Rattle.channel_deps.specs.declared.known.Known.{Known}
use Rattle.channel_deps.proofs.AnswerLemmas.{told_faults, metadata_no_fault, metadata_plain}
use Rattle.channel_deps.proofs.KnownLemmas.{no_target, no_file, all_read, no_metadata_read}
use Rattle.channel_deps.proofs.reading.read_known.Goals as goal

pub returns-in_err-target-clause-exact : goal.returns-in_err-target-clause-exact
returns-in_err-target-clause-exact g c =
    let p = err_from_is_err_and c.from_residual.result c.from_residual.ensures.1 in
    rw (p.1, p.2) (λ told. no_target (g.G.GitPort.table c.args.git.now) c.args.dir.now c.args.channel.now c.in_err-target.field-0.0 (c.in_err-target.ensures.exact told))

pub returns-in-Err-clause-exact : goal.returns-in-Err-clause-exact
returns-in-Err-clause-exact g c = λ told.
    let later = subst IsTrue (sym c.in_ok-target.ensures.told) told in
    no_file (g.G.GitPort.table c.args.git.now) c.args.dir.now c.args.channel.now c.in_ok-target.target c.in-Err.fail c.channel_fail.result
    (c.in_ok-target.ensures.exact told) (rw c.in_ok-target.ensures.table at (c.in-Err.ensures.exact later)) c.channel_fail.ensures.told

pub returns-in-Err-clause-git_fault : goal.returns-in-Err-clause-git_fault
returns-in-Err-clause-git_fault g c =
    let same = told_faults {A = Option (List ℕ)} {B = Known} c.args.channel.now c.in-Err.fail c.channel_fail.result c.channel_fail.ensures.told in
    subst (λ (b : Bool). RoseWhen b (g.G.GitPort.faults c.args.git.now) (g.G.GitPort.faults c.read_file.new.git)) same.git (rw c.in_ok-target.ensures.git_fault at c.in-Err.ensures.cause)

pub returns-in-Err-clause-no_sig_fault : goal.returns-in-Err-clause-no_sig_fault
returns-in-Err-clause-no_sig_fault g c = sym (told_faults {A = Option (List ℕ)} {B = Known} c.args.channel.now c.in-Err.fail c.channel_fail.result c.channel_fail.ensures.told).sig ∙ c.in-Err.ensures.no_sig_fault

pub returns-in-Err-clause-no_keep_fault : goal.returns-in-Err-clause-no_keep_fault
returns-in-Err-clause-no_keep_fault g c = sym (told_faults {A = Option (List ℕ)} {B = Known} c.args.channel.now c.in-Err.fail c.channel_fail.result c.channel_fail.ensures.told).keep ∙ c.in-Err.ensures.no_keep_fault

pub returns-in-Ok-metadata_in-clause-exact : goal.returns-in-Ok-metadata_in-clause-exact
returns-in-Ok-metadata_in-clause-exact g c = λ told.
    let later = subst IsTrue (sym c.in_ok-target.ensures.told) told in
    all_read (g.G.GitPort.table c.args.git.now) c.args.dir.now c.args.channel.now c.in_ok-target.target c.in-Ok.file c.in-Ok-metadata_in.metadata
    (c.in_ok-target.ensures.exact told) (rw c.in_ok-target.ensures.table at (c.in-Ok.ensures.exact later)) c.in-Ok-metadata_in.ensures.reads

pub returns-clause-exact : goal.returns-clause-exact
returns-clause-exact g c = λ told.
    let later = subst IsTrue (sym c.in_ok-target.ensures.told) told in
    no_metadata_read (g.G.GitPort.table c.args.git.now) c.args.dir.now c.args.channel.now c.in_ok-target.target c.in-Ok.file c.in-Err-metadata_in.fail c.metadata_fail.result
    (c.in_ok-target.ensures.exact told) (rw c.in_ok-target.ensures.table at (c.in-Ok.ensures.exact later)) c.in-Err-metadata_in.ensures.reads c.metadata_fail.ensures

pub returns-clause-git_fault : goal.returns-clause-git_fault
returns-clause-git_fault g c =
    let none = metadata_no_fault {B = Known} c.args.channel.now c.in-Err-metadata_in.fail c.metadata_fail.result c.metadata_fail.ensures in
    subst (λ (b : Bool). RoseWhen b (g.G.GitPort.faults c.args.git.now) (g.G.GitPort.faults c.read_file.new.git)) (sym none.git) (c.in-Ok.ensures.cause ∙ c.in_ok-target.ensures.git_fault)

pub returns-clause-no_sig_fault : goal.returns-clause-no_sig_fault
returns-clause-no_sig_fault g c = (metadata_no_fault {B = Known} c.args.channel.now c.in-Err-metadata_in.fail c.metadata_fail.result c.metadata_fail.ensures).sig

pub returns-clause-no_keep_fault : goal.returns-clause-no_keep_fault
returns-clause-no_keep_fault g c = (metadata_no_fault {B = Known} c.args.channel.now c.in-Err-metadata_in.fail c.metadata_fail.result c.metadata_fail.ensures).keep

pub returns-clause-plain : goal.returns-clause-plain
returns-clause-plain g c = metadata_plain c.args.channel.now c.in-Err-metadata_in.fail c.metadata_fail.result (λ is. absurd (c.in-Err-metadata_in.ensures.memory (let same = is in cc))) c.metadata_fail.ensures
