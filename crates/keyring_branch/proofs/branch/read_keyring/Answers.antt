use Rattle.std.proofs.Common.{ap, ◌∙◌}
use Rattle.std.specs.Prelude.{Err}
use Rattle.std.proofs.lemmas.Result.{err_from_is_err_and}
use Rattle.keyring_branch.specs.declared.keyring_fail.KeyringFail.{KeyringFail}
use Rattle.keyring_branch.proofs.BranchLemmas.{keyring_written, found_of}
use Rattle.keyring_branch.proofs.FaultLemmas.{no_call_failed}
use Rattle.keyring_branch.proofs.GenuineLemmas.{of_its_tree}
use Rattle.keyring_branch.proofs.branch.read_keyring.Goals as goal

pub returns-in_err-files-clause-cause : goal.returns-in_err-files-clause-cause
returns-in_err-files-clause-cause g c =
    let p = err_from_is_err_and c.from_residual-in_err-files.result c.from_residual-in_err-files.ensures.1 in
    no_call_failed c.from_residual-in_err-files.result c.in_err-files.field-0.0 _ _ (p.1 ∙ ap (λ (f : KeyringFail). Err f) p.2) c.in_ok-root.ensures.cause (λ e. c.in_err-files.ensures.no_call (ap (λ (f : KeyringFail). Err f) e))

pub returns-in_err-root-clause-only : goal.returns-in_err-root-clause-only
returns-in_err-root-clause-only g c = keyring_written (g.G.GitPort.table c.args.git.now) c.args.dir.now c.args.names.now

pub returns-in_err-files-clause-only : goal.returns-in_err-files-clause-only
returns-in_err-files-clause-only g c = keyring_written (g.G.GitPort.table c.args.git.now) c.args.dir.now c.args.names.now

pub returns-clause-only : goal.returns-clause-only
returns-clause-only g c = keyring_written (g.G.GitPort.table c.args.git.now) c.args.dir.now c.args.names.now

pub returns-clause-found : goal.returns-clause-found
returns-clause-found g c =
    found_of (g.G.GitPort.table c.args.git.now) c.args.dir.now (g.G.GitPort.table c.fetch_root.new.git) (g.G.GitPort.tells c.args.git.now) (g.G.GitPort.tells c.fetch_root.new.git) c.args.names.now c.as_slice.result.now
    c.in_ok-root.root c.as_slice-2.result.now c.in_ok-files.files c.as_slice-3.result.now c.new.result c.new-2.result c.with_files.result
    c.in_ok-root.ensures.table c.in_ok-root.ensures.told c.as_slice.ensures c.as_slice-2.ensures c.as_slice-3.ensures c.new.ensures c.new-2.ensures
    c.in_ok-root.ensures.exact c.in_ok-files.ensures.files c.with_files.ensures.exact

pub returns-clause-genuine : goal.returns-clause-genuine
returns-clause-genuine g c =
    of_its_tree c.in_ok-root.root c.as_slice-2.result.now c.in_ok-files.files c.as_slice-3.result.now c.new.result c.new-2.result c.with_files.result
    c.in_ok-root.ensures.genuine c.as_slice-2.ensures c.in_ok-files.ensures.files c.as_slice-3.ensures c.new.ensures c.new-2.ensures c.with_files.ensures.genuine
