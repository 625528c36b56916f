use Rattle.std.proofs.Common.{◌≡◌, ◌+◌, ◌∷◌, drop, get_or, refl, sym, ap, ◌∙◌, arith}
use Rattle.std.specs.Prelude.{Err}
use Rattle.std.proofs.lemmas.List.{drop_more, drop_all}
use Rattle.std.proofs.lemmas.Result.{err_from_is_err_and}
use Rattle.keyring_branch.specs.declared.keyring_fail.KeyringFail.{KeyringFail}
use Rattle.keyring_branch.specs.KeyringReading.{file_of}
use Rattle.keyring_branch.proofs.FaultLemmas.{no_call_failed}
use Rattle.keyring_branch.proofs.GenuineLemmas.{with_next, later_added, all_added}
use Rattle.keyring_branch.proofs.branch.with_files.Goals as goal

pub returns-in_err-keyring-clause-cause : goal.returns-in_err-keyring-clause-cause
returns-in_err-keyring-clause-cause g c =
    let p = err_from_is_err_and c.from_residual-in_err-keyring.result c.from_residual-in_err-keyring.ensures.1 in
    no_call_failed c.from_residual-in_err-keyring.result c.in_err-keyring.field-0.0 _ _ (p.1 ∙ ap (λ (f : KeyringFail). Err f) p.2) (c.in_ok-part.ensures.cause ∙ c.loop-file.invariant.faults) (λ e. c.in_err-keyring.ensures.no_call (ap (λ (f : KeyringFail). Err f) e))

pub loop-file-init : goal.loop-file-init
loop-file-init g c = record { told = refl; table = refl; named = refl; faults = refl; exact = λ tells. refl; later = λ end added. added }

pub loop-file-preserved : goal.loop-file-preserved
loop-file-preserved g c =
    let inv = c.loop-file.invariant in
    let i = c.loop-file.file-index in
    let files = c.args.files.now in
    let file = c.file-item.result in
    let is_file : file ≡ get_or files i file = cc in
    let cut : drop i files ≡ file ∷ drop (i + 1) files = drop_more files i file c.loop-file-test.true ∙ ap (λ f. f ∷ drop (i + 1) files) (sym is_file) in
    record {
      told = c.read_file.ensures.told ∙ inv.told;
      table = c.read_file.ensures.table ∙ inv.table;
      named = c.read_file.ensures.named ∙ inv.named;
      faults = c.in_ok-part.ensures.cause ∙ inv.faults;
      exact = λ tells. with_next (g.G.GitPort.table c.args.git.now) c.args.dir.now c.args.start c.loop-file.keyring c.in_ok-keyring.keyring files (drop i files) (drop (i + 1) files) file c.in-Ok.part cut
          (rw c.in-Ok.is at (c.in_ok-part.ensures.exact (inv.told ∙ tells)) ∙ ap (λ rows. file_of rows c.args.dir.now file.id) inv.table) c.in_ok-keyring.ensures.exact (inv.exact tells);
      later = later_added c.args.start c.loop-file.keyring c.in_ok-keyring.keyring files (drop i files) (drop (i + 1) files) file c.in-Ok.part cut
          (rw c.in-Ok.is at c.in_ok-part.ensures.genuine) c.in_ok-keyring.ensures.exact inv.later;
    }

pub returns-clause-genuine : goal.returns-clause-genuine
returns-clause-genuine g c = all_added c.args.start c.loop-file.keyring c.args.files.now (drop c.loop-file.file-index c.args.files.now) (drop_all c.loop-file.file-index c.args.files.now (omega (arith, c.loop-file-test.false))) c.loop-file.invariant.later
