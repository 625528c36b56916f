use Rattle.std.proofs.Common.{sym}
use Rattle.std.specs.Option.{option_copied}
use Rattle.std.proofs.lemmas.Result.{err_from_is_err_and}
use Rattle.channel_file.proofs.DependencyLemmas.{bad_name, bad_url, bad_branch, bad_commit, bad_introduction, dependency_made}
use Rattle.channel_file.proofs.dependencies.dependency_of.Goals as goal

pub returns-in_err-name-clause-channel : goal.returns-in_err-name-clause-channel
returns-in_err-name-clause-channel c =
    let p = err_from_is_err_and c.from_residual.result c.from_residual.ensures.1 in
    rw (p.1, p.2) (bad_name c.args.index _ c.in_err-name.field-0.0 (sym c.in_err-name.ensures))

pub returns-in_err-url-clause-channel : goal.returns-in_err-url-clause-channel
returns-in_err-url-clause-channel c =
    let p = err_from_is_err_and c.from_residual-in_err-url.result c.from_residual-in_err-url.ensures.1 in
    rw (p.1, p.2) (bad_url c.args.index _ c.in_ok-name.name.now c.in_err-url.field-0.0 (sym c.in_ok-name.ensures) (sym c.in_err-url.ensures))

pub returns-in_err-reference_of-clause-channel : goal.returns-in_err-reference_of-clause-channel
returns-in_err-reference_of-clause-channel c =
    let p = err_from_is_err_and c.from_residual-in_err-reference_of.result c.from_residual-in_err-reference_of.ensures.1 in
    rw (p.1, p.2) (bad_branch c.args.index _ c.in_ok-name.name.now c.in_ok-url.url.now c.in_err-reference_of.field-0.0 (sym c.in_ok-name.ensures) (sym c.in_ok-url.ensures) (sym c.in_err-reference_of.ensures))

pub returns-in_err-commit-clause-channel : goal.returns-in_err-commit-clause-channel
returns-in_err-commit-clause-channel c =
    let p = err_from_is_err_and c.from_residual-in_err-commit.result c.from_residual-in_err-commit.ensures.1 in
    rw (p.1, p.2) (bad_commit c.args.index _ c.in_ok-name.name.now c.in_ok-url.url.now (option_copied c.in_ok-reference_of.field-0) c.in_err-commit.field-0.0 (sym c.in_ok-name.ensures) (sym c.in_ok-url.ensures) (sym c.in_ok-reference_of.ensures) (sym c.in_err-commit.ensures))

pub returns-in_err-introduction-clause-channel : goal.returns-in_err-introduction-clause-channel
returns-in_err-introduction-clause-channel c =
    let p = err_from_is_err_and c.from_residual-in_err-introduction.result c.from_residual-in_err-introduction.ensures.1 in
    rw (p.1, p.2) (bad_introduction c.args.index _ c.in_ok-name.name.now c.in_ok-url.url.now (option_copied c.in_ok-reference_of.field-0) c.in_ok-commit.commit c.in_err-introduction.field-0.0 (sym c.in_ok-name.ensures) (sym c.in_ok-url.ensures) (sym c.in_ok-reference_of.ensures) (sym c.in_ok-commit.ensures) (sym c.in_err-introduction.ensures.introduction))

pub returns-clause-channel : goal.returns-clause-channel
returns-clause-channel c =
    dependency_made c.args.index _ c.in_ok-name.name.now c.in_ok-url.url.now (option_copied c.in_ok-reference_of.field-0) c.in_ok-commit.commit c.in_ok-introduction.introduction c.branch_or_default-branch.result.now c.in_ok-channel.channel
    (sym c.in_ok-name.ensures) (sym c.in_ok-url.ensures) (sym c.in_ok-reference_of.ensures) (sym c.in_ok-commit.ensures) (sym c.in_ok-introduction.ensures.introduction) c.branch_or_default-branch.ensures c.in_ok-channel.ensures
