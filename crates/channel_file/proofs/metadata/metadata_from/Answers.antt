use Rattle.std.proofs.Common.{sym}
use Rattle.std.specs.Option.{option_copied}
use Rattle.std.proofs.lemmas.Result.{err_from_is_err_and}
use Rattle.channel_file.proofs.MetadataLemmas.{bad_directory, bad_url, bad_keyring, bad_news, bad_dependencies, metadata_made}
use Rattle.channel_file.proofs.metadata.metadata_from.Goals as goal

pub returns-in_err-directory-clause-metadata : goal.returns-in_err-directory-clause-metadata
returns-in_err-directory-clause-metadata c =
    let p = err_from_is_err_and c.from_residual.result c.from_residual.ensures.1 in
    rw (p.1, p.2) (bad_directory _ c.in_err-directory.field-0.0 (sym c.in_err-directory.ensures))

pub returns-in_err-url-clause-metadata : goal.returns-in_err-url-clause-metadata
returns-in_err-url-clause-metadata c =
    let p = err_from_is_err_and c.from_residual-in_err-url.result c.from_residual-in_err-url.ensures.1 in
    rw (p.1, p.2) (bad_url _ (option_copied c.in_ok-directory.directory) c.in_err-url.field-0.0 (sym c.in_ok-directory.ensures) (sym c.in_err-url.ensures))

pub returns-in_err-keyring-clause-metadata : goal.returns-in_err-keyring-clause-metadata
returns-in_err-keyring-clause-metadata c =
    let p = err_from_is_err_and c.from_residual-in_err-keyring.result c.from_residual-in_err-keyring.ensures.1 in
    rw (p.1, p.2) (bad_keyring _ (option_copied c.in_ok-directory.directory) (option_copied c.in_ok-url.url) c.in_err-keyring.field-0.0 (sym c.in_ok-directory.ensures) (sym c.in_ok-url.ensures) (sym c.in_err-keyring.ensures))

pub returns-in_err-news-clause-metadata : goal.returns-in_err-news-clause-metadata
returns-in_err-news-clause-metadata c =
    let p = err_from_is_err_and c.from_residual-in_err-news.result c.from_residual-in_err-news.ensures.1 in
    rw (p.1, p.2) (bad_news _ (option_copied c.in_ok-directory.directory) (option_copied c.in_ok-url.url) (option_copied c.in_ok-keyring.keyring) c.in_err-news.field-0.0 (sym c.in_ok-directory.ensures) (sym c.in_ok-url.ensures) (sym c.in_ok-keyring.ensures) (sym c.in_err-news.ensures))

pub returns-in_err-dependencies-clause-metadata : goal.returns-in_err-dependencies-clause-metadata
returns-in_err-dependencies-clause-metadata c =
    let p = err_from_is_err_and c.from_residual-in_err-dependencies.result c.from_residual-in_err-dependencies.ensures.1 in
    rw (p.1, p.2) (bad_dependencies _ (option_copied c.in_ok-directory.directory) (option_copied c.in_ok-url.url) (option_copied c.in_ok-keyring.keyring) (option_copied c.in_ok-news.news) c.in_err-dependencies.field-0.0 (sym c.in_ok-directory.ensures) (sym c.in_ok-url.ensures) (sym c.in_ok-keyring.ensures) (sym c.in_ok-news.ensures) c.in_err-dependencies.ensures.channels)

pub returns-clause-metadata : goal.returns-clause-metadata
returns-clause-metadata c =
    metadata_made _ (option_copied c.in_ok-directory.directory) (option_copied c.in_ok-url.url) (option_copied c.in_ok-keyring.keyring) (option_copied c.in_ok-news.news) c.in_ok-dependencies.dependencies
    c.in_ok-directory-2.directory c.in_ok-url-2.url c.in_ok-keyring_reference.keyring_reference c.in_ok-news_file.news_file
    (sym c.in_ok-directory.ensures) (sym c.in_ok-url.ensures) (sym c.in_ok-keyring.ensures) (sym c.in_ok-news.ensures) c.in_ok-dependencies.ensures.channels
    c.in_ok-directory-2.ensures c.in_ok-url-2.ensures c.in_ok-keyring_reference.ensures c.in_ok-news_file.ensures
