-- The words of the commands, as clap reads them.
use Rattle.std.specs.Prelude.{List, ℕ, Some, true, codes}
use Rattle.clap.specs.Words.{App, Rule, new_app, new_rule, with_rule}
use Rattle.clap.specs.Simple.{on_top}
use Rattle.clap.specs.declared.builder.action.ArgAction.TheVariants.{SetTrue}

-- an option with a value, a flag, and a positional word
abbrev pub option_rule : List ℕ → Rule
option_rule name = record (new_rule name) { long = Some name }

abbrev pub flag_rule : List ℕ → Rule
flag_rule name = record (new_rule name) { long = Some name; action = Some SetTrue }

abbrev pub word_rule : List ℕ → Rule
word_rule name = record (new_rule name) { required = true }

abbrev pub repository_rule : Rule
repository_rule = record (option_rule (codes "repository")) { short = Some 114 }

abbrev pub keyring_rule : Rule
keyring_rule = record (option_rule (codes "keyring")) { short = Some 107 }

abbrev pub clones_rule : Rule
clones_rule = record (option_rule (codes "clones")) { required = true }

abbrev pub bare_app : List ℕ → App
bare_app name = on_top (λ s. record s { disable_help_flag = true }) (new_app name)

-- `authenticate` without its positionals
unfoldable pub options_app : App
options_app = with_rule (with_rule (with_rule (with_rule (with_rule (with_rule (bare_app (codes "authenticate"))
    repository_rule) keyring_rule) (option_rule (codes "end"))) (option_rule (codes "cache-key")))
    (option_rule (codes "historical-authorizations"))) (flag_rule (codes "stats"))

-- the command `authenticate`
unfoldable pub auth_app : App
auth_app = with_rule (with_rule options_app (word_rule (codes "commit"))) (word_rule (codes "signer"))

-- the command `channels`
unfoldable pub channels_app : App
channels_app = with_rule (with_rule (with_rule (with_rule (bare_app (codes "channels"))
    clones_rule) (flag_rule (codes "allow-downgrades"))) (flag_rule (codes "disable-authentication"))) (word_rule (codes "file"))
