-- What calls of git and gpgv set, kept from word to word.
use Rattle.std.proofs.Common.{◌≡◌, ◌≢◌, Some, codes, ◌∙◌}
use Rattle.std.specs.Process.{command_var, clears_env, SameEnv, SameOtherVars}
use Rattle.std.specs.declared.process.command.Command.{Command}
use Rattle.real_ports.specs.Calls.{SetsGitVars, SetsGpgvVars}

-- the two variables have two names
other_name : codes "LC_ALL" ≢ codes "GIT_NO_LAZY_FETCH"
other_name same = cc

-- one more variable makes git's of gpgv's
pub git_vars : {A : Type 0} (old now : Command A) → SetsGpgvVars old → command_var now (codes "GIT_NO_LAZY_FETCH") ≡ Some (Some (codes "1"))
    → SameOtherVars old now (codes "GIT_NO_LAZY_FETCH") → clears_env now ≡ clears_env old → SetsGitVars now
git_vars old now sets no_fetch others clears = record {
  inherits = clears ∙ sets.inherits;
  locale = others (codes "LC_ALL") other_name ∙ sets.locale;
  no_fetch = no_fetch;
  others = λ name no_locale no_lazy. others name no_lazy ∙ sets.others name no_locale;
}

pub git_kept : {A : Type 0} (old now : Command A) → SetsGitVars old → SameEnv old now → SetsGitVars now
git_kept old now sets same = record {
  inherits = same.0 ∙ sets.inherits;
  locale = same.1 (codes "LC_ALL") ∙ sets.locale;
  no_fetch = same.1 (codes "GIT_NO_LAZY_FETCH") ∙ sets.no_fetch;
  others = λ name no_locale no_lazy. same.1 name ∙ sets.others name no_locale no_lazy;
}

pub gpgv_kept : {A : Type 0} (old now : Command A) → SetsGpgvVars old → SameEnv old now → SetsGpgvVars now
gpgv_kept old now sets same = record {
  inherits = same.0 ∙ sets.inherits;
  locale = same.1 (codes "LC_ALL") ∙ sets.locale;
  others = λ name no_locale. same.1 name ∙ sets.others name no_locale;
}
