-- The words and variables with which git and gpgv are called.
use Rattle.std.specs.Prelude.{◌≡◌, ◌≢◌, ℕ, List, [], ◌∷◌, codes, Some, None, false}
use Rattle.std.specs.Process.{command_var, clears_env}
use Rattle.std.specs.declared.process.command.Command.{Command}

-- Git in a directory (git(1), `-C`), with objects as they are (git(1), `--no-replace-objects`), as a program that
-- answers each name on its input (git-cat-file(1), `--batch`).
abbrev pub git_words : List ℕ → List (List ℕ)
git_words dir = codes "-C" ∷ dir ∷ codes "--no-replace-objects" ∷ codes "cat-file" ∷ codes "--batch" ∷ []

-- Beside the environment as it is, git speaks no other language, and gets no object from elsewhere (git(1), ENVIRONMENT VARIABLES).
pub record SetsGitVars {A : Type 0} (call : Command A) : Type 0 where
  pub inherits : clears_env call ≡ false
  pub locale : command_var call (codes "LC_ALL") ≡ Some (Some (codes "C"))
  pub no_fetch : command_var call (codes "GIT_NO_LAZY_FETCH") ≡ Some (Some (codes "1"))
  pub others : (name : List ℕ) → name ≢ codes "LC_ALL" → name ≢ codes "GIT_NO_LAZY_FETCH" → command_var call name ≡ None

-- gpgv's status lines on its standard output, under one keyring and no other, of a detached signature on a payload (gpgv(1)).
abbrev pub gpgv_words : List ℕ → List ℕ → List ℕ → List (List ℕ)
gpgv_words keyring signature payload = codes "--status-fd" ∷ codes "1" ∷ codes "--keyring" ∷ keyring ∷ signature ∷ payload ∷ []

-- Beside the environment as it is, gpgv speaks no other language.
pub record SetsGpgvVars {A : Type 0} (call : Command A) : Type 0 where
  pub inherits : clears_env call ≡ false
  pub locale : command_var call (codes "LC_ALL") ≡ Some (Some (codes "C"))
  pub others : (name : List ℕ) → name ≢ codes "LC_ALL" → command_var call name ≡ None
