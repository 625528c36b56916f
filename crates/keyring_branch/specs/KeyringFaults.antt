-- How failed calls and want of memory are told.
use Rattle.std.specs.Prelude.{◌≡◌, ℕ, Result, Ok, Err}
use Rattle.child_ports.specs.Causes.{Rose}
use Rattle.object_frames.specs.declared.frame_fail.FrameFail.{FrameFail}
use Rattle.object_frames.specs.declared.frame_fail.FrameFail.TheVariants as frame
use Rattle.tree_entries.specs.declared.fail.TreeFail.TheVariants as tree
use Rattle.keyring_branch.specs.declared.key_fail.KeyFail.TheVariants as key
use Rattle.keyring_branch.specs.declared.keyring_fail.FileBad.{FileBad}
use Rattle.keyring_branch.specs.declared.keyring_fail.FileBad.TheVariants as bad
use Rattle.keyring_branch.specs.declared.keyring_fail.KeyringFail.{KeyringFail}
use Rattle.keyring_branch.specs.declared.keyring_fail.KeyringFail.TheVariants as fail

-- `GitFault` comes only where the count of failed calls rose, and any other answer leaves it.
abbrev pub KeyringFailsByCount : {A : Type 0} → ℕ → ℕ → Result A KeyringFail → Type 0
KeyringFailsByCount before now (Ok answer) = now ≡ before
KeyringFailsByCount before now (Err fail.GitFault) = Rose before now
KeyringFailsByCount before now (Err fault) = now ≡ before

-- ---- neither a failed call nor want of memory stands inside another refusal

abbrev pub IsPlainFrame : FrameFail → Type 0
IsPlainFrame frame.Failed = ⊥
IsPlainFrame frame.Memory = ⊥
IsPlainFrame fault = Unit {0}

abbrev pub IsPlainBad : FileBad → Type 0
IsPlainBad (bad.Frame fault) = IsPlainFrame fault
IsPlainBad (bad.Key key.Memory) = ⊥
IsPlainBad fault = Unit {0}

abbrev pub IsPlain : KeyringFail → Type 0
IsPlain (fail.Frame fault) = IsPlainFrame fault
IsPlain (fail.Tree tree.Memory) = ⊥
IsPlain (fail.File name fault) = IsPlainBad fault
IsPlain fault = Unit {0}
