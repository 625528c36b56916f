-- The texts of refusals. Each is a line on standard error: the program's name, the text and a line feed. Ids are
-- in lower case, fingerprints in upper case, numbers decimal. They are this project's own.
use Rattle.std.specs.Prelude.{ℕ, nat_eq, if◌then◌else◌, List, ◌++◌, codes, decimal}
use Rattle.hex.specs.Hex.{encode_lower, encode_upper}
use Rattle.object_frames.specs.Object.{type_word}
use Rattle.object_frames.specs.declared.kind.Kind.{Kind}
use Rattle.object_frames.specs.declared.frame_fail.FrameFail.{FrameFail}
use Rattle.object_frames.specs.declared.frame_fail.FrameFail.TheVariants as frame
use Rattle.commit_objects.specs.declared.commit.CommitFail.{CommitFail}
use Rattle.commit_objects.specs.declared.commit.CommitFail.TheVariants as commit
use Rattle.tree_entries.specs.declared.fail.TreeFail.{TreeFail}
use Rattle.tree_entries.specs.declared.fail.TreeFail.TheVariants as tree
use Rattle.openpgp_status.specs.declared.judged.Judged.{Judged}
use Rattle.openpgp_status.specs.declared.judged.Judged.TheVariants as judged
use Rattle.auth_cache.specs.declared.fail.CacheFail.{CacheFail}
use Rattle.auth_cache.specs.declared.fail.CacheFail.TheVariants as cache
use Rattle.keyring_branch.specs.declared.key_fail.KeyFail.{KeyFail}
use Rattle.keyring_branch.specs.declared.key_fail.KeyFail.TheVariants as key
use Rattle.keyring_branch.specs.declared.keyring_fail.FileBad.{FileBad}
use Rattle.keyring_branch.specs.declared.keyring_fail.FileBad.TheVariants as bad
use Rattle.keyring_branch.specs.declared.keyring_fail.KeyringFail.{KeyringFail}
use Rattle.keyring_branch.specs.declared.keyring_fail.KeyringFail.TheVariants as ring
use Rattle.auth_rules.specs.declared.cause.What.{What}
use Rattle.auth_rules.specs.declared.cause.What.TheVariants as what
use Rattle.auth_rules.specs.declared.cause.Cause.{Cause}
use Rattle.auth_rules.specs.declared.cause.Cause.TheVariants as cause
use Rattle.auth_engine.specs.declared.engine_fail.Which.{Which}
use Rattle.auth_engine.specs.declared.engine_fail.Which.TheVariants.{Target, Introduction}
use Rattle.auth_engine.specs.declared.engine_fail.EngineFail.{EngineFail}
use Rattle.auth_engine.specs.declared.engine_fail.EngineFail.TheVariants as fail
use Rattle.auth_report.specs.FileTexts.{auth_text}
use Rattle.auth_report.specs.Parts.{line_of, git_failed, gpgv_failed, store_failed, out_of_memory, shown}

abbrev pub frame_text : FrameFail → List ℕ
frame_text frame.Failed = git_failed
frame_text (frame.Header at) = codes "bad answer header at byte " ++ decimal at
frame_text (frame.Truncated at) = codes "answer ends at byte " ++ decimal at
frame_text (frame.OtherId got) = codes "answered as " ++ encode_lower got
frame_text (frame.TooLarge size) = codes "too large: " ++ decimal size ++ codes " bytes"
frame_text frame.NoEnd = codes "answer has no final newline"
frame_text (frame.WrongId claimed computed) = codes "claims id " ++ encode_lower claimed ++ codes " but has id " ++ encode_lower computed
frame_text frame.Memory = out_of_memory

abbrev pub kind_text : Kind → List ℕ
kind_text kind = codes "of kind " ++ type_word kind

abbrev pub commit_text : CommitFail → List ℕ
commit_text commit.NoTree = codes "no tree line"
commit_text (commit.Line at) = codes "bad commit line at byte " ++ decimal at
commit_text commit.NoAuthor = codes "no author line"
commit_text commit.NoCommitter = codes "no committer line"
commit_text commit.TwoSignatures = codes "two signatures"
commit_text commit.ForeignSignature = codes "signature of the other object format"
commit_text commit.NoBody = codes "no end of headers"
commit_text commit.Memory = out_of_memory

abbrev pub tree_text : TreeFail → List ℕ
tree_text (tree.Mode at) = codes "bad mode at byte " ++ decimal at
tree_text (tree.Name at) = codes "bad name at byte " ++ decimal at
tree_text (tree.Cut at) = codes "entry cut short at byte " ++ decimal at
tree_text (tree.Twice at) = codes "name repeated at byte " ++ decimal at
tree_text tree.Memory = out_of_memory

-- why an object can't be had
abbrev pub what_text : What → List ℕ
what_text what.Missing = codes "missing"
what_text (what.Frame fail) = frame_text fail
what_text (what.Kind kind) = kind_text kind
what_text (what.Commit fail) = commit_text fail
what_text (what.Tree fail) = tree_text fail

-- why a verdict isn't one valid signature
abbrev pub judged_text : Judged → List ℕ
judged_text (judged.Valid key hash) = codes "its signature is valid"
judged_text judged.Bad = codes "its signature is bad"
judged_text judged.NoKey = codes "its signing key is not at hand"
judged_text judged.NoData = codes "its signature holds no data"
judged_text judged.Several = codes "it has several valid signatures"
judged_text judged.Nothing = codes "the verifier gave no verdict"
judged_text (judged.Unreadable line) = codes "verifier line " ++ decimal line ++ codes " is unreadable"

-- an object that can't be had
abbrev pub object_text : List ℕ → What → List ℕ
object_text id what = (codes "object " ++ encode_lower id ++ codes ": ") ++ what_text what

-- why a commit is refused
abbrev pub cause_text : Cause → List ℕ
cause_text (cause.Unreadable id what) = object_text id what
cause_text cause.Unsigned = codes "it is not signed"
cause_text (cause.Signature judged) = judged_text judged
cause_text (cause.WeakHash n) = if nat_eq n 1 then codes "its signature uses MD5" else codes "its signature uses SHA-1"
cause_text (cause.KeyNotInKeyring key) = codes "its signer " ++ encode_upper key.0 ++ codes " is not in the keyring"
cause_text cause.RemovesFile = codes "it removes .guix-authorizations"
cause_text (cause.ParentRemovedFile parent) = codes "its parent " ++ encode_lower parent ++ codes " removes .guix-authorizations"
cause_text (cause.ParentFile parent why) = (codes ".guix-authorizations of its parent " ++ encode_lower parent ++ codes ": ") ++ auth_text why
cause_text (cause.NotAuthorised key) = codes "its signer " ++ encode_upper key.0 ++ codes " is not authorised by every parent"
cause_text (cause.WrongSigner found wanted) = (codes "it is signed by " ++ encode_upper found.0) ++ (codes " and not by " ++ encode_upper wanted.0)

-- why a key file gives no keys
abbrev pub key_text : KeyFail → List ℕ
key_text (key.Armor line) = codes "bad armour block at line " ++ decimal line
key_text (key.Packet at) = codes "bad packet at byte " ++ decimal at
key_text (key.Length at) = codes "bad packet length at byte " ++ decimal at
key_text key.NoKey = codes "no key of version 4"
key_text key.Memory = out_of_memory

abbrev pub bad_text : FileBad → List ℕ
bad_text bad.Missing = codes "missing"
bad_text (bad.Frame fail) = frame_text fail
bad_text (bad.Kind kind) = kind_text kind
bad_text (bad.Key fail) = key_text fail

-- why there is no keyring
abbrev pub ring_text : KeyringFail → List ℕ
ring_text ring.GitFault = git_failed
ring_text ring.NoBranch = codes "keyring branch: missing"
ring_text (ring.Frame fail) = codes "keyring branch: " ++ frame_text fail
ring_text (ring.Kind kind) = codes "keyring branch: " ++ kind_text kind
ring_text (ring.Tree fail) = codes "keyring branch: " ++ tree_text fail
ring_text (ring.File name bad) = (codes "keyring file " ++ shown name ++ codes ": ") ++ bad_text bad
ring_text ring.TooLarge = codes "keyring is longer than 67108864 bytes"
ring_text ring.Memory = out_of_memory

-- why what is kept is no cache text
abbrev pub cache_text : CacheFail → List ℕ
cache_text (cache.Version n) = codes "cache: version " ++ decimal n ++ codes " is not supported"
cache_text (cache.Form at) = codes "cache: bad form at byte " ++ decimal at
cache_text cache.Memory = out_of_memory

abbrev pub which_text : Which → List ℕ
which_text Target = codes "target commit: "
which_text Introduction = codes "introduction commit: "

-- why a target isn't accepted
abbrev pub fail_text : EngineFail → List ℕ
fail_text (fail.Name which what) = which_text which ++ what_text what
fail_text (fail.Keyring why) = ring_text why
fail_text (fail.Cache why) = cache_text why
fail_text fail.TooMany = codes "more than 1000000 commits"
fail_text (fail.Object id what) = object_text id what
fail_text (fail.Cycle id) = codes "the history of commit " ++ encode_lower id ++ codes " is cyclic"
fail_text (fail.Intro id why) = (codes "introduction " ++ encode_lower id ++ codes " is refused: ") ++ cause_text why
fail_text (fail.Unrelated target intro) = (codes "commit " ++ encode_lower target) ++ (codes " is not related to introduction " ++ encode_lower intro)
fail_text (fail.Commit id why) = (codes "commit " ++ encode_lower id ++ codes " is refused: ") ++ cause_text why
fail_text fail.GitFault = git_failed
fail_text fail.SigFault = gpgv_failed
fail_text fail.KeepFault = store_failed
fail_text fail.Memory = out_of_memory

abbrev pub refusal_line : EngineFail → List ℕ
refusal_line fail = line_of (fail_text fail)
