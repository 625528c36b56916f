-- What git's answers and gpgv's verdicts stand for, read by id.
use Rattle.std.specs.Prelude.{ℕ, List, codes, Bool, true, false, if◌then◌else◌, Option, Some, None, option_and_then, Result, Ok, Err}
use Rattle.std.specs.Result.{result_map_both}
use Rattle.hex.specs.Hex.{encode_lower}
use Rattle.child_ports.specs.declared.git.GitRow.{GitRow}
use Rattle.child_ports.specs.declared.sig.SigRow.{SigRow}
use Rattle.child_ports.specs.Git.{answer}
use Rattle.child_ports.specs.Sig.{verdict}
use Rattle.child_ports.specs.KeySet.{Keys}
use Rattle.object_frames.specs.declared.kind.Kind.{Kind}
use Rattle.object_frames.specs.declared.kind.Kind.TheVariants as kind
use Rattle.object_frames.specs.declared.object.Fetched.{Fetched}
use Rattle.object_frames.specs.declared.object.Fetched.TheVariants as fetched
use Rattle.object_frames.specs.declared.frame_fail.FrameFail.{FrameFail}
use Rattle.object_frames.specs.Fetched.{fetched_of}
use Rattle.commit_objects.specs.declared.commit.Commit.{Commit}
use Rattle.commit_objects.specs.Reading.{commit_of}
use Rattle.tree_entries.specs.declared.entry.Entry.{Entry}
use Rattle.tree_entries.specs.Reading.{find_of}
use Rattle.authorizations.specs.declared.fail.AuthFail.{AuthFail}
use Rattle.authorizations.specs.Reading.{keys_of}
use Rattle.openpgp_status.specs.declared.judged.Judged.{Judged}
use Rattle.openpgp_status.specs.Judging.{judge_of}
use Rattle.auth_rules.specs.declared.cause.What.{What}
use Rattle.auth_rules.specs.declared.cause.What.TheVariants as what

-- the id of an object is its bytes
abbrev pub Id : Type 0
Id = List ℕ

-- What is read by id in one directory, and what one keyring says of signatures.
pub record World : Type 0 where
  -- a commit
  pub commit : Id → Result Commit What
  -- a tree: the file of authorisations in it, where it has one
  pub file : Id → Result (Option Id) What
  -- a blob: the keys that it lists, or why it is no file of authorisations
  pub listing : Id → Result (Result Keys AuthFail) What
  -- the verdict on a signature over a payload
  pub judged : List ℕ → List ℕ → Judged

-- what follows from a value, if it can be had
abbrev pub onward : {A B E : Type 0} → Result A E → (A → Result B E) → Result B E
onward (Ok x) next = next x
onward (Err e) next = Err e

-- ---- what git's answers stand for

-- the most bytes that a commit, a tree and a file of authorisations may have
abbrev pub commit_limit : ℕ
commit_limit = 1048576

abbrev pub tree_limit : ℕ
tree_limit = 16777216

abbrev pub file_limit : ℕ
file_limit = 1048576

abbrev pub is_kind : Kind → Kind → Bool
is_kind kind.Commit kind.Commit = true
is_kind kind.Tree kind.Tree = true
is_kind kind.Blob kind.Blob = true
is_kind kind.Tag kind.Tag = true
is_kind _ _ = false

-- the content of what was fetched, where it is of the wanted kind
abbrev pub content_in : Kind → Result Fetched FrameFail → Result (List ℕ) What
content_in wanted (Ok fetched.Missing) = Err what.Missing
content_in wanted (Ok (fetched.Found object)) = if is_kind object.kind wanted then Ok object.content else Err (what.Kind object.kind)
content_in wanted (Err fail) = Err (what.Frame fail)

-- the content of an object of this kind, read by its id, under a limit on it
abbrev pub content_at : List GitRow → List ℕ → Kind → ℕ → Id → Result (List ℕ) What
content_at rows dir wanted limit id = content_in wanted (fetched_of limit (encode_lower id) (answer rows dir (encode_lower id)))

abbrev pub commit_in : List ℕ → Result Commit What
commit_in content = result_map_both (λ commit. commit) what.Commit (commit_of content)

abbrev pub commit_at : List GitRow → List ℕ → Id → Result Commit What
commit_at rows dir id = onward (content_at rows dir kind.Commit commit_limit id) commit_in

-- the blob of an entry, where the entry is a file
abbrev pub blob_of : Entry → Option Id
blob_of entry = if entry.mode.1 then Some entry.id else None

-- the file of authorisations in the content of a tree
abbrev pub file_in : List ℕ → Result (Option Id) What
file_in content = result_map_both (λ entry. option_and_then blob_of entry) what.Tree (find_of content (codes ".guix-authorizations"))

abbrev pub file_at : List GitRow → List ℕ → Id → Result (Option Id) What
file_at rows dir id = onward (content_at rows dir kind.Tree tree_limit id) file_in

abbrev pub listing_at : List GitRow → List ℕ → Id → Result (Result Keys AuthFail) What
listing_at rows dir id = onward (content_at rows dir kind.Blob file_limit id) (λ content. Ok (keys_of content))

-- ---- both

-- the world of git's answers in a directory, and of gpgv's verdicts under a keyring
abbrev pub world_of : List GitRow → List ℕ → List SigRow → List ℕ → World
world_of rows dir sigs keyring = record {
  commit = commit_at rows dir;
  file = file_at rows dir;
  listing = listing_at rows dir;
  judged = λ signature payload. judge_of (verdict sigs keyring signature payload);
}
