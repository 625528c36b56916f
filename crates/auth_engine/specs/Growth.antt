-- Tables that grow from one check to the next.
use Rattle.std.specs.Prelude.{◌≡◌, ◌≢◌, ℕ, List, [], Option, Result, Ok}
use Rattle.hex.specs.Hex.{encode_lower}
use Rattle.child_ports.specs.declared.fingerprint.Fingerprint.{Fingerprint}
use Rattle.child_ports.specs.declared.git.GitRow.{GitRow}
use Rattle.child_ports.specs.declared.sig.SigRow.{SigRow}
use Rattle.child_ports.specs.Git.{answer}
use Rattle.child_ports.specs.KeySet.{Keys}
use Rattle.child_ports.specs.Sig.{verdict}
use Rattle.object_frames.specs.declared.object.Object.{Object}
use Rattle.object_frames.specs.declared.object.Fetched.TheVariants.{Found}
use Rattle.object_frames.specs.Fetched.{fetched_of}
use Rattle.commit_objects.specs.declared.commit.Commit.{Commit}
use Rattle.authorizations.specs.declared.fail.AuthFail.{AuthFail}
use Rattle.openpgp_status.specs.declared.judged.Judged.TheVariants.{Valid}
use Rattle.auth_rules.specs.World.{World, Id}

-- each object that was found by its id is found again, as the same
abbrev pub KeepsObjects : List ℕ → List GitRow → List GitRow → Type 0
KeepsObjects dir old new = (id : Id) (limit : ℕ) (object : Object)
    → fetched_of limit (encode_lower id) (answer old dir (encode_lower id)) ≡ Ok (Found object)
    → fetched_of limit (encode_lower id) (answer new dir (encode_lower id)) ≡ Ok (Found object)

-- each verdict that gpgv gave it gives again
abbrev pub KeepsVerdicts : List SigRow → List SigRow → Type 0
KeepsVerdicts old new = (keyring signature payload : List ℕ)
    → verdict old keyring signature payload ≢ [] → verdict new keyring signature payload ≡ verdict old keyring signature payload

-- what could be read is read as the same, and a valid signature stays valid
pub record Grows (old new : World) : Type 0 where
  pub commits : (id : Id) (commit : Commit) → old.commit id ≡ Ok commit → new.commit id ≡ Ok commit
  pub files : (id : Id) (file : Option Id) → old.file id ≡ Ok file → new.file id ≡ Ok file
  pub listings : (id : Id) (listing : Result Keys AuthFail) → old.listing id ≡ Ok listing → new.listing id ≡ Ok listing
  pub valid : (signature payload : List ℕ) (key : Fingerprint) (hash : ℕ) → old.judged signature payload ≡ Valid key hash → new.judged signature payload ≡ Valid key hash
