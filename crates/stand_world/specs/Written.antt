-- What is read back from the contents of a world's commits.
use Rattle.std.specs.Prelude.{◌≡◌, ℕ, Option, Some, None, Ok, List, IfSome, option_map}
use Rattle.object_frames.specs.declared.kind.Kind.TheVariants as kind
use Rattle.commit_objects.specs.Form.{sha1_form}
use Rattle.commit_objects.specs.Reading.{commit_of}
use Rattle.commit_objects.specs.Writing.{IsSigned}
use Rattle.stand_world.specs.Objects.{framed}
use Rattle.stand_world.specs.declared.commit.Commit.{Commit}
use Rattle.stand_world.specs.declared.commit.Signed.{Signed}

-- what is signed: all of a content without a signature
abbrev pub payload_in : List ℕ → Option Signed → List ℕ
payload_in content None = content
payload_in content (Some signed) = signed.payload

-- The content says the root tree, some parents, the signature and what is signed. Where there is a signature, the content
-- is the payload with the signature as its last header.
pub record IsWritten (commit : Commit) : Type 0 where
  pub content : List ℕ
  pub parents : List (List ℕ)
  pub object : commit.object ≡ framed kind.Commit content
  pub read : commit_of content ≡ Ok (record {
    tree = commit.files.root.id;
    parents = parents;
    signature = option_map (λ (signed : Signed). signed.signature) commit.signed;
    payload = payload_in content commit.signed;
  })
  pub signed : IfSome commit.signed (λ signed. IsSigned sha1_form signed.payload signed.signature content)
