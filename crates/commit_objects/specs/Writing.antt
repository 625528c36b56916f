-- A payload with its signature.
use Rattle.std.specs.Prelude.{◌≡◌, ◌≢◌, ℕ, true, List, [], ◌∷◌, ◌++◌}
use Rattle.std.specs.List.{AllByRecursion, flat_map}
use Rattle.commit_objects.specs.Form.{Form}
use Rattle.commit_objects.specs.Lines.{NoLineEnd, line, Header, IsHeader, is_signature}
use Rattle.commit_objects.specs.Commit.{Parts, spelling, AreParts, signature_value}

-- the payload's parts, and the header of the signature behind its others
pub record IsSigned (form : Form) (payload signature content : List ℕ) : Type 0 where
  pub parts : Parts
  pub last : Header
  pub fit : AreParts form parts
  pub payload_is : payload ≡ spelling parts
  pub is_header : IsHeader last
  pub is_own : is_signature form last ≡ true
  pub value : signature_value form last ≡ signature
  pub whole : content ≡ spelling (record parts { headers = parts.headers ++ last ∷ [] })

-- a run of whole lines of which none is empty
pub record IsFullLine (text : List ℕ) : Type 0 where
  pub one_line : NoLineEnd text
  pub not_empty : text ≢ []

abbrev pub AreFullLines : List ℕ → Type 0
AreFullLines front = (lines : List (List ℕ)) × AllByRecursion IsFullLine lines × (front ≡ flat_map line lines)
