-- ASCII armour (RFC 4880, section 6.2; RFC 9580, section 6.2), as lines without blanks at their ends. That a checksum isn't
-- looked at, and that a text may have several blocks, is this project's own.
use Rattle.std.specs.Prelude.{◌≡◌, ◌≢◌, ◌⊎◌, ◌||◌, ℕ, nat_eq, nat_le, Bool, true, false, bytes_eq, codes, Option, Some, List, [], ◌∷◌, ◌++◌}
use Rattle.std.specs.List.{AllByRecursion, concat, flat_map, starts_with}
use Rattle.base64.specs.Engines.{standard}
use Rattle.base64.specs.GeneralPurpose.{decoded_of}
use Rattle.keyring_branch.specs.Lines.{lines_of}

abbrev pub is_begin : List ℕ → Bool
is_begin line = bytes_eq line (codes "-----BEGIN PGP PUBLIC KEY BLOCK-----")

abbrev pub is_end : List ℕ → Bool
is_end line = bytes_eq line (codes "-----END PGP PUBLIC KEY BLOCK-----")

abbrev pub begins_with : List ℕ → List ℕ → Bool
begins_with front line = starts_with nat_eq line front

-- a line that isn't of a body
abbrev pub ends_body : List ℕ → Bool
ends_body line = begins_with (codes "=") line || begins_with (codes "-") line

-- what a body's text decodes to: strict, padded base64
unfoldable pub content_of : List ℕ → Option (List ℕ)
content_of body = decoded_of standard body

-- at most one line, which begins with `=`
abbrev pub IsChecksum : List (List ℕ) → Type 0
IsChecksum [] = Unit {0}
IsChecksum (line ∷ []) = begins_with (codes "=") line ≡ true
IsChecksum (line ∷ next ∷ lines) = ⊥

-- The lines behind a BEGIN line are a block with this content: headers, which aren't empty, an empty line, a body, whose
-- empty lines count for nothing, at most one checksum, and the END line.
pub record IsBlock (lines : List (List ℕ)) (content : List ℕ) : Type 0 where
  pub headers : List (List ℕ)
  pub body : List (List ℕ)
  pub checksum : List (List ℕ)
  pub last : List ℕ
  pub filled : AllByRecursion (λ line. line ≢ []) headers
  pub of_body : AllByRecursion (λ line. ends_body line ≡ false) body
  pub at_most_one : IsChecksum checksum
  pub end : is_end last ≡ true
  pub whole : lines ≡ headers ++ [] ∷ (body ++ (checksum ++ last ∷ []))
  pub decodes : content_of (concat body) ≡ Some content

-- a part of a text: lines, and the content that they have
pub record Part : Type 0 where
  pub lines : List (List ℕ)
  pub content : List ℕ

-- a line that is passed over, or a block
pub record IsPassed (part : Part) : Type 0 where
  pub line : List ℕ
  pub other : is_begin line ≡ false
  pub alone : part.lines ≡ line ∷ []
  pub nothing : part.content ≡ []

pub record IsWholeBlock (part : Part) : Type 0 where
  pub first : List ℕ
  pub behind : List (List ℕ)
  pub begin : is_begin first ≡ true
  pub block : IsBlock behind part.content
  pub whole : part.lines ≡ first ∷ behind

abbrev pub IsPart : Part → Type 0
IsPart part = IsPassed part ⊎ IsWholeBlock part

-- the lines of parts, and their contents
abbrev pub part_lines : List Part → List (List ℕ)
part_lines parts = flat_map (λ (part : Part). part.lines) parts

abbrev pub part_contents : List Part → List ℕ
part_contents parts = flat_map (λ (part : Part). part.content) parts

-- lines are parts with these contents
pub record IsArmour (lines : List (List ℕ)) (contents : List ℕ) : Type 0 where
  pub parts : List Part
  pub each : AllByRecursion IsPart parts
  pub whole : lines ≡ part_lines parts
  pub joined : contents ≡ part_contents parts

-- a file whose first byte is 128 or more is no text
abbrev pub is_binary : List ℕ → Bool
is_binary [] = false
is_binary (byte ∷ bytes) = nat_le 128 byte

-- the bytes are the file itself, or the contents of its text
abbrev pub IsDearmored : List ℕ → List ℕ → Type 0
IsDearmored file bytes = ((is_binary file ≡ true) × (bytes ≡ file)) ⊎ ((is_binary file ≡ false) × IsArmour (lines_of file) bytes)
