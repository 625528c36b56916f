-- What the first line of an answer says.
use Rattle.std.specs.Prelude.{◌≡◌, ◌≢◌, ◌⊎◌, ℕ, ◌==◌, ◌+◌, ◌<◌, ◌≤◌, ◌^◌, ◌&&◌, not, List, [], ◌∷◌, ◌++◌, length, take, drop, nat_eq, nat_lt, bytes_eq, if◌then◌else◌, Option, Some, None}
use Rattle.std.specs.Result.{result_unwrap_or}
use Rattle.std.specs.List.{prefix_len}
use Rattle.std.specs.Str.Parse.{digits_value}
use Rattle.hex.specs.Hex.{decode_of}
use Rattle.child_ports.specs.Git.{missing, ambiguous}
use Rattle.object_frames.specs.declared.kind.Kind.{Kind}
use Rattle.object_frames.specs.declared.kind.Kind.TheVariants.{Commit, Tree, Blob, Tag}
use Rattle.object_frames.specs.declared.header.Header.{Header}
use Rattle.object_frames.specs.declared.head.Head.{Head}
use Rattle.object_frames.specs.declared.head.Head.TheVariants.{Missing, Object, Odd, Cut}
use Rattle.object_frames.specs.Id.{IsId}
use Rattle.object_frames.specs.Object.{type_word}
use Rattle.object_frames.specs.Frame.{header_line, IsHeaderLine, HasNoHeader, Begins, IsLongest}
use Rattle.object_frames.specs.Fronts.{common, front_of}

-- ---- as a function

-- how many bytes stand before the first line feed
abbrev pub line_len : List ℕ → ℕ
line_len answer = prefix_len (λ b. not (b == 10)) answer

-- what such a line would say: if it says that, it is the line again
unfoldable pub header_if : List ℕ → List ℕ → Kind → ℕ → Option Header
header_if line id kind size =
    if nat_eq (length id) 20 && (nat_lt size (10 ^ 18) && bytes_eq line (header_line id kind size))
    then Some (record { id = id; kind = kind; size = size; len = length line + 1 }) else None

-- the header of a line, without its end, if it is one of this kind
unfoldable pub header_as : List ℕ → Kind → Option Header
header_as line kind = header_if line (result_unwrap_or (decode_of (take 40 line)) []) kind (digits_value 10 (drop (42 + length (type_word kind)) line))

abbrev pub or_else : Option Header → Option Header → Option Header
or_else (Some header) other = Some header
or_else None other = other

-- the header of a line, without its end
unfoldable pub header_of : List ℕ → Option Header
header_of line = or_else (header_as line Commit) (or_else (header_as line Tree) (or_else (header_as line Blob) (header_as line Tag)))

-- the header of the first line
unfoldable pub header_at : List ℕ → Option Header
header_at answer = if nat_lt (line_len answer) (length answer) then header_of (take (line_len answer) answer) else None

-- where bytes without a header line cease to be the front of one
unfoldable pub odd_head : List ℕ → List ℕ → Head
odd_head name bytes = if nat_lt (front_of name bytes) (length bytes) then Odd (front_of name bytes) else Cut (length bytes)

abbrev pub head_or : Option Header → Head → Head
head_or (Some header) other = Object header
head_or None other = other

-- what an answer to the name begins with
unfoldable pub head_of : List ℕ → List ℕ → Head
head_of name answer =
    if common answer (missing name) == length (missing name) then Missing
    else (if common answer (ambiguous name) == length (ambiguous name) then Missing
    else head_or (header_at answer) (odd_head name answer))

-- ---- as a relation

-- the bytes begin with this header line
pub record HasHeader (bytes : List ℕ) (header : Header) (rest : List ℕ) : Type 0 where
  pub id : IsId header.id
  pub size : header.size < 10 ^ 18
  pub len : header.len ≡ length (header_line header.id header.kind header.size) + 1
  pub whole : bytes ≡ header_line header.id header.kind header.size ++ 10 ∷ rest

-- the bytes begin so, and the rest follows
abbrev pub StartsWith : List ℕ → List ℕ → Head → List ℕ → Type 0
StartsWith name bytes Missing rest = (bytes ≡ missing name ++ rest) ⊎ (bytes ≡ ambiguous name ++ rest)
StartsWith name bytes (Object header) rest = HasHeader bytes header rest × ((more : List ℕ) → bytes ≢ missing name ++ more) × ((more : List ℕ) → bytes ≢ ambiguous name ++ more)
StartsWith name bytes (Odd at) rest = HasNoHeader name bytes × IsLongest (IsHeaderLine name) bytes at × (at < length bytes)
StartsWith name bytes (Cut at) rest = HasNoHeader name bytes × Begins (IsHeaderLine name) bytes × (at ≡ length bytes)

-- where a piece that is no header line ceases to be the front of one
abbrev pub IsOddHead : List ℕ → List ℕ → Head → Type 0
IsOddHead name line Missing = ⊥
IsOddHead name line (Object header) = ⊥
IsOddHead name line (Odd at) = (at ≡ front_of name line) × (at < length line)
IsOddHead name line (Cut at) = (at ≡ length line) × (length line ≤ front_of name line)

-- the line says this, its end included; or the piece of an answer is no header line
abbrev pub IsHead : List ℕ → List ℕ → Head → Type 0
IsHead name line Missing = (line ≡ missing name) ⊎ (line ≡ ambiguous name)
IsHead name line (Object header) = HasHeader line header [] × (line ≢ missing name) × (line ≢ ambiguous name)
IsHead name line (Odd at) = (IsHeaderLine name line → ⊥) × IsOddHead name line (Odd at)
IsHead name line (Cut at) = (IsHeaderLine name line → ⊥) × IsOddHead name line (Cut at)

-- the numbers of a header are small
abbrev pub IsSmallHead : Head → Type 0
IsSmallHead Missing = Unit {0}
IsSmallHead (Object header) = (header.size < 10 ^ 18) × (header.len ≤ 67)
IsSmallHead (Odd at) = Unit {0}
IsSmallHead (Cut at) = Unit {0}
