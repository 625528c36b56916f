-- What a fetch finds in the answer to a name (git-cat-file(1), "BATCH OUTPUT"; FIPS 180-4 for SHA-1).
use Rattle.std.specs.Prelude.{◌≡◌, ◌⊎◌, ℕ, ◌+◌, ◌≤◌, ◌<◌, ◌^◌, not, List, drop, length, bytes_eq, nat_lt, Bool, false, if◌then◌else◌, Result, Ok, Err}
use Rattle.std.specs.List.{AllPass}
use Rattle.child_ports.specs.Git.{missing, ambiguous}
use Rattle.child_ports.specs.Framed.{object_frame, is_lower_hex_digit}
use Rattle.child_ports.specs.Named.{is_full_id}
use Rattle.hex.specs.Hex.{encode_lower}
use Rattle.object_frames.specs.declared.kind.Kind.{Kind}
use Rattle.object_frames.specs.declared.header.Header.{Header}
use Rattle.object_frames.specs.declared.head.Head.{Head}
use Rattle.object_frames.specs.declared.head.Head.TheVariants as head
use Rattle.object_frames.specs.declared.body.Body.{Body}
use Rattle.object_frames.specs.declared.body.Body.TheVariants as body
use Rattle.object_frames.specs.declared.object.Object.{Object}
use Rattle.object_frames.specs.declared.object.Fetched.{Fetched}
use Rattle.object_frames.specs.declared.object.Fetched.TheVariants.{Missing, Found}
use Rattle.object_frames.specs.declared.frame_fail.FrameFail.{FrameFail}
use Rattle.object_frames.specs.declared.frame_fail.FrameFail.TheVariants as fails
use Rattle.object_frames.specs.Id.{IsId}
use Rattle.object_frames.specs.Object.{type_word, object_id}
use Rattle.object_frames.specs.Head.{head_of, line_len}
use Rattle.object_frames.specs.Body.{body_of}

-- ---- what is found

-- 40 lower-case hexadecimal digits
pub record IsFullId (name : List ℕ) : Type 0 where
  pub count : length name ≡ 40
  pub digits : AllPass is_lower_hex_digit name

-- The answer is the whole frame of this object, which is within the limit, has the id of its content, and is the one that
-- was asked for, where an id in full was asked.
pub record IsFound (limit : ℕ) (name answer id : List ℕ) (kind : Kind) (content : List ℕ) : Type 0 where
  pub is_id : IsId id
  pub whole : answer ≡ object_frame (encode_lower id) (type_word kind) content
  pub small : length content < 10 ^ 18
  pub within : length content ≤ limit
  pub digest : id ≡ object_id kind content
  pub asked : IsFullId name → name ≡ encode_lower id

-- what the answer to a name stands for, under a limit on the content
abbrev pub IsFetched : ℕ → List ℕ → List ℕ → Fetched → Type 0
IsFetched limit name answer Missing = (answer ≡ missing name) ⊎ (answer ≡ ambiguous name)
IsFetched limit name answer (Found object) = IsFound limit name answer object.id object.kind object.content

-- ---- what holds of an object whatever git answers

-- Its id is that of its kind and content, which is within the limit; and it is the one that was asked for, where an id in
-- full was asked.
pub record HasItsId (limit : ℕ) (name id : List ℕ) (kind : Kind) (content : List ℕ) : Type 0 where
  pub digest : id ≡ object_id kind content
  pub within : length content ≤ limit
  pub asked : IsFullId name → name ≡ encode_lower id

-- no object, or one that has its id
abbrev pub IsGenuine : ℕ → List ℕ → Fetched → Type 0
IsGenuine limit name Missing = Unit {0}
IsGenuine limit name (Found object) = HasItsId limit name object.id object.kind object.content

-- The object has this id, which is that of its kind and content, within the limit.
pub record IsTheObject (limit : ℕ) (id : List ℕ) (object : Object) : Type 0 where
  pub same : object.id ≡ id
  pub digest : id ≡ object_id object.kind object.content
  pub within : length object.content ≤ limit

-- no object, or the one with this id
abbrev pub IsOfId : ℕ → List ℕ → Fetched → Type 0
IsOfId limit id Missing = Unit {0}
IsOfId limit id (Found object) = IsTheObject limit id object

-- ---- the same as a function, with the faults

-- whether it is an id in full, and not this one
unfoldable pub is_other_id : List ℕ → List ℕ → Bool
is_other_id name id = if is_full_id name then not (bytes_eq name (encode_lower id)) else false

-- an object has the id of its content
unfoldable pub object_of : Header → List ℕ → Result Fetched FrameFail
object_of header content =
    let computed = object_id header.kind content in
    if bytes_eq computed header.id then Ok (Found (record { id = header.id; kind = header.kind; content = content }))
    else Err (fails.WrongId header.id computed)

-- by what follows the header line
abbrev pub by_body : Header → Body → Result Fetched FrameFail
by_body header (body.Whole content) = object_of header content
by_body header (body.Cut n) = Err (fails.Truncated (header.len + n))
by_body header body.Open = Err fails.NoEnd

-- by the header line, and the bytes after it
abbrev pub by_head : ℕ → List ℕ → Head → List ℕ → Result Fetched FrameFail
by_head limit name head.Missing rest = Ok Missing
by_head limit name (head.Odd at) rest = Err (fails.Header at)
by_head limit name (head.Cut at) rest = Err (fails.Truncated at)
by_head limit name (head.Object header) rest =
    if is_other_id name header.id then Err (fails.OtherId header.id)
    else (if nat_lt limit header.size then Err (fails.TooLarge header.size)
    else by_body header (body_of header.size rest))

-- What a fetch of the name finds in its answer, or the first fault. It is never `Failed` and never `Memory`.
unfoldable pub fetched_of : ℕ → List ℕ → List ℕ → Result Fetched FrameFail
fetched_of limit name answer = by_head limit name (head_of name answer) (drop (line_len answer + 1) answer)

-- The result is this one; or a call failed, or memory was wanting.
abbrev pub Gives : Result Fetched FrameFail → Result Fetched FrameFail → Type 0
Gives (Ok fetched) value = value ≡ Ok fetched
Gives (Err fails.Failed) value = Unit {0}
Gives (Err fails.Memory) value = Unit {0}
Gives (Err fail) value = value ≡ Err fail
