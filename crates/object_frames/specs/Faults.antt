-- Which fault a fetch answers where. Places and sizes count bytes of the answer.
use Rattle.std.specs.Prelude.{◌≡◌, ◌≢◌, ◌⊎◌, ℕ, ◌≤◌, ◌<◌, ◌^◌, List, ◌∷◌, ◌++◌, length, Result, Ok, Err}
use Rattle.child_ports.specs.Causes.{Rose}
use Rattle.child_ports.specs.declared.fail.PortFail.{PortFail}
use Rattle.child_ports.specs.declared.fail.PortFail.TheVariants as port
use Rattle.hex.specs.Hex.{encode_lower}
use Rattle.object_frames.specs.declared.kind.Kind.{Kind}
use Rattle.object_frames.specs.declared.frame_fail.FrameFail.{FrameFail}
use Rattle.object_frames.specs.declared.frame_fail.FrameFail.TheVariants.{Failed, Header, Truncated, OtherId, TooLarge, NoEnd, WrongId, Memory}
use Rattle.object_frames.specs.Id.{IsId}
use Rattle.object_frames.specs.Object.{object_id}
use Rattle.object_frames.specs.Frame.{header_line, IsHeaderLine, HasNoHeader, Begins, IsLongest}
use Rattle.object_frames.specs.Fetched.{IsFullId}

-- the answer begins with the header line of an object, and the rest follows
pub record IsHeaded (answer id : List ℕ) (kind : Kind) (size : ℕ) (rest : List ℕ) : Type 0 where
  pub is_id : IsId id
  pub small : size < 10 ^ 18
  pub whole : answer ≡ header_line id kind size ++ 10 ∷ rest

-- a name that is an id in full is this one
abbrev pub IsAsked : List ℕ → List ℕ → Type 0
IsAsked name id = IsFullId name → name ≡ encode_lower id

-- the answer begins with such a header line of the object that was asked for, within the limit
pub record IsTaken (limit : ℕ) (name answer id : List ℕ) (kind : Kind) (size : ℕ) (rest : List ℕ) : Type 0 where
  pub headed : IsHeaded answer id kind size rest
  pub asked : IsAsked name id
  pub within : size ≤ limit

-- no header line is at the front, and the answer has a byte at the end of the longest front of one
pub record IsOdd (name answer : List ℕ) (at : ℕ) : Type 0 where
  pub none : HasNoHeader name answer
  pub longest : IsLongest (IsHeaderLine name) answer at
  pub longer : at < length answer

-- the answer ends in its header line
pub record IsCutEarly (name answer : List ℕ) : Type 0 where
  pub none : HasNoHeader name answer
  pub begins : Begins (IsHeaderLine name) answer

-- it ends in the content, or at its end
pub record IsCutLate (limit : ℕ) (name answer : List ℕ) : Type 0 where
  pub id : List ℕ
  pub kind : Kind
  pub size : ℕ
  pub rest : List ℕ
  pub taken : IsTaken limit name answer id kind size rest
  pub short : length rest ≤ size

pub record IsOther (name answer id : List ℕ) : Type 0 where
  pub kind : Kind
  pub size : ℕ
  pub rest : List ℕ
  pub headed : IsHeaded answer id kind size rest
  pub full : IsFullId name
  pub other : name ≢ encode_lower id

pub record IsTooLarge (limit : ℕ) (name answer : List ℕ) (size : ℕ) : Type 0 where
  pub id : List ℕ
  pub kind : Kind
  pub rest : List ℕ
  pub headed : IsHeaded answer id kind size rest
  pub asked : IsAsked name id
  pub beyond : limit < size

-- the byte after the content isn't a line feed
pub record IsOpen (limit : ℕ) (name answer : List ℕ) : Type 0 where
  pub id : List ℕ
  pub kind : Kind
  pub content : List ℕ
  pub byte : ℕ
  pub rest : List ℕ
  pub taken : IsTaken limit name answer id kind (length content) (content ++ byte ∷ rest)
  pub other : byte ≢ 10

-- the content and its line feed are there, and its id isn't the claimed one
pub record IsWrong (limit : ℕ) (name answer claimed computed : List ℕ) : Type 0 where
  pub kind : Kind
  pub content : List ℕ
  pub rest : List ℕ
  pub taken : IsTaken limit name answer claimed kind (length content) (content ++ 10 ∷ rest)
  pub digest : computed ≡ object_id kind content
  pub other : claimed ≢ computed

-- The fault of an answer to the name, under a limit on the content. No answer is to blame for a failed call or for want of memory.
abbrev pub IsFrameFault : ℕ → List ℕ → List ℕ → FrameFail → Type 0
IsFrameFault limit name answer Failed = ⊥
IsFrameFault limit name answer (Header at) = IsOdd name answer at
IsFrameFault limit name answer (Truncated at) = (at ≡ length answer) × (IsCutEarly name answer ⊎ IsCutLate limit name answer)
IsFrameFault limit name answer (OtherId id) = IsOther name answer id
IsFrameFault limit name answer (TooLarge size) = IsTooLarge limit name answer size
IsFrameFault limit name answer NoEnd = IsOpen limit name answer
IsFrameFault limit name answer (WrongId claimed computed) = IsWrong limit name answer claimed computed
IsFrameFault limit name answer Memory = ⊥

-- it is the fault; or a call failed, or memory was wanting
abbrev pub MayBlame : (FrameFail → Type 0) → FrameFail → Type 0
MayBlame Blamed Failed = Unit {0}
MayBlame Blamed Memory = Unit {0}
MayBlame Blamed fail = Blamed fail

-- ---- failed calls

-- a port's answer as one of a fetch
abbrev pub fail_of : PortFail → FrameFail
fail_of port.Failed = Failed
fail_of port.Memory = Memory

-- `Failed` comes only where the count rose, and any other answer leaves it.
abbrev pub FetchFailsByCount : {T : Type 0} → ℕ → ℕ → Result T FrameFail → Type 0
FetchFailsByCount before now (Ok x) = now ≡ before
FetchFailsByCount before now (Err Failed) = Rose before now
FetchFailsByCount before now (Err fail) = now ≡ before
