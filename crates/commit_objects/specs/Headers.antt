-- The further headers up to the empty line, with a signature or without.
use Rattle.std.specs.Prelude.{◌≡◌, ◌≢◌, ℕ, Bool, true, false, ◌==◌, List, [], ◌∷◌, ◌++◌}
use Rattle.std.specs.List.{AllByRecursion, flat_map, list_any}
use Rattle.commit_objects.specs.declared.commit.CommitFail.{CommitFail}
use Rattle.commit_objects.specs.declared.commit.CommitFail.TheVariants.{TwoSignatures, ForeignSignature, NoBody}
use Rattle.commit_objects.specs.Form.{Form}
use Rattle.commit_objects.specs.Lines.{NoLineEnd, line, continued, Header, IsHeader, header_lines, is_signature, is_foreign}
use Rattle.commit_objects.specs.Commit.{AreHeaders}
use Rattle.commit_objects.specs.Faults.{BeginsWith, IsCutShort}

-- lines without the first byte of each; whether a line begins here comes first
abbrev pub without_spaces : Bool → List ℕ → List ℕ
without_spaces begins [] = []
without_spaces true (b ∷ bytes) = without_spaces false bytes
without_spaces false (b ∷ bytes) = b ∷ without_spaces (b == 10) bytes

-- these bytes are continuation lines
abbrev pub AreContinued : List ℕ → Type 0
AreContinued bytes = (lines : List (List ℕ)) × AllByRecursion NoLineEnd lines × (bytes ≡ flat_map continued lines)

-- whole continuation lines and then one without an end
abbrev pub EndsContinued : List ℕ → Type 0
EndsContinued text = (more rest : List ℕ) × AreContinued more × (text ≡ more ++ rest) × NoLineEnd rest × BeginsWith (32 ∷ []) rest

-- headers of which none is a signature
pub record ArePlain (form : Form) (headers : List Header) : Type 0 where
  pub each : AllByRecursion IsHeader headers
  pub none_foreign : list_any (is_foreign form) headers ≡ false
  pub none_signed : list_any (is_signature form) headers ≡ false

-- further headers up to the rest, with no signature among them
pub record UnsignedTo (form : Form) (text rest : List ℕ) : Type 0 where
  pub headers : List Header
  pub plain : ArePlain form headers
  pub whole : text ≡ flat_map header_lines headers ++ rest

-- further headers up to the rest, with a signature: what stands before it, its first line behind the word, its
-- continuation lines, and what stands after it
pub record SignedTo (form : Form) (text lead value more trail rest : List ℕ) : Type 0 where
  pub front : List Header
  pub back : List Header
  pub front_plain : ArePlain form front
  pub back_plain : ArePlain form back
  pub one_line : NoLineEnd (form.own ++ value)
  pub not_foreign : (tail : List ℕ) → form.own ++ value ≢ form.foreign ++ tail
  pub continued : AreContinued more
  pub before : lead ≡ flat_map header_lines front
  pub after : trail ≡ flat_map header_lines back ++ rest
  pub whole : text ≡ lead ++ (line (form.own ++ value) ++ more) ++ trail

-- headers, and then such a rest
pub record HeadersMeet (form : Form) (text : List ℕ) (headers : List Header) (Rest : List ℕ → Type 0) : Type 0 where
  pub rest : List ℕ
  pub fit : AreHeaders form headers
  pub whole : text ≡ flat_map header_lines headers ++ rest
  pub stands : Rest rest

-- the fault among further headers
abbrev pub IsFurtherFault : Form → List ℕ → CommitFail → Type 0
IsFurtherFault form text TwoSignatures = (headers : List Header) × (list_any (is_signature form) headers ≡ true) × HeadersMeet form text headers (BeginsWith form.own)
IsFurtherFault form text ForeignSignature = (headers : List Header) × HeadersMeet form text headers (BeginsWith form.foreign)
IsFurtherFault form text NoBody = (headers : List Header) × HeadersMeet form text headers (IsCutShort form headers)
IsFurtherFault form text _ = ⊥
