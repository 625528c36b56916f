-- Header lines and their parts.
use Rattle.std.proofs.Common.{◌≡◌, inl, inr, ℕ, ◌+◌, ◌^◌, ◌≤◌, ◌<◌, List, [], ◌∷◌, ◌++◌, take, drop, length, refl, sym, ap, ◌∙◌, arith, append_assoc, length-append, decimal, codes}
use Rattle.std.proofs.lemmas.List.{take_at, drop_at}
use Rattle.std.proofs.lemmas.Fmt.{digits_decimal, decimal_injective, length-decimal-le}
use Rattle.std.proofs.lemmas.Str.Parse.{numerals_by_value, tells_digits, digit_from_value}
use Rattle.std.specs.Str.Parse.{AllDigits}
use Rattle.child_ports.specs.Git.{IsName, NoLineEnd}
use Rattle.hex.specs.Hex.{encode_lower}
use Rattle.object_frames.specs.declared.kind.Kind.{Kind}
use Rattle.object_frames.specs.declared.kind.Kind.TheVariants.{Commit, Tree, Blob, Tag}
use Rattle.object_frames.specs.Object.{type_word}
use Rattle.object_frames.specs.Id.{IsId}
use Rattle.object_frames.specs.Frame.{header_line, IsHeaderLine}
use Rattle.object_frames.proofs.DigestLemmas.{same_id}
use Rattle.object_frames.proofs.IdLemmas.{length-hex, no_end_hex}
use Rattle.object_frames.proofs.LineLemmas.{no_end_append, no_end_test, same_line}

-- ---- the parts of a header line

-- what follows the id
abbrev pub after_id : Kind → ℕ → List ℕ
after_id kind size = 32 ∷ type_word kind ++ 32 ∷ decimal size

pub line_parts : (id : List ℕ) (kind : Kind) (size : ℕ) → header_line id kind size ≡ encode_lower id ++ after_id kind size
line_parts id kind size = append_assoc (encode_lower id) (32 ∷ type_word kind) (32 ∷ decimal size)

pub id_part : (line id : List ℕ) (kind : Kind) (size : ℕ) → IsId id → line ≡ header_line id kind size → take 40 line ≡ encode_lower id
id_part line id kind size is whole = ap (take 40) (whole ∙ line_parts id kind size) ∙ take_at (encode_lower id) (after_id kind size) 40 (length-hex id is)

pub rest_part : (line id : List ℕ) (kind : Kind) (size : ℕ) → IsId id → line ≡ header_line id kind size → drop 40 line ≡ after_id kind size
rest_part line id kind size is whole = ap (drop 40) (whole ∙ line_parts id kind size) ∙ drop_at (encode_lower id) (after_id kind size) 40 (length-hex id is)

pub short_line : (line id : List ℕ) (kind : Kind) (size : ℕ) → IsId id → line ≡ header_line id kind size → 40 ≤ length line
short_line line id kind size is whole =
    let long : length line ≡ length (encode_lower id ++ after_id kind size) = ap length (whole ∙ line_parts id kind size) in
    omega (arith, long, length-append (encode_lower id) (after_id kind size), length-hex id is)

-- no word and space begins another
pub same_rest : (j k : Kind) (a b : List ℕ) → type_word j ++ 32 ∷ a ≡ type_word k ++ 32 ∷ b → (j ≡ k) × (a ≡ b)
same_rest Commit Commit a b h = (refl, cc)
same_rest Commit Tree a b h = grind arith
same_rest Commit Blob a b h = grind arith
same_rest Commit Tag a b h = grind arith
same_rest Tree Commit a b h = grind arith
same_rest Tree Tree a b h = (refl, cc)
same_rest Tree Blob a b h = grind arith
same_rest Tree Tag a b h = grind arith
same_rest Blob Commit a b h = grind arith
same_rest Blob Tree a b h = grind arith
same_rest Blob Blob a b h = (refl, cc)
same_rest Blob Tag a b h = grind arith
same_rest Tag Commit a b h = grind arith
same_rest Tag Tree a b h = grind arith
same_rest Tag Blob a b h = grind arith
same_rest Tag Tag a b h = (refl, cc)

-- ---- header lines are lines

pub no_end_missing : (name : List ℕ) → NoLineEnd name → NoLineEnd (name ++ codes " missing")
no_end_missing name h = no_end_append name (codes " missing") h (no_end_test (codes " missing") refl)

pub no_end_ambiguous : (name : List ℕ) → NoLineEnd name → NoLineEnd (name ++ codes " ambiguous")
no_end_ambiguous name h = no_end_append name (codes " ambiguous") h (no_end_test (codes " ambiguous") refl)

no_end_digits : (ds : List ℕ) → AllDigits 10 ds → NoLineEnd ds
no_end_digits [] h = tt
no_end_digits (d ∷ ds) h = let range = digit_from_value d h.0 in (λ e. absurd (omega (arith, range.0, range.1)), no_end_digits ds h.1)

no_end_word : (kind : Kind) → NoLineEnd (type_word kind)
no_end_word Commit = no_end_test (codes "commit") refl
no_end_word Tree = no_end_test (codes "tree") refl
no_end_word Blob = no_end_test (codes "blob") refl
no_end_word Tag = no_end_test (codes "tag") refl

short_word : (kind : Kind) → length (type_word kind) ≤ 6
short_word Commit = omega arith
short_word Tree = omega arith
short_word Blob = omega arith
short_word Tag = omega arith

pub no_end_header : (id : List ℕ) (kind : Kind) (size : ℕ) → IsId id → size < 10 ^ 18 → NoLineEnd (header_line id kind size)
no_end_header id kind size is small =
    no_end_append (encode_lower id ++ 32 ∷ type_word kind) (32 ∷ decimal size)
    (no_end_append (encode_lower id) (32 ∷ type_word kind) (no_end_hex id is.bytes) (λ e. absurd (omega arith), no_end_word kind))
    (λ e. absurd (omega arith), no_end_digits (decimal size) (digits_decimal (numerals_by_value (AllDigits 10) tells_digits) size (omega arith)))

pub length-header : (id : List ℕ) (kind : Kind) (size : ℕ) → IsId id → size < 10 ^ 18 → length (header_line id kind size) < 67
length-header id kind size is small =
    let whole : length (header_line id kind size) ≡ length (encode_lower id ++ after_id kind size) = ap length (line_parts id kind size) in
    omega (arith, whole, length-append (encode_lower id) (after_id kind size), length-hex id is, length-append (32 ∷ type_word kind) (32 ∷ decimal size), short_word kind, length-decimal-le 18 size (omega arith) small (omega arith))

-- a line that fits into so many bytes with its end
pub record LineIn (room : ℕ) (line : List ℕ) : Type 0 where
  pub text : List ℕ
  pub plain : NoLineEnd text
  pub whole : line ≡ text ++ 10 ∷ []
  pub fits : length text < room

pub line_of_header : (room : ℕ) (name line : List ℕ) → IsName name → length name + 11 ≤ room → 67 ≤ room → IsHeaderLine name line → LineIn room line
line_of_header room name line is for_name for_header (inl e) = record {
  text = name ++ codes " missing";
  plain = no_end_missing name is.one_line;
  whole = e ∙ sym (append_assoc name (codes " missing") (10 ∷ []));
  fits = omega (arith, length-append name (codes " missing"));
}
line_of_header room name line is for_name for_header (inr (inl e)) = record {
  text = name ++ codes " ambiguous";
  plain = no_end_ambiguous name is.one_line;
  whole = e ∙ sym (append_assoc name (codes " ambiguous") (10 ∷ []));
  fits = omega (arith, length-append name (codes " ambiguous"));
}
line_of_header room name line is for_name for_header (inr (inr o)) = record {
  text = header_line o.id o.kind o.size;
  plain = no_end_header o.id o.kind o.size o.is_id o.small;
  whole = o.whole;
  fits = omega (arith, length-header o.id o.kind o.size o.is_id o.small);
}

-- ---- a header line is that of one object

pub record SameHeader (i j : List ℕ) (k l : Kind) (m n : ℕ) (p q : List ℕ) : Type 0 where
  pub id : i ≡ j
  pub kind : k ≡ l
  pub size : m ≡ n
  pub rest : p ≡ q

pub same_header : (i j : List ℕ) (k l : Kind) (m n : ℕ) (p q : List ℕ) → IsId i → IsId j → m < 10 ^ 18 → n < 10 ^ 18
    → header_line i k m ++ 10 ∷ p ≡ header_line j l n ++ 10 ∷ q → SameHeader i j k l m n p q
same_header i j k l m n p q is js ms ns e =
    let both = same_line (header_line i k m) (header_line j l n) p q (no_end_header i k m is ms) (no_end_header j l n js ns) e in
    let digits : encode_lower i ≡ encode_lower j = sym (id_part (header_line i k m) i k m is refl) ∙ id_part (header_line i k m) j l n js both.0 in
    let after : after_id k m ≡ after_id l n = sym (rest_part (header_line i k m) i k m is refl) ∙ rest_part (header_line i k m) j l n js both.0 in
    let parts = same_rest k l (decimal m) (decimal n) (ap (drop 1) after) in
    record {
      id = same_id i j is js digits;
      kind = parts.0;
      size = decimal_injective m n (omega arith) (omega arith) parts.1;
      rest = both.1;
    }
