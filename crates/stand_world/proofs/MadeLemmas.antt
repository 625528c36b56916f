-- What a commit of a script is made of, and what is read back from it.
use Rattle.std.proofs.Common.{◌≡◌, ◌≢◌, inl, inr, ℕ, ◌/◌, ◌%◌, Option, Some, None, List, [], ◌∷◌, ◌++◌, refl, sym, ap, ◌∙◌, subst, arith, append_assoc, append-nil, codes, decimal}
use Rattle.std.specs.Prelude.{slice_index}
use Rattle.std.specs.List.{AllByRecursion, flat_map}
use Rattle.std.proofs.lemmas.List.{get_or_past}
use Rattle.hex.specs.Hex.{encode_lower, encode_upper, encode_with, upper_digits}
use Rattle.sha1.specs.Sha1.{sha1}
use Rattle.child_ports.proofs.FramedLemmas.{no_end_append}
use Rattle.object_frames.specs.Id.{IsId}
use Rattle.object_frames.specs.declared.kind.Kind.{Kind}
use Rattle.object_frames.specs.declared.kind.Kind.TheVariants as kind
use Rattle.object_frames.proofs.IdLemmas.{no_end_hex}
use Rattle.object_frames.proofs.DigestLemmas.{digest_id}
use Rattle.commit_objects.specs.Form.{sha1_form}
use Rattle.commit_objects.specs.Lines.{NoLineEnd, IsIdOf, line, continued, Header, IsHeader, header_lines}
use Rattle.commit_objects.specs.Commit.{heading, spelling, AreParts, IsCommit}
use Rattle.commit_objects.specs.Reading.{Lines, lines_of, commit_from}
use Rattle.commit_objects.specs.Writing.{IsSigned}
use Rattle.commit_objects.proofs.CutLineLemmas.{lines_cons}
use Rattle.commit_objects.proofs.FurtherLemmas.{sha1_words, begins_true}
use Rattle.commit_objects.proofs.LineLemmas.{no_end, in_form}
use Rattle.commit_objects.proofs.OneReading.{is_read}
use Rattle.commit_objects.proofs.SignedAgain.{read_again}
use Rattle.stand_world.specs.Objects.{framed, authorizations_of, channel_of, files_of, person, parts_of, heading_of, payload_of, signed_content, commit_of}
use Rattle.stand_world.specs.Toy.{toy_bytes, signature_of}
use Rattle.stand_world.specs.Written.{IsWritten}
use Rattle.stand_world.specs.declared.commit.Commit.{Commit}
use Rattle.stand_world.specs.declared.commit.SigningKey.{SigningKey}
use Rattle.stand_world.specs.declared.files.Files.{Files}
use Rattle.stand_world.specs.declared.files.Listed.{Listed}
use Rattle.stand_world.specs.declared.framed.Framed.{Framed}
use Rattle.stand_world.specs.declared.toy.Toy.{Toy}
use Rattle.stand_world.proofs.NumberLemmas.{no_end_decimal, below_or_not}
use Rattle.stand_world.proofs.ObjectLemmas.{framed_id}
use Rattle.stand_world.proofs.ToyLemmas.{glyph_no_end, key_line, hash_line, digest_line, lines_text, lines_of_toy}

-- ---- objects

-- an object of some kind and content
pub record IsObject (object : Framed) : Type 0 where
  pub kind : Kind
  pub content : List ℕ
  pub is : object ≡ framed kind content

abbrev pub IsFile : Option Framed → Type 0
IsFile None = Unit {0}
IsFile (Some file) = IsObject file

made : (kind : Kind) (content : List ℕ) → IsObject (framed kind content)
made kind content = record { kind = kind; content = content; is = refl }

pub object_id_is : (object : Framed) → IsObject object → IsId object.id
object_id_is object o = subst (λ (x : Framed). IsId x.id) (sym o.is) (framed_id o.kind o.content)

pub record AreMade (files : Files) : Type 0 where
  pub authorizations : IsFile files.authorizations
  pub channel : IsFile files.channel
  pub root : IsObject files.root

authorizations_made : (keys : Option (List Listed)) → IsFile (authorizations_of keys)
authorizations_made None = tt
authorizations_made (Some keys) = made kind.Blob _

channel_made : (text : Option (List ℕ)) → IsFile (channel_of text)
channel_made None = tt
channel_made (Some text) = made kind.Blob _

pub files_made : (keys : Option (List Listed)) (channel : Option (List ℕ)) → AreMade (files_of keys channel)
files_made keys channel = record { authorizations = authorizations_made keys; channel = channel_made channel; root = made kind.Tree _ }

-- ---- the lines of a signature

upper_glyph : (k : ℕ) → slice_index upper_digits k ≢ 10
upper_glyph k = elim (below_or_not k 16) [
  | inl below ↦ glyph_no_end k below
  | inr past ↦ λ e. absurd (omega (arith, e, get_or_past upper_digits k 0 past))
]

no_end_key : (xs : List ℕ) → NoLineEnd (encode_upper xs)
unfolding encode_with
no_end_key [] = tt
no_end_key (x ∷ xs) = (upper_glyph (x / 16), (upper_glyph (x % 16), no_end_key xs))

abbrev title : List ℕ
title = codes "TOY SIGNATURE"

abbrev later_lines : Toy → List (List ℕ)
later_lines toy = key_line toy ∷ hash_line toy ∷ digest_line toy ∷ []

later_ends : (toy : Toy) → IsId toy.digest → AllByRecursion NoLineEnd (later_lines toy)
later_ends toy is = (
  no_end_append (codes "key ") (encode_upper toy.key.0) (no_end (codes "key ") refl) (no_end_key toy.key.0),
  (
    no_end_append (codes "hash ") (decimal toy.hash) (no_end (codes "hash ") refl) (no_end_decimal toy.hash),
    (no_end_append (codes "sha1 ") (encode_lower toy.digest) (no_end (codes "sha1 ") refl) (no_end_hex toy.digest is.bytes), tt),
  ),
)

lines_over : (texts : List (List ℕ)) → AllByRecursion NoLineEnd texts → (lines_of (flat_map line texts)).whole ≡ texts
lines_over [] h = refl
lines_over (text ∷ texts) h =
    ap (λ (ls : Lines). ls.whole) (ap lines_of (append_assoc text (10 ∷ []) (flat_map line texts)) ∙ lines_cons text (flat_map line texts) h.0) ∙ ap (λ ls. text ∷ ls) (lines_over texts h.1)

four_joined : (a b c d : List ℕ) → lines_text a b c d ≡ flat_map line (a ∷ b ∷ c ∷ d ∷ [])
four_joined a b c d = simp (append_assoc, append-nil)

toy_joined : (toy : Toy) → toy_bytes toy ≡ flat_map line (title ∷ later_lines toy)
toy_joined toy = lines_of_toy toy ∙ four_joined title (key_line toy) (hash_line toy) (digest_line toy)

toy_lines : (toy : Toy) → IsId toy.digest → (lines_of (toy_bytes toy)).whole ≡ title ∷ later_lines toy
toy_lines toy is = ap (λ text. (lines_of text).whole) (toy_joined toy) ∙ lines_over (title ∷ later_lines toy) (no_end title refl, later_ends toy is)

-- ---- a commit's parts

parts_fit : (name tree : List ℕ) (parents : List (List ℕ)) → IsId tree → AllByRecursion (IsIdOf sha1_form) parents → AreParts sha1_form (parts_of name tree parents)
parts_fit name tree parents tree_is parents_are = record {
  tree = in_form tree tree_is;
  parents = parents_are;
  author = no_end person refl;
  committer = no_end person refl;
  headers = record { each = tt; none_foreign = refl; at_most_one = omega arith };
}

-- what is read from the commit without a signature
read_plain : (name tree : List ℕ) (parents : List (List ℕ)) → IsId tree → AllByRecursion (IsIdOf sha1_form) parents
    → IsCommit sha1_form (spelling (parts_of name tree parents)) (commit_from sha1_form (parts_of name tree parents))
read_plain name tree parents tree_is parents_are = record {
  parts = parts_of name tree parents;
  fit = parts_fit name tree parents tree_is parents_are;
  whole = refl;
  tree = refl;
  parents = refl;
  signature = refl;
  payload = refl;
}

-- ---- the signature as a header

abbrev toy_header : Toy → Header
toy_header toy = record { first = sha1_form.own ++ title; more = later_lines toy }

toy_header_is : (toy : Toy) → IsId toy.digest → IsHeader (toy_header toy)
toy_header_is toy is = record { first = no_end (sha1_form.own ++ title) refl; not_empty = λ e. cc; no_space = λ rest e. cc; more = later_ends toy is }

toy_signed : (name tree : List ℕ) (parents : List (List ℕ)) (toy : Toy) → IsId toy.digest → IsId tree → AllByRecursion (IsIdOf sha1_form) parents
    → IsSigned sha1_form (payload_of name tree parents) (toy_bytes toy) (signed_content name tree parents (toy_bytes toy))
unfolding payload_of signed_content heading_of
toy_signed name tree parents toy is tree_is parents_are = record {
  parts = parts_of name tree parents;
  last = toy_header toy;
  fit = parts_fit name tree parents tree_is parents_are;
  payload_is = refl;
  is_header = toy_header_is toy is;
  is_own = begins_true sha1_form.own (sha1_form.own ++ title) (title, refl);
  value = sym (toy_joined toy);
  whole = ap (λ ls. heading (parts_of name tree parents) ++ (codes "gpgsig" ++ flat_map continued ls) ++ 10 ∷ line name) (toy_lines toy is)
      ∙ ap (λ l. heading (parts_of name tree parents) ++ l ++ 10 ∷ line name) (sym (append-nil (header_lines (toy_header toy))));
}

-- ---- a commit of a script

pub record IsMade (commit : Commit) : Type 0 where
  pub files : AreMade commit.files
  pub object : IsObject commit.object
  pub written : IsWritten commit

unsigned_written : (name : List ℕ) (files : Files) (parents : List (List ℕ)) → IsId files.root.id → AllByRecursion (IsIdOf sha1_form) parents → IsWritten (commit_of name files parents None)
unfolding payload_of
unsigned_written name files parents tree_is parents_are = record {
  content = spelling (parts_of name files.root.id parents);
  parents = parents;
  object = refl;
  read = is_read sha1_form sha1_words (spelling (parts_of name files.root.id parents)) _ (read_plain name files.root.id parents tree_is parents_are);
  signed = tt;
}

signed_written : (name : List ℕ) (files : Files) (parents : List (List ℕ)) (signer : SigningKey) → IsId files.root.id → AllByRecursion (IsIdOf sha1_form) parents → IsWritten (commit_of name files parents (Some signer))
unfolding payload_of
signed_written name files parents signer tree_is parents_are =
    let payload = payload_of name files.root.id parents in
    let signature = signature_of signer.print signer.hash payload in
    let content = signed_content name files.root.id parents signature in
    let plain = read_plain name files.root.id parents tree_is parents_are in
    let signed = toy_signed name files.root.id parents (record { key = signer.print; hash = signer.hash; digest = sha1 payload }) (digest_id payload) tree_is parents_are in
    record {
      content = content;
      parents = parents;
      object = refl;
      read = read_again sha1_form sha1_words payload signature content signed (commit_from sha1_form (parts_of name files.root.id parents), plain, refl)
          (commit_from sha1_form (parts_of name files.root.id parents)) (is_read sha1_form sha1_words payload _ plain);
      signed = signed;
    }

pub commit_made : (name : List ℕ) (files : Files) (parents : List (List ℕ)) (signer : Option SigningKey) → AreMade files → AllByRecursion (IsIdOf sha1_form) parents → IsMade (commit_of name files parents signer)
commit_made name files parents None made_files parents_are = record {
  files = made_files;
  object = made kind.Commit _;
  written = unsigned_written name files parents (object_id_is files.root made_files.root) parents_are;
}
commit_made name files parents (Some signer) made_files parents_are = record {
  files = made_files;
  object = made kind.Commit _;
  written = signed_written name files parents signer (object_id_is files.root made_files.root) parents_are;
}
