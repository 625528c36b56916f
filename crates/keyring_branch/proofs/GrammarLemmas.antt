-- Blocks by their grammar, and their reading.
use Rattle.std.proofs.Common.{◌≡◌, ◌≢◌, ℕ, ◌==◌, true, false, cond, ◌||◌, Some, None, List, [], ◌∷◌, ◌++◌, length, codes, refl, sym, ap, ◌∙◌, arith, append_assoc}
use Rattle.std.specs.List.{AllByRecursion, concat}
use Rattle.std.proofs.lemmas.Bool.{false≢true, eqb-true, ne_eqb}
use Rattle.std.proofs.lemmas.Slice.Eq.{bytes_eq-Decides}
use Rattle.keyring_branch.specs.Armour.{is_end, begins_with, ends_body, content_of, IsChecksum, IsBlock}
use Rattle.keyring_branch.specs.ArmourReading.{after_headers, body_of, after_checksum, after_end, with_content, with_end, with_body, with_headers, block_of}
use Rattle.keyring_branch.proofs.BlockLemmas.{body_ends, body_more}

-- ---- headers

empty_line : (line : List ℕ) → (length line == 0) ≡ true → line ≡ []
empty_line [] h = refl
empty_line (b ∷ line) h = absurd (omega (arith, eqb-true (length (b ∷ line)) 0 h))

filled_line : (line : List ℕ) → (length line == 0) ≡ false → line ≢ []
filled_line [] h e = false≢true (sym h)
filled_line (b ∷ line) h e = cc

is_filled : (line : List ℕ) → line ≢ [] → (length line == 0) ≡ false
is_filled [] h = absurd (h refl)
is_filled (b ∷ line) h = ne_eqb (length (b ∷ line)) 0 (λ e. omega (arith, e))

record Headed (lines behind : List (List ℕ)) : Type 0 where
  headers : List (List ℕ)
  filled : AllByRecursion (λ line. line ≢ []) headers
  whole : lines ≡ headers ++ [] ∷ behind

headers_read : (lines behind : List (List ℕ)) → after_headers lines ≡ Some behind → Headed lines behind
unfolding after_headers
headers_read [] behind e = cc
headers_read (line ∷ lines) behind e = elim (length line == 0) as (λ t. (length line == 0) ≡ t → cond t (Some lines) (after_headers lines) ≡ Some behind → Headed (line ∷ lines) behind) [
  | true ↦ λ is h. let none : line ≡ [] = empty_line line is in record { headers = []; filled = tt; whole = cc }
  | false ↦ λ is h. let more = headers_read lines behind h in record { headers = line ∷ more.headers; filled = (filled_line line is, more.filled); whole = ap (λ l. line ∷ l) more.whole }
] refl e

headers_written : (headers behind : List (List ℕ)) → AllByRecursion (λ line. line ≢ []) headers → after_headers (headers ++ [] ∷ behind) ≡ Some behind
unfolding after_headers
headers_written [] behind h = refl
headers_written (line ∷ headers) behind h = ap (λ t. cond t (Some (headers ++ [] ∷ behind)) (after_headers (headers ++ [] ∷ behind))) (is_filled line h.0) ∙ headers_written headers behind h.1

-- ---- a body

record Bodied (lines : List (List ℕ)) : Type 0 where
  body : List (List ℕ)
  of_body : AllByRecursion (λ line. ends_body line ≡ false) body
  text : (body_of lines).0 ≡ concat body
  whole : lines ≡ body ++ (body_of lines).1

body_read : (lines : List (List ℕ)) → Bodied lines
unfolding body_of
body_read [] = record { body = []; of_body = tt; text = refl; whole = refl }
body_read (line ∷ lines) = elim (ends_body line) as (λ t. ends_body line ≡ t → Bodied (line ∷ lines)) [
  | true ↦ λ is.
      let e : body_of (line ∷ lines) ≡ ([], line ∷ lines) = body_ends (line ∷ lines) line lines refl is in
      record { body = []; of_body = tt; text = ap (λ (b : List ℕ × List (List ℕ)). b.0) e; whole = sym (ap (λ (b : List ℕ × List (List ℕ)). b.1) e) }
  | false ↦ λ is.
      let e : body_of (line ∷ lines) ≡ (line ++ (body_of lines).0, (body_of lines).1) = body_more (line ∷ lines) line lines refl is in
      let more = body_read lines in
      record {
        body = line ∷ more.body;
        of_body = (is, more.of_body);
        text = ap (λ (b : List ℕ × List (List ℕ)). b.0) e ∙ ap (λ l. line ++ l) more.text;
        whole = ap (λ l. line ∷ l) more.whole ∙ ap (λ (l : List (List ℕ)). line ∷ (more.body ++ l)) (sym (ap (λ (b : List ℕ × List (List ℕ)). b.1) e));
      }
] refl

body_written : (body rest : List (List ℕ)) → AllByRecursion (λ line. ends_body line ≡ false) body → (line : List ℕ) (next : List (List ℕ)) → rest ≡ line ∷ next → ends_body line ≡ true → body_of (body ++ rest) ≡ (concat body, rest)
body_written [] rest h line next is ends = body_ends rest line next is ends
body_written (first ∷ body) rest h line next is ends =
    body_more (first ∷ (body ++ rest)) first (body ++ rest) refl h.0 ∙ ap (λ (b : List ℕ × List (List ℕ)). (first ++ b.0, b.1)) (body_written body rest h.1 line next is ends)

-- ---- a checksum and the END line

checksum_read : (lines : List (List ℕ)) → (checksum : List (List ℕ)) × IsChecksum checksum × (lines ≡ checksum ++ after_checksum lines)
unfolding after_checksum
checksum_read [] = ([], tt, refl)
checksum_read (line ∷ lines) = elim (begins_with (codes "=") line) as (λ t. begins_with (codes "=") line ≡ t → (checksum : List (List ℕ)) × IsChecksum checksum × (line ∷ lines ≡ checksum ++ cond t lines (line ∷ lines))) [
  | true ↦ λ is. (line ∷ [], is, refl)
  | false ↦ λ is. ([], tt, refl)
] refl

end_read : (lines rest : List (List ℕ)) → after_end lines ≡ Some rest → (last : List ℕ) × (is_end last ≡ true) × (lines ≡ last ∷ rest)
unfolding after_end
end_read [] rest e = cc
end_read (line ∷ lines) rest e = elim (is_end line) as (λ t. is_end line ≡ t → cond t (Some lines) None ≡ Some rest → (last : List ℕ) × (is_end last ≡ true) × (line ∷ lines ≡ last ∷ rest)) [
  | true ↦ λ is h. (line, is, cc)
  | false ↦ λ is h. cc
] refl e

end_line : (last : List ℕ) → is_end last ≡ true → last ≡ codes "-----END PGP PUBLIC KEY BLOCK-----"
end_line last is = (bytes_eq-Decides last (codes "-----END PGP PUBLIC KEY BLOCK-----")).0 is

end_ends : (last : List ℕ) → is_end last ≡ true → ends_body last ≡ true
end_ends last is = ap ends_body (end_line last is)

no_checksum : (last : List ℕ) → is_end last ≡ true → begins_with (codes "=") last ≡ false
no_checksum last is = ap (begins_with (codes "=")) (end_line last is)

checksum_written : (checksum rest : List (List ℕ)) (last : List ℕ) → IsChecksum checksum → is_end last ≡ true → after_checksum (checksum ++ last ∷ rest) ≡ last ∷ rest
unfolding after_checksum
checksum_written [] rest last h end = ap (λ t. cond t rest (last ∷ rest)) (no_checksum last end)
checksum_written (line ∷ []) rest last h end = ap (λ t. cond t (last ∷ rest) (line ∷ last ∷ rest)) h
checksum_written (line ∷ next ∷ lines) rest last h end = absurd h

end_written : (last : List ℕ) (rest : List (List ℕ)) → is_end last ≡ true → after_end (last ∷ rest) ≡ Some rest
unfolding after_end
end_written last rest end = ap (λ t. cond t (Some rest) None) end

-- the line behind a body
body_stop : (checksum rest : List (List ℕ)) (last : List ℕ) → IsChecksum checksum → is_end last ≡ true → (line : List ℕ) × (next : List (List ℕ)) × (checksum ++ last ∷ rest ≡ line ∷ next) × (ends_body line ≡ true)
body_stop [] rest last h end = (last, rest, refl, end_ends last end)
body_stop (line ∷ []) rest last h end = (line, last ∷ rest, refl, ap (λ t. t || begins_with (codes "-") line) h)
body_stop (line ∷ next ∷ lines) rest last h end = absurd h

-- ---- a block

record Tailed (behind rest : List (List ℕ)) (content : List ℕ) : Type 0 where
  body : List (List ℕ)
  checksum : List (List ℕ)
  last : List ℕ
  of_body : AllByRecursion (λ line. ends_body line ≡ false) body
  at_most_one : IsChecksum checksum
  end : is_end last ≡ true
  whole : behind ≡ body ++ (checksum ++ last ∷ rest)
  decodes : content_of (concat body) ≡ Some content

tail_is : (behind rest : List (List ℕ)) (content : List ℕ) → after_end (after_checksum (body_of behind).1) ≡ Some rest → content_of (body_of behind).0 ≡ Some content → Tailed behind rest content
tail_is behind rest content ends decodes =
    let read = body_read behind in
    let sum = checksum_read (body_of behind).1 in
    let end = end_read (after_checksum (body_of behind).1) rest ends in
    record {
      body = read.body;
      checksum = sum.0;
      last = end.0;
      of_body = read.of_body;
      at_most_one = sum.1;
      end = end.1;
      whole = read.whole ∙ ap (λ (l : List (List ℕ)). read.body ++ l) (sum.2 ∙ ap (λ (l : List (List ℕ)). sum.0 ++ l) end.2);
      decodes = ap content_of (sym read.text) ∙ decodes;
    }

tail_read : (behind rest : List (List ℕ)) (content : List ℕ) → with_body (body_of behind) ≡ Some (content, rest) → Tailed behind rest content
tail_read behind rest content e =
    elim (after_end (after_checksum (body_of behind).1)) as (λ found. after_end (after_checksum (body_of behind).1) ≡ found → with_end (body_of behind).0 found ≡ Some (content, rest) → Tailed behind rest content) [
      | None ↦ λ is h. cc
      | Some r ↦ λ is h. elim (content_of (body_of behind).0) as (λ decoded. content_of (body_of behind).0 ≡ decoded → with_content r decoded ≡ Some (content, rest) → Tailed behind rest content) [
        | None ↦ λ so k. cc
        | Some c ↦ λ so k.
            let same : ◌≡◌ {A = List ℕ × List (List ℕ)} (c, r) (content, rest) = cc in
            tail_is behind rest content (is ∙ ap (λ (p : List ℕ × List (List ℕ)). Some p.1) same) (so ∙ ap (λ (p : List ℕ × List (List ℕ)). Some p.0) same)
      ] refl h
    ] refl e

pub block_read : (lines rest : List (List ℕ)) (content : List ℕ) → block_of lines ≡ Some (content, rest) → (block : List (List ℕ)) × IsBlock block content × (lines ≡ block ++ rest)
unfolding block_of
block_read lines rest content e =
    elim (after_headers lines) as (λ found. after_headers lines ≡ found → with_headers found ≡ Some (content, rest) → (block : List (List ℕ)) × IsBlock block content × (lines ≡ block ++ rest)) [
      | None ↦ λ is h. cc
      | Some behind ↦ λ is h.
          let head = headers_read lines behind is in
          let tail = tail_read behind rest content h in (
            head.headers ++ [] ∷ (tail.body ++ (tail.checksum ++ tail.last ∷ [])),
            record {
              headers = head.headers;
              body = tail.body;
              checksum = tail.checksum;
              last = tail.last;
              filled = head.filled;
              of_body = tail.of_body;
              at_most_one = tail.at_most_one;
              end = tail.end;
              whole = refl;
              decodes = tail.decodes;
            },
            head.whole ∙ ap (λ (l : List (List ℕ)). head.headers ++ [] ∷ l) tail.whole ∙ sym (simp append_assoc),
          )
    ] refl e

pub block_written : (block rest : List (List ℕ)) (content : List ℕ) → IsBlock block content → block_of (block ++ rest) ≡ Some (content, rest)
unfolding block_of
block_written block rest content b =
    let behind : List (List ℕ) = b.body ++ (b.checksum ++ b.last ∷ rest) in
    let stop = body_stop b.checksum rest b.last b.at_most_one b.end in
    let shape : block ++ rest ≡ b.headers ++ [] ∷ behind = ap (λ (l : List (List ℕ)). l ++ rest) b.whole ∙ simp append_assoc in
    let head : after_headers (block ++ rest) ≡ Some behind = ap after_headers shape ∙ headers_written b.headers behind b.filled in
    let body : body_of behind ≡ (concat b.body, b.checksum ++ b.last ∷ rest) = body_written b.body (b.checksum ++ b.last ∷ rest) b.of_body stop.0 stop.1 stop.2 stop.3 in
    let end : after_end (after_checksum (b.checksum ++ b.last ∷ rest)) ≡ Some rest = ap after_end (checksum_written b.checksum rest b.last b.at_most_one b.end) ∙ end_written b.last rest b.end in
    ap with_headers head ∙ ap with_body body ∙ ap (with_end (concat b.body)) end ∙ ap (with_content rest) b.decodes
