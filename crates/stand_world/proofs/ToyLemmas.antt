-- Toy signatures are read as they were written, and only these are read.
use Rattle.std.proofs.Common.{Result, Ok, Err, ◌*◌, drop, ◌≡◌, ◌≢◌, ℕ, zero, suc, ◌+◌, ◌/◌, ◌%◌, ◌<◌, ◌≤◌, ◌^◌, true, false, not, cond, eqb, Option, Some, None, List, [], ◌∷◌, ◌++◌, length, refl, sym, ap, ◌∙◌, subst, append_assoc, arith, codes, decimal, bytes_eq}
use Rattle.std.specs.Prelude.{slice_index, slice_get, IfOk}
use Rattle.std.proofs.lemmas.Bool.{false≢true}
use Rattle.std.proofs.lemmas.Fmt.{decimal_injective}
use Rattle.std.proofs.lemmas.List.Sums.{AllPass-from_list_all}
use Rattle.std.proofs.lemmas.Slice.Eq.{bytes_eq-Decides}
use Rattle.hex.proofs.HexLemmas.{decode_of-ok, decode_sized-ok, decode_sized-twice, decode_sized-encode_lower}
use Rattle.hex.specs.Hex.{IsBytes, decode_sized, encode_lower, encode_upper, encode_with, upper_digits}
use Rattle.byte_cuts.proofs.CutLemmas.{parts_cut}
use Rattle.byte_cuts.specs.Cuts.{Lacks, parts_at}
use Rattle.child_ports.proofs.FingerprintLemmas.{fingerprint_of-encode_upper}
use Rattle.child_ports.proofs.FramedLemmas.{no_end_append}
use Rattle.child_ports.proofs.HeaderLemmas.{lacks_decimal}
use Rattle.child_ports.specs.Fingerprint.{fingerprint_of, fingerprint_from}
use Rattle.child_ports.specs.declared.fingerprint.Fingerprint.{Fingerprint}
use Rattle.commit_objects.proofs.LineLemmas.{no_end}
use Rattle.object_frames.proofs.IdLemmas.{no_end_hex}
use Rattle.object_frames.specs.Id.{id_in, id_from}
use Rattle.keyring_branch.specs.PacketReading.{packet_keys}
use Rattle.stand_world.specs.Names.{number_among, hash_in}
use Rattle.stand_world.specs.Toy.{◌>>=◌, toy_bytes, toy_in, toy_of, if_spelled, IsToy, IsSignature, no_data, status_under, status_of}
use Rattle.stand_world.specs.declared.toy.Toy.{Toy}

-- ---- what is written has four lines

pub glyph_no_end : (k : ℕ) → k < 16 → slice_index upper_digits k ≢ 10
glyph_no_end k lt e = false≢true (ap (λ b. not (eqb b 10)) (sym e) ∙ AllPass-from_list_all (λ b. not (eqb b 10)) upper_digits refl k 0 lt)

tail_bytes : (x : ℕ) (xs : List ℕ) → IsBytes (x ∷ xs) → IsBytes xs
tail_bytes x xs h = λ i. h (suc i)

no_end_upper : (xs : List ℕ) → IsBytes xs → Lacks 10 (encode_upper xs)
unfolding encode_with
no_end_upper [] h = tt
no_end_upper (x ∷ xs) h =
    let byte = h 0 in
    (glyph_no_end (x / 16) (omega arith), (glyph_no_end (x % 16) (omega arith), no_end_upper xs (tail_bytes x xs h)))

abbrev pub lines_text : List ℕ → List ℕ → List ℕ → List ℕ → List ℕ
lines_text a b c d = a ++ 10 ∷ (b ++ 10 ∷ (c ++ 10 ∷ (d ++ 10 ∷ [])))

four_lines : (a b c d : List ℕ) → Lacks 10 a → Lacks 10 b → Lacks 10 c → Lacks 10 d → parts_at 10 (lines_text a b c d) ≡ a ∷ b ∷ c ∷ d ∷ [] ∷ []
four_lines a b c d one two three four =
    parts_cut 10 a (b ++ 10 ∷ (c ++ 10 ∷ (d ++ 10 ∷ []))) one
    ∙ ap (λ l. a ∷ l) (parts_cut 10 b (c ++ 10 ∷ (d ++ 10 ∷ [])) two
    ∙ ap (λ l. b ∷ l) (parts_cut 10 c (d ++ 10 ∷ []) three
    ∙ ap (λ l. c ∷ l) (parts_cut 10 d [] four)))

regroup : (a b c d e f g : List ℕ) → ((((((a ++ b) ++ c) ++ d) ++ e) ++ f) ++ g) ≡ a ++ (b ++ (c ++ (d ++ (e ++ (f ++ g)))))
regroup a b c d e f g = simp append_assoc

abbrev pub key_line : Toy → List ℕ
key_line toy = codes "key " ++ encode_upper toy.key.0

abbrev pub hash_line : Toy → List ℕ
hash_line toy = codes "hash " ++ decimal toy.hash

abbrev pub digest_line : Toy → List ℕ
digest_line toy = codes "sha1 " ++ encode_lower toy.digest

pub lines_of_toy : (toy : Toy) → toy_bytes toy ≡ lines_text (codes "TOY SIGNATURE") (key_line toy) (hash_line toy) (digest_line toy)
lines_of_toy toy = regroup (codes "TOY SIGNATURE\nkey ") (encode_upper toy.key.0) (codes "\nhash ") (decimal toy.hash) (codes "\nsha1 ") (encode_lower toy.digest) (codes "\n")

parts_of_toy : (toy : Toy) → IsToy toy → parts_at 10 (toy_bytes toy) ≡ codes "TOY SIGNATURE" ∷ key_line toy ∷ hash_line toy ∷ digest_line toy ∷ [] ∷ []
parts_of_toy toy is =
    let small : toy.hash < 256 = is.hash in
    ap (parts_at 10) (lines_of_toy toy)
    ∙ four_lines (codes "TOY SIGNATURE") (key_line toy) (hash_line toy) (digest_line toy)
    (no_end (codes "TOY SIGNATURE") refl)
    (no_end_append (codes "key ") (encode_upper toy.key.0) (no_end (codes "key ") refl) (no_end_upper toy.key.0 is.key_bytes))
    (no_end_append (codes "hash ") (decimal toy.hash) (no_end (codes "hash ") refl) (lacks_decimal toy.hash (omega arith)))
    (no_end_append (codes "sha1 ") (encode_lower toy.digest) (no_end (codes "sha1 ") refl) (no_end_hex toy.digest is.digest_bytes))

-- ---- each value is read

number_at : (count first number : ℕ) → first ≤ number → number < first + count → first + count < 2 ^ 64 → number_among count first (decimal number) ≡ Some number
unfolding number_among
number_at zero first number low high fits = absurd (omega arith)
number_at (suc count) first number low high fits =
    elim (bytes_eq (decimal first) (decimal number)) as (λ v. v ≡ bytes_eq (decimal first) (decimal number)
    → cond v (Some first) (number_among count (first + 1) (decimal number)) ≡ Some number) [
      | true ↦ λ e. ap (λ n. Some n) (decimal_injective first number (omega arith) (omega arith) ((bytes_eq-Decides (decimal first) (decimal number)).0 (sym e)))
      | false ↦ λ e.
          let other : first ≢ number = λ same. false≢true (e ∙ (bytes_eq-Decides (decimal first) (decimal number)).1 (ap decimal same)) in
          number_at count (first + 1) number (omega arith) (omega arith) (omega arith)
    ] refl

hash_read : (number : ℕ) → number < 256 → hash_in (decimal number) ≡ Some number
hash_read number small = number_at 256 0 number (omega arith) (omega arith) (omega arith)

digest_read : (digest : List ℕ) → length digest ≡ 20 → IsBytes digest → id_in (encode_lower digest) ≡ Some digest
digest_read digest count bytes = ap id_from (decode_sized-encode_lower digest 20 count bytes)

lines_read : (signature title key hash digest : List ℕ) (toy : Toy) → parts_at 10 signature ≡ title ∷ (codes "key " ++ key) ∷ (codes "hash " ++ hash) ∷ (codes "sha1 " ++ digest) ∷ [] ∷ []
    → fingerprint_of key ≡ Some toy.key → hash_in hash ≡ Some toy.hash → id_in digest ≡ Some toy.digest → toy_in signature ≡ Some toy
lines_read signature title key hash digest toy parts one two three = rw (parts, one, two, three) refl

same_bytes : (xs : List ℕ) → bytes_eq xs xs ≡ true
same_bytes xs = (bytes_eq-Decides xs xs).1 refl

-- what is written is read
pub toy_read : (toy : Toy) → IsToy toy → toy_of (toy_bytes toy) ≡ Some toy
unfolding toy_of
toy_read toy is =
    ap (if_spelled (toy_bytes toy)) (lines_read (toy_bytes toy) (codes "TOY SIGNATURE") (encode_upper toy.key.0) (decimal toy.hash) (encode_lower toy.digest) toy (parts_of_toy toy is)
    (fingerprint_of-encode_upper toy.key is.key_size is.key_bytes) (hash_read toy.hash is.hash) (digest_read toy.digest is.digest_size is.digest_bytes))
    ∙ ap (λ b. cond b (Some toy) None) (same_bytes (toy_bytes toy))

spelled : (signature : List ℕ) (read : Option Toy) (toy : Toy) → if_spelled signature read ≡ Some toy → signature ≡ toy_bytes toy
spelled signature None toy h = cc
spelled signature (Some other) toy h =
    elim (bytes_eq (toy_bytes other) signature) as (λ v. v ≡ bytes_eq (toy_bytes other) signature → cond v (Some other) None ≡ Some toy → signature ≡ toy_bytes toy) [
      | true ↦ λ e k. let same : other ≡ toy = cc in sym ((bytes_eq-Decides (toy_bytes other) signature).0 (sym e)) ∙ ap toy_bytes same
      | false ↦ λ e k. cc
    ] refl h

-- ---- only signatures are read

number_below : (count first number : ℕ) (digits : List ℕ) → number_among count first digits ≡ Some number → number < first + count
unfolding number_among
number_below zero first number digits h = cc
number_below (suc count) first number digits h =
    elim (bytes_eq (decimal first) digits) as (λ v. cond v (Some first) (number_among count (first + 1) digits) ≡ Some number → number < first + suc count) [
      | true ↦ λ k. let same : first ≡ number = cc in omega arith
      | false ↦ λ k. let below = number_below count (first + 1) number digits k in omega arith
    ] h

-- 20 bytes
record IsTwenty (bytes : List ℕ) : Type 0 where
  pub count : length bytes ≡ 20
  pub each : IsBytes bytes

twenty : (digits bytes : List ℕ) → decode_sized digits 20 ≡ Ok bytes → IsTwenty bytes
twenty digits bytes h =
    let size : length digits ≡ 2 * 20 = decode_sized-ok digits 20 bytes h in
    let decoded = decode_of-ok digits bytes (sym (decode_sized-twice digits 20 size) ∙ h) in
    record { count = omega (arith, decoded.2); each = decoded.3 }

digest_fits : (digits digest : List ℕ) → id_in digits ≡ Some digest → IsTwenty digest
digest_fits digits digest h =
    elim (decode_sized digits 20) as (λ r. r ≡ decode_sized digits 20 → id_from r ≡ Some digest → IsTwenty digest) [
      | Ok bytes ↦ λ e k. let same : bytes ≡ digest = cc in subst IsTwenty same (twenty digits bytes (sym e))
      | Err fault ↦ λ e k. cc
    ] refl h

key_fits : (digits : List ℕ) (key : Fingerprint) → fingerprint_of digits ≡ Some key → IsTwenty key.0
key_fits digits key h =
    elim (decode_sized digits 20) as (λ r. r ≡ decode_sized digits 20 → fingerprint_from r ≡ Some key → IsTwenty key.0) [
      | Ok bytes ↦ λ e k. let same : record { 0 = bytes } ≡ key = cc in subst (λ (f : Fingerprint). IsTwenty f.0) same (twenty digits bytes (sym e))
      | Err fault ↦ λ e k. cc
    ] refl h

-- what a step found, and what follows it
pub record Found {A B : Type 0} (found : Option A) (next : A → Option B) (answer : B) : Type 0 where
  pub value : A
  pub is : found ≡ Some value
  pub then : next value ≡ Some answer

pub step : {A B : Type 0} (found : Option A) (next : A → Option B) (answer : B) → found >>= next ≡ Some answer → Found found next answer
step None next answer h = cc
step (Some x) next answer h = record { value = x; is = refl; then = h }

abbrev whole_toy : Fingerprint → ℕ → List ℕ → Option Toy
whole_toy key hash digest = Some (record { key = key; hash = hash; digest = digest })

abbrev in_digest_line : Fingerprint → ℕ → List ℕ → Option Toy
in_digest_line key hash text = id_in (drop 5 text) >>= whole_toy key hash

abbrev behind_hash : List (List ℕ) → Fingerprint → ℕ → Option Toy
behind_hash parts key hash = slice_get parts 3 >>= in_digest_line key hash

abbrev in_hash_line : List (List ℕ) → Fingerprint → List ℕ → Option Toy
in_hash_line parts key text = hash_in (drop 5 text) >>= behind_hash parts key

abbrev behind_key : List (List ℕ) → Fingerprint → Option Toy
behind_key parts key = slice_get parts 2 >>= in_hash_line parts key

abbrev in_key_line : List (List ℕ) → List ℕ → Option Toy
in_key_line parts text = fingerprint_of (drop 4 text) >>= behind_key parts

read_fits : (parts : List (List ℕ)) (toy : Toy) → slice_get parts 1 >>= in_key_line parts ≡ Some toy → IsToy toy
read_fits parts toy h =
    let one = step (slice_get parts 1) (in_key_line parts) toy h in
    let key = step (fingerprint_of (drop 4 one.value)) (behind_key parts) toy one.then in
    let two = step (slice_get parts 2) (in_hash_line parts key.value) toy key.then in
    let hash = step (hash_in (drop 5 two.value)) (behind_hash parts key.value) toy two.then in
    let three = step (slice_get parts 3) (in_digest_line key.value hash.value) toy hash.then in
    let digest = step (id_in (drop 5 three.value)) (whole_toy key.value hash.value) toy three.then in
    let same : record { key = key.value; hash = hash.value; digest = digest.value } ≡ toy = cc in
    let key_is = key_fits (drop 4 one.value) key.value key.is in
    let digest_is = digest_fits (drop 5 three.value) digest.value digest.is in
    subst IsToy same (record {
      key_size = key_is.count;
      key_bytes = key_is.each;
      hash = number_below 256 0 hash.value (drop 5 two.value) hash.is;
      digest_size = digest_is.count;
      digest_bytes = digest_is.each;
    })

if_read : (signature : List ℕ) (read : Option Toy) (toy : Toy) → if_spelled signature read ≡ Some toy → read ≡ Some toy
if_read signature None toy h = cc
if_read signature (Some other) toy h =
    elim (bytes_eq (toy_bytes other) signature) as (λ v. cond v (Some other) None ≡ Some toy → Some other ≡ Some toy) [
      | true ↦ λ k. k
      | false ↦ λ k. cc
    ] h

-- what is read is a signature
pub is_signature : (signature : List ℕ) (toy : Toy) → toy_of signature ≡ Some toy → IsSignature signature toy
unfolding toy_of
is_signature signature toy h = record {
  fit = read_fits (parts_at 10 signature) toy (if_read signature (toy_in signature) toy h);
  whole = spelled signature (toy_in signature) toy h;
}

pub signature_read : (signature : List ℕ) (toy : Toy) → IsSignature signature toy → toy_of signature ≡ Some toy
signature_read signature toy is = ap toy_of is.whole ∙ toy_read toy is.fit

-- ---- what is said

pub said_of : {E : Type 0} (result : Result (List ℕ) E) (keyring signature payload : List ℕ) → IfOk result (λ status. status ≡ status_of keyring signature payload)
    → (toy : Toy) → IsSignature signature toy → IfOk result (λ status. status ≡ status_under (packet_keys keyring) payload (Some toy))
said_of (Ok status) keyring signature payload is toy signed = is ∙ ap (status_under (packet_keys keyring) payload) (signature_read signature toy signed)
said_of (Err e) keyring signature payload is toy signed = tt

unsigned : (signature : List ℕ) (read : Option Toy) → read ≡ toy_of signature → ((toy : Toy) → IsSignature signature toy → ⊥) → read ≡ None
unsigned signature None e none = refl
unsigned signature (Some toy) e none = absurd (none toy (is_signature signature toy (sym e)))

pub said_of_none : {E : Type 0} (result : Result (List ℕ) E) (keyring signature payload : List ℕ) → IfOk result (λ status. status ≡ status_of keyring signature payload)
    → ((toy : Toy) → IsSignature signature toy → ⊥) → IfOk result (λ status. status ≡ no_data)
said_of_none (Ok status) keyring signature payload is none = is ∙ ap (status_under (packet_keys keyring) payload) (unsigned signature (toy_of signature) refl none)
said_of_none (Err e) keyring signature payload is none = tt
