-- What stands on a line.
use Rattle.std.proofs.Common.{IfSome, IfNone, ◌≡◌, ◌≢◌, ℕ, ◌<◌, ◌^◌, true, false, cond, nat_eq, nat_lt, ◌&&◌, Option, Some, None, Result, Ok, Err, List, ◌++◌, drop, length, refl, sym, ap, ◌∙◌, subst, arith, codes, decimal, bytes_eq}
use Rattle.std.specs.List.{starts_with}
use Rattle.std.specs.Option.{option_and_then}
use Rattle.std.specs.Str.Parse.{digits_value}
use Rattle.std.proofs.lemmas.Bool.{and_parts, and_from, ltb-true, lt-ltb}
use Rattle.std.proofs.lemmas.Bool.Decides.{Decides-eqb}
use Rattle.std.proofs.lemmas.Fmt.{decimal_is_IsNumeral}
use Rattle.std.proofs.lemmas.List.{drop_at, append_cancel_left}
use Rattle.std.proofs.lemmas.Option.{same_Some}
use Rattle.std.proofs.lemmas.Slice.Eq.{bytes_eq-Decides, starts_is}
use Rattle.hex.specs.Hex.{encode_lower, encode_upper, decode_sized}
use Rattle.hex.specs.declared.error.FromHexError.{FromHexError}
use Rattle.hex.proofs.HexLemmas.{decode_of-ok, decode_sized-ok, decode_sized-twice, decode_sized-encode_lower}
use Rattle.child_ports.specs.declared.fingerprint.Fingerprint.{Fingerprint}
use Rattle.child_ports.specs.Fingerprint.{fingerprint_of, fingerprint_from}
use Rattle.child_ports.proofs.FingerprintLemmas.{fingerprint_of-encode_upper}
use Rattle.object_frames.specs.Id.{IsId, id_in, id_from}
use Rattle.auth_cache.specs.Keys.{IsKey}
use Rattle.auth_cache.specs.Reading.{behind, number_of, written_id, lower_id, written_key, upper_key, version_on, id_on, key_on}
use Rattle.auth_cache.specs.Text.{id_text, key_text}

-- ---- behind a word

pub behind_yes : (word rest : List ℕ) → behind word (word ++ rest) ≡ Some rest
behind_yes word rest =
    ap (λ t. cond t (Some (drop (length word) (word ++ rest))) None) ((starts_is Decides-eqb (word ++ rest) word (starts_with nat_eq (word ++ rest) word) refl).1 rest refl)
    ∙ ap (λ (l : List ℕ). Some l) (drop_at word rest (length word) refl)

pub behind_is : (word l rest : List ℕ) → behind word l ≡ Some rest → l ≡ word ++ rest
behind_is word l rest is = elim (starts_with nat_eq l word) as (λ t. t ≡ starts_with nat_eq l word → cond t (Some (drop (length word) l)) None ≡ Some rest → l ≡ word ++ rest) [
  | true ↦ λ e s. (starts_is Decides-eqb l word (starts_with nat_eq l word) refl).0 (sym e) ∙ ap (λ d. word ++ d) (same_Some _ _ s)
  | false ↦ λ e s. cc
] refl is

pub behind_not : (word l : List ℕ) → ((rest : List ℕ) → l ≢ word ++ rest) → behind word l ≡ None
behind_not word l none = elim (behind word l) as (λ r. behind word l ≡ r → r ≡ None) [
  | None ↦ λ e. refl
  | Some rest ↦ λ e. absurd (none rest (behind_is word l rest e))
] refl

-- what is read behind a word
read_behind : {X : Type 0} (read : List ℕ → Option X) (word l : List ℕ) (x : X) → option_and_then read (behind word l) ≡ Some x → (rest : List ℕ) × (l ≡ word ++ rest) × (read rest ≡ Some x)
read_behind read word l x is = elim (behind word l) as (λ r. behind word l ≡ r → option_and_then read r ≡ Some x → (rest : List ℕ) × (l ≡ word ++ rest) × (read rest ≡ Some x)) [
  | None ↦ λ e s. cc
  | Some rest ↦ λ e s. (rest, behind_is word l rest e, s)
] refl is

reads_behind : {X : Type 0} (read : List ℕ → Option X) (word rest : List ℕ) (x : X) → read rest ≡ Some x → option_and_then read (behind word (word ++ rest)) ≡ Some x
reads_behind read word rest x is = ap (option_and_then read) (behind_yes word rest) ∙ is

-- ---- ids

id_in-IsId : (digits id : List ℕ) (r : Result (List ℕ) FromHexError) → decode_sized digits 20 ≡ r → id_from r ≡ Some id → IsId id
id_in-IsId digits id (Err e) is s = cc
id_in-IsId digits id (Ok x) is s =
    let long = decode_sized-ok digits 20 x is in
    let ok = decode_of-ok digits x (sym (decode_sized-twice digits 20 long) ∙ is) in
    let half = ok.2 in
    subst IsId (same_Some x id s) (record { count = omega (arith, half, long); bytes = ok.3 })

written_id_is : (digits id x : List ℕ) → written_id digits x ≡ Some id → (x ≡ id) × (digits ≡ encode_lower id)
written_id_is digits id x is = elim (bytes_eq (encode_lower x) digits) as (λ t. t ≡ bytes_eq (encode_lower x) digits → cond t (Some x) None ≡ Some id → (x ≡ id) × (digits ≡ encode_lower id)) [
  | true ↦ λ e s. let same = same_Some x id s in (same, sym ((bytes_eq-Decides (encode_lower x) digits).0 (sym e)) ∙ ap encode_lower same)
  | false ↦ λ e s. cc
] refl is

lower_id_is : (digits id : List ℕ) (r : Option (List ℕ)) → id_in digits ≡ r → option_and_then (written_id digits) r ≡ Some id → IsId id × (digits ≡ encode_lower id)
lower_id_is digits id None e is = cc
lower_id_is digits id (Some x) e is =
    let found = written_id_is digits id x is in
    (id_in-IsId digits id (decode_sized digits 20) refl (e ∙ ap (λ (i : List ℕ). Some i) found.0), found.1)

lower_id_yes : (id : List ℕ) → IsId id → lower_id (encode_lower id) ≡ Some id
lower_id_yes id is =
    ap (λ r. option_and_then (written_id (encode_lower id)) (id_from r)) (decode_sized-encode_lower id 20 is.count is.bytes)
    ∙ ap (λ t. cond t (Some id) None) ((bytes_eq-Decides (encode_lower id) (encode_lower id)).1 refl)

pub id_on_is : (word l id : List ℕ) → id_on word l ≡ Some id → IsId id × (l ≡ id_text word id)
id_on_is word l id is =
    let found = read_behind lower_id word l id is in
    let digits = lower_id_is found.0 id (id_in found.0) refl found.2 in
    (digits.0, found.1 ∙ ap (λ d. word ++ d) digits.1)

pub id_on_yes : (word id : List ℕ) → IsId id → id_on word (id_text word id) ≡ Some id
id_on_yes word id is = reads_behind lower_id word (encode_lower id) id (lower_id_yes id is)

-- ---- fingerprints

key_of-IsKey : (digits : List ℕ) (key : Fingerprint) (r : Result (List ℕ) FromHexError) → decode_sized digits 20 ≡ r → fingerprint_from r ≡ Some key → IsKey key
key_of-IsKey digits key (Err e) is s = cc
key_of-IsKey digits key (Ok x) is s =
    let long = decode_sized-ok digits 20 x is in
    let ok = decode_of-ok digits x (sym (decode_sized-twice digits 20 long) ∙ is) in
    let half = ok.2 in
    subst IsKey (same_Some (record { 0 = x }) key s) (record { count = omega (arith, half, long); bytes = ok.3 })

written_key_is : (digits : List ℕ) (key x : Fingerprint) → written_key digits x ≡ Some key → (x ≡ key) × (digits ≡ encode_upper key.0)
written_key_is digits key x is = elim (bytes_eq (encode_upper x.0) digits) as (λ t. t ≡ bytes_eq (encode_upper x.0) digits → cond t (Some x) None ≡ Some key → (x ≡ key) × (digits ≡ encode_upper key.0)) [
  | true ↦ λ e s. let same = same_Some x key s in (same, sym ((bytes_eq-Decides (encode_upper x.0) digits).0 (sym e)) ∙ ap (λ (k : Fingerprint). encode_upper k.0) same)
  | false ↦ λ e s. cc
] refl is

upper_key_is : (digits : List ℕ) (key : Fingerprint) (r : Option Fingerprint) → fingerprint_of digits ≡ r → option_and_then (written_key digits) r ≡ Some key → IsKey key × (digits ≡ encode_upper key.0)
upper_key_is digits key None e is = cc
upper_key_is digits key (Some x) e is =
    let found = written_key_is digits key x is in
    (key_of-IsKey digits key (decode_sized digits 20) refl (e ∙ ap (λ (k : Fingerprint). Some k) found.0), found.1)

upper_key_yes : (key : Fingerprint) → IsKey key → upper_key (encode_upper key.0) ≡ Some key
upper_key_yes key is =
    ap (option_and_then (written_key (encode_upper key.0))) (fingerprint_of-encode_upper key is.count is.bytes)
    ∙ ap (λ t. cond t (Some key) None) ((bytes_eq-Decides (encode_upper key.0) (encode_upper key.0)).1 refl)

pub key_on_is : (word l : List ℕ) (key : Fingerprint) → key_on word l ≡ Some key → IsKey key × (l ≡ key_text word key)
key_on_is word l key is =
    let found = read_behind upper_key word l key is in
    let digits = upper_key_is found.0 key (fingerprint_of found.0) refl found.2 in
    (digits.0, found.1 ∙ ap (λ d. word ++ d) digits.1)

pub key_on_yes : (word : List ℕ) (key : Fingerprint) → IsKey key → key_on word (key_text word key) ≡ Some key
key_on_yes word key is = reads_behind upper_key word (encode_upper key.0) key (upper_key_yes key is)

-- ---- numbers

number_is : (digits : List ℕ) (n : ℕ) → number_of digits ≡ Some n → (n < 2 ^ 32) × (digits ≡ decimal n)
number_is digits n is = elim (bytes_eq (decimal (digits_value 10 digits)) digits && nat_lt (digits_value 10 digits) (2 ^ 32)) as
    (λ t. t ≡ (bytes_eq (decimal (digits_value 10 digits)) digits && nat_lt (digits_value 10 digits) (2 ^ 32)) → cond t (Some (digits_value 10 digits)) None ≡ Some n → (n < 2 ^ 32) × (digits ≡ decimal n)) [
      | true ↦ λ e s.
          let both = and_parts (bytes_eq (decimal (digits_value 10 digits)) digits) (nat_lt (digits_value 10 digits) (2 ^ 32)) (sym e) in
          let same = same_Some (digits_value 10 digits) n s in
          let P : ℕ → Type 0 = λ m. (m < 2 ^ 32) × (digits ≡ decimal m) in
          subst P same (ltb-true _ _ both.1, sym ((bytes_eq-Decides (decimal (digits_value 10 digits)) digits).0 both.0))
      | false ↦ λ e s. cc
    ] refl is

number_yes : (n : ℕ) → n < 2 ^ 32 → number_of (decimal n) ≡ Some n
number_yes n lt =
    let value : digits_value 10 (decimal n) ≡ n = (decimal_is_IsNumeral n (omega arith)).1 in
    ap (λ m. cond (bytes_eq (decimal m) (decimal n) && nat_lt m (2 ^ 32)) (Some m) None) value
    ∙ ap (λ t. cond t (Some n) None) (and_from (bytes_eq (decimal n) (decimal n)) (nat_lt n (2 ^ 32)) ((bytes_eq-Decides (decimal n) (decimal n)).1 refl) (lt-ltb n (2 ^ 32) lt))

pub version_on_is : (l : List ℕ) (n : ℕ) → version_on l ≡ Some n → (n < 2 ^ 32) × (l ≡ codes "guix-auth-cache " ++ decimal n)
version_on_is l n is =
    let found = read_behind number_of (codes "guix-auth-cache ") l n is in
    let digits = number_is found.0 n found.2 in
    (digits.0, found.1 ∙ ap (λ d. codes "guix-auth-cache " ++ d) digits.1)

pub version_on_yes : (n : ℕ) → n < 2 ^ 32 → version_on (codes "guix-auth-cache " ++ decimal n) ≡ Some n
version_on_yes n lt = reads_behind number_of (codes "guix-auth-cache ") (decimal n) n (number_yes n lt)

-- ---- as the code reads them

pub id_answer : (word l rest : List ℕ) (r : Option (List ℕ)) → l ≡ word ++ rest → IfSome r (λ id. IsId id × (rest ≡ encode_lower id)) → IfNone r ((id : List ℕ) → IsId id → rest ≢ encode_lower id) → r ≡ id_on word l
id_answer word l rest (Some id) is some none = sym (ap (id_on word) (is ∙ ap (λ d. word ++ d) some.1) ∙ id_on_yes word id some.0)
id_answer word l rest None is some none = elim (id_on word l) as (λ r. id_on word l ≡ r → None ≡ r) [
  | None ↦ λ e. refl
  | Some id ↦ λ e.
      let found = id_on_is word l id e in
      absurd (none id found.0 (append_cancel_left word rest (encode_lower id) (sym is ∙ found.1)))
] refl

pub version_answer : (l rest : List ℕ) (n : ℕ) → l ≡ codes "guix-auth-cache " ++ rest → rest ≡ decimal n → n < 2 ^ 32 → version_on l ≡ Some n
version_answer l rest n is digits lt = ap version_on (is ∙ ap (λ d. codes "guix-auth-cache " ++ d) digits) ∙ version_on_yes n lt

pub version_none : (l rest : List ℕ) → l ≡ codes "guix-auth-cache " ++ rest → ((n : ℕ) → n < 2 ^ 32 → rest ≢ decimal n) → version_on l ≡ None
version_none l rest is none = elim (version_on l) as (λ r. version_on l ≡ r → r ≡ None) [
  | None ↦ λ e. refl
  | Some n ↦ λ e.
      let found = version_on_is l n e in
      absurd (none n found.0 (append_cancel_left (codes "guix-auth-cache ") rest (decimal n) (sym is ∙ found.1)))
] refl

pub nothing_behind : {X : Type 0} (read : List ℕ → Option X) (word l : List ℕ) → ((rest : List ℕ) → l ≢ word ++ rest) → option_and_then read (behind word l) ≡ None
nothing_behind read word l none = ap (option_and_then read) (behind_not word l none)

-- the key that a text of digits has, and that writes them
pub key_answer : (word l rest : List ℕ) (key : Fingerprint) → l ≡ word ++ rest → fingerprint_of rest ≡ Some key → encode_upper key.0 ≡ rest → key_on word l ≡ Some key
key_answer word l rest key is found written =
    ap (key_on word) is ∙ ap (option_and_then upper_key) (behind_yes word rest) ∙ ap (option_and_then (written_key rest)) found
    ∙ ap (λ t. cond t (Some key) None) ((bytes_eq-Decides (encode_upper key.0) rest).1 written)

pub key_other : (word l rest : List ℕ) (key : Fingerprint) → l ≡ word ++ rest → fingerprint_of rest ≡ Some key → bytes_eq (encode_upper key.0) rest ≡ false → key_on word l ≡ None
key_other word l rest key is found written =
    ap (key_on word) is ∙ ap (option_and_then upper_key) (behind_yes word rest) ∙ ap (option_and_then (written_key rest)) found
    ∙ ap (λ t. cond t (Some key) None) written

pub key_none : (word l rest : List ℕ) → l ≡ word ++ rest → fingerprint_of rest ≡ None → key_on word l ≡ None
key_none word l rest is found =
    ap (key_on word) is ∙ ap (option_and_then upper_key) (behind_yes word rest) ∙ ap (option_and_then (written_key rest)) found
