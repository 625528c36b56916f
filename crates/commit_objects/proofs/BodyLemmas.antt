-- The further headers of a content that is cut into lines, and the first fault among them.
use Rattle.std.proofs.Common.{◌≡◌, ◌≢◌, ℕ, ◌+◌, ◌≤◌, Bool, true, false, cond, eqb, ◌&&◌, ◌||◌, Some, List, [], ◌∷◌, ◌++◌, refl, sym, ap, ap₂, ◌∙◌, arith, append_assoc, append-nil}
use Rattle.std.specs.Prelude.{count_by}
use Rattle.std.specs.List.{AllByRecursion, flat_map, list_any}
use Rattle.std.proofs.lemmas.Bool.{eqb-true, ne_eqb, or_parts}
use Rattle.std.proofs.lemmas.List.Sums.{sum_by-cons}
use Rattle.commit_objects.specs.declared.commit.CommitFail.TheVariants.{TwoSignatures, ForeignSignature}
use Rattle.commit_objects.specs.Form.{Form}
use Rattle.commit_objects.specs.Lines.{NoLineEnd, line, continued, Header, IsHeader, header_lines, is_signature, is_foreign}
use Rattle.commit_objects.specs.Reading.{Lines, put_byte, lines_of, Body, body_of, header_fault}
use Rattle.commit_objects.proofs.CutLineLemmas.{lines_line}

-- ---- the lines of headers

abbrev pub seen : List ℕ → Body × List ℕ
seen text = (body_of (lines_of text).whole, (lines_of text).left)

continued_seen : (text rest : List ℕ) → NoLineEnd text
    → seen (continued text ++ rest) ≡ (record { loose = text ∷ (seen rest).0.loose; headers = (seen rest).0.headers; message = (seen rest).0.message }, (seen rest).1)
continued_seen text rest one = ap (λ (ls : Lines). (body_of ls.whole, ls.left)) (lines_line (32 ∷ text) rest ((λ e. omega arith), one))

more_seen : (more : List (List ℕ)) (rest : List ℕ) → AllByRecursion NoLineEnd more
    → seen (flat_map continued more ++ rest) ≡ (record { loose = more ++ (seen rest).0.loose; headers = (seen rest).0.headers; message = (seen rest).0.message }, (seen rest).1)
more_seen [] rest h = refl
more_seen (text ∷ more) rest h =
    ap seen (append_assoc (continued text) (flat_map continued more) rest) ∙ continued_seen text (flat_map continued more ++ rest) h.0
    ∙ ap (λ (s : Body × List ℕ). (record { loose = text ∷ s.0.loose; headers = s.0.headers; message = s.0.message }, s.1)) (more_seen more rest h.1)

pub first_seen : (first rest : List ℕ) → NoLineEnd first → first ≢ [] → ((tail : List ℕ) → first ≢ 32 ∷ tail)
    → seen (line first ++ rest) ≡ (record { loose = []; headers = record { first = first; more = (seen rest).0.loose } ∷ (seen rest).0.headers; message = (seen rest).0.message }, (seen rest).1)
first_seen [] rest one some space = absurd (some refl)
first_seen (b ∷ first) rest one some space =
    ap (λ (ls : Lines). (body_of ls.whole, ls.left)) (lines_line (b ∷ first) rest one)
    ∙ ap (λ t. (
      cond t (record { loose = first ∷ (seen rest).0.loose; headers = (seen rest).0.headers; message = (seen rest).0.message })
          (record { loose = []; headers = record { first = b ∷ first; more = (seen rest).0.loose } ∷ (seen rest).0.headers; message = (seen rest).0.message }),
      (seen rest).1,
    ))
    (ne_eqb b 32 (λ e. space first (ap (λ c. c ∷ first) e)))

header_seen : (h : Header) (rest : List ℕ) → IsHeader h
    → seen (header_lines h ++ rest) ≡ (record { loose = []; headers = record { first = h.first; more = h.more ++ (seen rest).0.loose } ∷ (seen rest).0.headers; message = (seen rest).0.message }, (seen rest).1)
header_seen h rest is =
    ap seen (append_assoc (line h.first) (flat_map continued h.more) rest) ∙ first_seen h.first (flat_map continued h.more ++ rest) is.first is.not_empty is.no_space
    ∙ ap (λ (s : Body × List ℕ). (record { loose = []; headers = record { first = h.first; more = s.0.loose } ∷ s.0.headers; message = s.0.message }, s.1)) (more_seen h.more rest is.more)

pub headers_seen : (hs : List Header) (rest : List ℕ) → AllByRecursion IsHeader hs → (seen rest).0.loose ≡ []
    → seen (flat_map header_lines hs ++ rest) ≡ (record { loose = []; headers = hs ++ (seen rest).0.headers; message = (seen rest).0.message }, (seen rest).1)
headers_seen [] rest h loose = ap (λ (l : List (List ℕ)). (record { loose = l; headers = (seen rest).0.headers; message = (seen rest).0.message }, (seen rest).1)) loose
headers_seen (x ∷ hs) rest h loose =
    ap seen (append_assoc (header_lines x) (flat_map header_lines hs) rest) ∙ header_seen x (flat_map header_lines hs ++ rest) h.0
    ∙ ap (λ (s : Body × List ℕ). (record { loose = []; headers = record { first = x.first; more = x.more ++ s.0.loose } ∷ s.0.headers; message = s.0.message }, s.1)) (headers_seen hs rest h.1 loose)
    ∙ ap (λ (l : List (List ℕ)). (record { loose = []; headers = record { first = x.first; more = l } ∷ (hs ++ (seen rest).0.headers); message = (seen rest).0.message }, (seen rest).1)) (append-nil x.more)

-- ---- the lines together again

put_joined : (b : ℕ) (ls : List (List ℕ)) (left : List ℕ) → flat_map line (put_byte b ls left).whole ++ (put_byte b ls left).left ≡ b ∷ (flat_map line ls ++ left)
put_joined b [] left = refl
put_joined b (l ∷ ls) left = refl

pub joined : (text : List ℕ) → flat_map line (lines_of text).whole ++ (lines_of text).left ≡ text
joined [] = refl
joined (b ∷ text) = elim (eqb b 10) as (λ t. t ≡ eqb b 10
    → (let ls = cond t (record { whole = [] ∷ (lines_of text).whole; left = (lines_of text).left }) (put_byte b (lines_of text).whole (lines_of text).left) in flat_map line ls.whole ++ ls.left) ≡ b ∷ text) [
      | true ↦ λ e. ap (λ l. 10 ∷ l) (joined text) ∙ ap (λ c. c ∷ text) (sym (eqb-true b 10 (sym e)))
      | false ↦ λ e. put_joined b (lines_of text).whole (lines_of text).left ∙ ap (λ l. b ∷ l) (joined text)
    ] refl

-- ---- the first fault among headers

step_is : (form : Form) (signed : Bool) (h : Header) (hs : List Header) (s : Bool) → is_foreign form h ≡ false → is_signature form h ≡ s
    → header_fault form signed (h ∷ hs) ≡ cond (s && signed) (Some TwoSignatures) (header_fault form (s || signed) hs)
step_is form signed h hs s foreign own =
    ap₂ (λ f t. cond f (Some ForeignSignature) (cond (t && signed) (Some TwoSignatures) (header_fault form (t || signed) hs))) foreign own

pub over_plain : (form : Form) (signed : Bool) (hs rest : List Header) → list_any (is_foreign form) hs ≡ false → list_any (is_signature form) hs ≡ false
    → header_fault form signed (hs ++ rest) ≡ header_fault form signed rest
over_plain form signed [] rest foreign own = refl
over_plain form signed (h ∷ hs) rest foreign own =
    let f = or_parts (is_foreign form h) (list_any (is_foreign form) hs) foreign in
    let o = or_parts (is_signature form h) (list_any (is_signature form) hs) own in
    step_is form signed h (hs ++ rest) false f.0 o.0 ∙ over_plain form signed hs rest f.1 o.1

none_counted : (form : Form) (hs : List Header) → count_by (is_signature form) hs ≡ 0 → list_any (is_signature form) hs ≡ false
none_counted form [] h = refl
none_counted form (x ∷ hs) h = elim (is_signature form x) as (λ b. cond b 1 0 + count_by (is_signature form) hs ≡ 0 → (b || list_any (is_signature form) hs) ≡ false) [
  | true ↦ λ e. absurd (omega (arith, e))
  | false ↦ λ e. none_counted form hs (omega (arith, e))
] (sym (sum_by-cons (λ y. cond (is_signature form y) 1 0) x hs) ∙ h)

pub over_headers : (form : Form) (hs rest : List Header) → list_any (is_foreign form) hs ≡ false → count_by (is_signature form) hs ≤ 1
    → header_fault form false (hs ++ rest) ≡ header_fault form (list_any (is_signature form) hs) rest
over_headers form [] rest foreign once = refl
over_headers form (h ∷ hs) rest foreign once =
    let f = or_parts (is_foreign form h) (list_any (is_foreign form) hs) foreign in
    let count = sum_by-cons (λ y. cond (is_signature form y) 1 0) h hs in
    elim (is_signature form h) as (λ b. b ≡ is_signature form h → cond b 1 0 + count_by (is_signature form) hs ≤ 1 → header_fault form false ((h ∷ hs) ++ rest) ≡ header_fault form (b || list_any (is_signature form) hs) rest) [
      | true ↦ λ e n. step_is form false h (hs ++ rest) true f.0 (sym e) ∙ over_plain form true hs rest f.1 (none_counted form hs (omega (arith, n)))
      | false ↦ λ e n. step_is form false h (hs ++ rest) false f.0 (sym e) ∙ over_headers form hs rest f.1 (omega (arith, n))
    ] refl (omega (arith, count, once))
