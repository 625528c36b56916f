-- Further headers, one after another.
use Rattle.std.proofs.Common.{◌≡◌, ◌≢◌, inl, inr, ℕ, ◌+◌, ◌-◌, ◌≤◌, ◌<◌, Bool, true, false, cond, ◌||◌, Option, Some, None, is_some, MatchOption, Bor, List, [], ◌∷◌, ◌++◌, take, drop, length, refl, sym, ap, ◌∙◌, arith, append_assoc, length-append}
use Rattle.std.specs.Prelude.{nat_eq, count_by}
use Rattle.std.specs.List.{flat_map, list_any, starts_with}
use Rattle.std.proofs.lemmas.Bool.{false≢true, false_from_ne_true, or_parts, cases_Bool}
use Rattle.std.proofs.lemmas.Bool.Decides.{Decides-eqb}
use Rattle.std.proofs.lemmas.List.{take_at, flat_map_more}
use Rattle.std.proofs.lemmas.List.Folds.{list_any-append}
use Rattle.std.proofs.lemmas.List.Sums.{sum_by-cons, sum_by-append}
use Rattle.std.proofs.lemmas.List.Concat.{flat_map-append}
use Rattle.std.proofs.lemmas.Slice.Eq.{starts_is}
use Rattle.commit_objects.specs.Form.{Form, sha1_form}
use Rattle.commit_objects.specs.Lines.{NoLineEnd, line, continued, Header, IsHeader, header_lines, is_signature, is_foreign}
use Rattle.commit_objects.specs.Commit.{AreHeaders}
use Rattle.commit_objects.specs.Faults.{BeginsWith, IsCutShort}
use Rattle.commit_objects.specs.Headers.{AreContinued, EndsContinued, ArePlain, UnsignedTo, SignedTo, HeadersMeet}
use Rattle.std.proofs.lemmas.Option.{same_Some}
use Rattle.commit_objects.proofs.LineLemmas.{no_end, all_append, begins_not}

-- each word stands in a line, begins no continuation line and no empty one, and neither begins the other
pub record WordsFit (form : Form) : Type 0 where
  pub own_line : NoLineEnd form.own
  pub foreign_line : NoLineEnd form.foreign
  pub own_space : (rest more : List ℕ) → form.own ++ rest ≢ 32 ∷ more
  pub foreign_space : (rest more : List ℕ) → form.foreign ++ rest ≢ 32 ∷ more
  pub own_some : (rest : List ℕ) → form.own ++ rest ≢ []
  pub foreign_some : (rest : List ℕ) → form.foreign ++ rest ≢ []
  pub apart : (rest more : List ℕ) → form.own ++ rest ≢ form.foreign ++ more

pub sha1_words : WordsFit sha1_form
sha1_words = record {
  own_line = no_end sha1_form.own refl;
  foreign_line = no_end sha1_form.foreign refl;
  own_space = λ rest more e. cc;
  foreign_space = λ rest more e. cc;
  own_some = λ rest e. cc;
  foreign_some = λ rest e. cc;
  apart = λ rest more e. cc;
}

-- ---- tests of a header's first line

pub begins_true : (word name : List ℕ) → BeginsWith word name → starts_with nat_eq name word ≡ true
begins_true word name begins = (starts_is Decides-eqb name word (starts_with nat_eq name word) refl).1 begins.0 begins.1

pub begins_is : (word name : List ℕ) → starts_with nat_eq name word ≡ true → name ≡ word ++ drop (length word) name
begins_is word name h = (starts_is Decides-eqb name word (starts_with nat_eq name word) refl).0 h

pub begins_false : (word name : List ℕ) → ((rest : List ℕ) → name ≢ word ++ rest) → starts_with nat_eq name word ≡ false
begins_false word name none = false_from_ne_true _ (λ h. none (drop (length word) name) ((starts_is Decides-eqb name word (starts_with nat_eq name word) refl).0 h))

any_more : (p : Header → Bool) (hs : List Header) (h : Header) (b : Bool) → list_any p hs ≡ b → list_any p (hs ++ h ∷ []) ≡ (b || (p h || false))
any_more p hs h b is = list_any-append p hs (h ∷ []) ∙ ap (λ c. c || (p h || false)) is

pub none_more : (p : Header → Bool) (hs : List Header) (h : Header) → list_any p hs ≡ false → p h ≡ false → list_any p (hs ++ h ∷ []) ≡ false
none_more p hs h before now = any_more p hs h false before ∙ ap (λ c. c || false) now

-- ---- a header after others

lines_more : (hs : List Header) (h : Header) (text rest next : List ℕ) → text ≡ flat_map header_lines hs ++ rest → rest ≡ header_lines h ++ next → text ≡ flat_map header_lines (hs ++ h ∷ []) ++ next
lines_more hs h text rest next is cut =
    is ∙ ap (λ l. flat_map header_lines hs ++ l) cut ∙ sym (append_assoc (flat_map header_lines hs) (header_lines h) next) ∙ ap (λ l. l ++ next) (flat_map_more header_lines [] hs h)

plain_more : (form : Form) (hs : List Header) (h : Header) → ArePlain form hs → IsHeader h → is_foreign form h ≡ false → is_signature form h ≡ false → ArePlain form (hs ++ h ∷ [])
plain_more form hs h plain is foreign own = record {
  each = all_append IsHeader hs (h ∷ []) plain.each (is, tt);
  none_foreign = none_more (is_foreign form) hs h plain.none_foreign foreign;
  none_signed = none_more (is_signature form) hs h plain.none_signed own;
}

-- a header as the code cuts it: its first line, its continuation lines and what follows
pub record Cut (rest name more next : List ℕ) : Type 0 where
  pub one_line : NoLineEnd name
  pub continued : AreContinued more
  pub whole : rest ≡ name ++ 10 ∷ (more ++ next)
  pub not_empty : (text : List ℕ) → rest ≢ 10 ∷ text
  pub no_space : (text : List ℕ) → rest ≢ 32 ∷ text

abbrev pub header_of : List ℕ → {more : List ℕ} → AreContinued more → Header
header_of name lines = record { first = name; more = lines.0 }

pub cut_lines : (rest name more next : List ℕ) (cut : Cut rest name more next) → rest ≡ header_lines (header_of name cut.continued) ++ next
cut_lines rest name more next cut =
    cut.whole ∙ ap (λ l. name ++ 10 ∷ (l ++ next)) cut.continued.2 ∙ sym (append_assoc name (10 ∷ flat_map continued cut.continued.0) next)
    ∙ ap (λ l. l ++ next) (sym (append_assoc name (10 ∷ []) (flat_map continued cut.continued.0)))

pub cut_header : (rest name more next : List ℕ) (cut : Cut rest name more next) → IsHeader (header_of name cut.continued)
cut_header rest name more next cut = record {
  first = cut.one_line;
  not_empty = λ e. cut.not_empty (more ++ next) (cut.whole ∙ ap (λ l. l ++ 10 ∷ (more ++ next)) e);
  no_space = λ tail e. cut.no_space (tail ++ 10 ∷ (more ++ next)) (cut.whole ∙ ap (λ l. l ++ 10 ∷ (more ++ next)) e);
  more = cut.continued.1;
}

pub unsigned_none : (form : Form) (text : List ℕ) → UnsignedTo form text text
unsigned_none form text = record { headers = []; plain = record { each = tt; none_foreign = refl; none_signed = refl }; whole = refl }

pub unsigned_more : (form : Form) (text rest name more next : List ℕ) → UnsignedTo form text rest → Cut rest name more next
    → ((tail : List ℕ) → name ≢ form.foreign ++ tail) → ((tail : List ℕ) → name ≢ form.own ++ tail) → UnsignedTo form text next
unsigned_more form text rest name more next so_far cut foreign own =
    let h = header_of name cut.continued in
    record {
      headers = so_far.headers ++ h ∷ [];
      plain = plain_more form so_far.headers h so_far.plain (cut_header rest name more next cut) (begins_false form.foreign name foreign) (begins_false form.own name own);
      whole = lines_more so_far.headers h text rest next so_far.whole (cut_lines rest name more next cut);
    }

-- ---- the signature, and headers after it

pub signed_first : (form : Form) (fit : WordsFit form) (text rest value more next : List ℕ) → UnsignedTo form text rest → Cut rest (form.own ++ value) more next
    → ((tail : List ℕ) → form.own ++ value ≢ form.foreign ++ tail) → SignedTo form text (take (length text - length rest) text) value more next next
signed_first form fit text rest value more next so_far cut foreign =
    let front = flat_map header_lines so_far.headers in
    let long : length front ≡ length text - length rest = omega (arith, ap length so_far.whole, length-append front rest) in
    let before : take (length text - length rest) text ≡ front = ap (take (length text - length rest)) so_far.whole ∙ take_at front rest (length text - length rest) long in
    record {
      front = so_far.headers;
      back = [];
      front_plain = so_far.plain;
      back_plain = record { each = tt; none_foreign = refl; none_signed = refl };
      one_line = cut.one_line;
      not_foreign = foreign;
      continued = cut.continued;
      before = before;
      after = refl;
      whole = so_far.whole ∙ ap (λ l. l ++ rest) (sym before)
          ∙ ap (λ l. take (length text - length rest) text ++ l) (cut.whole ∙ sym (append_assoc (form.own ++ value) (10 ∷ []) (more ++ next)) ∙ sym (append_assoc (line (form.own ++ value)) more next))
          ∙ sym (append_assoc (take (length text - length rest) text) (line (form.own ++ value) ++ more) next);
    }

pub signed_more : (form : Form) (text lead value signed trail rest name more next : List ℕ) → SignedTo form text lead value signed trail rest → Cut rest name more next
    → ((tail : List ℕ) → name ≢ form.foreign ++ tail) → ((tail : List ℕ) → name ≢ form.own ++ tail) → SignedTo form text lead value signed trail next
signed_more form text lead value signed trail rest name more next so_far cut foreign own =
    let h = header_of name cut.continued in
    record {
      front = so_far.front;
      back = so_far.back ++ h ∷ [];
      front_plain = so_far.front_plain;
      back_plain = plain_more form so_far.back h so_far.back_plain (cut_header rest name more next cut) (begins_false form.foreign name foreign) (begins_false form.own name own);
      one_line = so_far.one_line;
      not_foreign = so_far.not_foreign;
      continued = so_far.continued;
      before = so_far.before;
      after = lines_more so_far.back h trail rest next so_far.after (cut_lines rest name more next cut);
      whole = so_far.whole;
    }

-- ---- headers up to the rest, with a signature among them or not

pub record Reached (form : Form) (text rest : List ℕ) (signed : Bool) : Type 0 where
  pub headers : List Header
  pub fit : AreHeaders form headers
  pub signed_is : list_any (is_signature form) headers ≡ signed
  pub whole : text ≡ flat_map header_lines headers ++ rest

pub count_none : {X : Type 0} (p : X → Bool) (xs : List X) → list_any p xs ≡ false → count_by p xs ≡ 0
count_none p [] h = refl
count_none p (x ∷ xs) h =
    let parts = or_parts (p x) (list_any p xs) h in
    sum_by-cons (λ y. cond (p y) 1 0) x xs ∙ ap (λ b. cond b 1 0 + count_by p xs) parts.0 ∙ ap (λ n. 0 + n) (count_none p xs parts.1)

pub count_more : (p : Header → Bool) (hs : List Header) (h : Header) → count_by p (hs ++ h ∷ []) ≡ count_by p hs + cond (p h) 1 0
count_more p hs h = sum_by-append (λ y. cond (p y) 1 0) hs (h ∷ []) ∙ ap (λ n. count_by p hs + n) (sum_by-cons (λ y. cond (p y) 1 0) h [] ∙ omega arith)

one_at_most : (b : Bool) → cond b 1 0 ≤ 1
one_at_most true = omega arith
one_at_most false = omega arith

not_nil : (hs : List Header) (h : Header) → hs ++ h ∷ [] ≢ []
not_nil [] h e = cc
not_nil (x ∷ hs) h e = cc

pub reached_unsigned : (form : Form) (text rest : List ℕ) → UnsignedTo form text rest → Reached form text rest false
reached_unsigned form text rest so_far = record {
  headers = so_far.headers;
  fit = record { each = so_far.plain.each; none_foreign = so_far.plain.none_foreign; at_most_one = omega (arith, count_none (is_signature form) so_far.headers so_far.plain.none_signed) };
  signed_is = so_far.plain.none_signed;
  whole = so_far.whole;
}

pub plain_fit : (form : Form) (headers : List Header) → ArePlain form headers → AreHeaders form headers
plain_fit form headers plain = record { each = plain.each; none_foreign = plain.none_foreign; at_most_one = omega (arith, count_none (is_signature form) headers plain.none_signed) }

module _ (form : Form) (fit : WordsFit form) (text lead value more trail rest : List ℕ) (so_far : SignedTo form text lead value more trail rest) where
  abbrev pub signed_header : Header
  signed_header = record { first = form.own ++ value; more = so_far.continued.0 }

  abbrev pub signed_headers : List Header
  signed_headers = so_far.front ++ signed_header ∷ [] ++ so_far.back

  pub own_header : is_signature form signed_header ≡ true
  own_header = begins_true form.own (form.own ++ value) (value, refl)

  pub signed_any : list_any (is_signature form) signed_headers ≡ true
  signed_any = list_any-append (is_signature form) (so_far.front ++ signed_header ∷ []) so_far.back
      ∙ ap (λ b. b || list_any (is_signature form) so_far.back) (any_more (is_signature form) so_far.front signed_header false so_far.front_plain.none_signed ∙ ap (λ b. b || false) own_header)

  pub signed_fit : AreHeaders form signed_headers
  signed_fit =
      let h = signed_header in
      let front = so_far.front in
      let back = so_far.back in
      let foreign : is_foreign form h ≡ false = begins_false form.foreign (form.own ++ value) so_far.not_foreign in
      let is_header : IsHeader h = record { first = so_far.one_line; not_empty = fit.own_some value; no_space = fit.own_space value; more = so_far.continued.1 } in
      let count : count_by (is_signature form) (front ++ h ∷ []) ≡ 1 = count_more (is_signature form) front h ∙ ap (λ n. n + cond (is_signature form h) 1 0) (count_none (is_signature form) front so_far.front_plain.none_signed) ∙ ap (λ b. 0 + cond b 1 0) own_header in
      record {
        each = all_append IsHeader (front ++ h ∷ []) back (all_append IsHeader front (h ∷ []) so_far.front_plain.each (is_header, tt)) so_far.back_plain.each;
        none_foreign = list_any-append (is_foreign form) (front ++ h ∷ []) back ∙ ap (λ b. b || list_any (is_foreign form) back) (none_more (is_foreign form) front h so_far.front_plain.none_foreign foreign) ∙ so_far.back_plain.none_foreign;
        at_most_one = omega (arith, sum_by-append (λ y. cond (is_signature form y) 1 0) (front ++ h ∷ []) back, count, count_none (is_signature form) back so_far.back_plain.none_signed);
      }

  pub signed_whole : text ≡ flat_map header_lines signed_headers ++ rest
  signed_whole =
      let h = signed_header in
      let front = so_far.front in
      let back = so_far.back in
      let upto : text ≡ flat_map header_lines (front ++ h ∷ []) ++ trail =
      lines_more front h text (header_lines h ++ trail) trail
      (so_far.whole ∙ append_assoc lead (line (form.own ++ value) ++ more) trail ∙ ap (λ l. l ++ (line (form.own ++ value) ++ more ++ trail)) so_far.before
      ∙ ap (λ l. flat_map header_lines front ++ (line (form.own ++ value) ++ l ++ trail)) so_far.continued.2) refl in
      upto ∙ ap (λ l. flat_map header_lines (front ++ h ∷ []) ++ l) so_far.after ∙ sym (append_assoc (flat_map header_lines (front ++ h ∷ [])) (flat_map header_lines back) rest)
      ∙ ap (λ l. l ++ rest) (sym (flat_map-append header_lines (front ++ h ∷ []) back))

  pub reached_signed : Reached form text rest true
  reached_signed = record { headers = signed_headers; fit = signed_fit; signed_is = signed_any; whole = signed_whole }

-- one header more
pub reached_more : (form : Form) (text rest name more next : List ℕ) (signed : Bool) → Reached form text rest signed → Cut rest name more next
    → ((tail : List ℕ) → name ≢ form.foreign ++ tail) → (BeginsWith form.own name → signed ≡ false) → (headers : List Header) × (headers ≢ []) × AreHeaders form headers × (text ≡ flat_map header_lines headers ++ next)
reached_more form text rest name more next signed so_far cut foreign once =
    let h = header_of name cut.continued in
    let hs = so_far.headers in (
      hs ++ h ∷ [],
      not_nil hs h,
      record {
        each = all_append IsHeader hs (h ∷ []) so_far.fit.each (cut_header rest name more next cut, tt);
        none_foreign = none_more (is_foreign form) hs h so_far.fit.none_foreign (begins_false form.foreign name foreign);
        at_most_one = elim (cases_Bool (is_signature form h)) [
          | inl own ↦
              let begins : BeginsWith form.own name = (drop (length form.own) name, (starts_is Decides-eqb name form.own (starts_with nat_eq name form.own) refl).0 own) in
              omega (arith, count_more (is_signature form) hs h, one_at_most (is_signature form h), count_none (is_signature form) hs (so_far.signed_is ∙ once begins))
          | inr other ↦ omega (arith, count_more (is_signature form) hs h, ap {B = ℕ} (λ b. cond b 1 0) other, so_far.fit.at_most_one)
        ];
      },
      lines_more hs h text rest next so_far.whole (cut_lines rest name more next cut),
    )

-- ---- faults

pub cut_short : (form : Form) (text rest : List ℕ) (signed : Bool) → Reached form text rest signed → NoLineEnd rest → (BeginsWith (32 ∷ []) rest → ⊥)
    → (signed ≡ true → (tail : List ℕ) → rest ≢ form.own ++ tail) → ((tail : List ℕ) → rest ≢ form.foreign ++ tail)
    → (headers : List Header) × HeadersMeet form text headers (IsCutShort form headers)
cut_short form text rest signed so_far no_end no_space no_own no_foreign = (
  so_far.headers,
  record {
    rest = rest;
    fit = so_far.fit;
    whole = so_far.whole;
    stands = record {
      no_end = no_end;
      no_space = λ _. no_space;
      no_second = λ any begins. no_own (sym so_far.signed_is ∙ any) begins.0 begins.1;
      no_foreign = λ begins. no_foreign begins.0 begins.1;
    };
  },
)

-- cut short among continuation lines
pub cut_short_in : (form : Form) (fit : WordsFit form) (text rest name lines : List ℕ) (signed : Bool) → Reached form text rest signed
    → (NoLineEnd name) → rest ≡ name ++ 10 ∷ lines → EndsContinued lines → ((tail : List ℕ) → rest ≢ 10 ∷ tail) → ((tail : List ℕ) → rest ≢ 32 ∷ tail)
    → ((tail : List ℕ) → name ≢ form.foreign ++ tail) → (BeginsWith form.own name → signed ≡ false)
    → (headers : List Header) × HeadersMeet form text headers (IsCutShort form headers)
cut_short_in form fit text rest name lines signed so_far one_line is ends not_empty no_space foreign once =
    let more = ends.0 in
    let last = ends.1 in
    let cut : Cut rest name more last = record { one_line = one_line; continued = ends.2; whole = is ∙ ap (λ l. name ++ 10 ∷ l) ends.3; not_empty = not_empty; no_space = no_space } in
    let got = reached_more form text rest name more last signed so_far cut foreign once in (
      got.0,
      record {
        rest = last;
        fit = got.2;
        whole = got.3;
        stands = record {
          no_end = ends.4;
          no_space = λ none. absurd (got.1 none);
          no_second = λ any begins. fit.own_space begins.0 ends.5.0 (sym begins.1 ∙ ends.5.1);
          no_foreign = λ begins. fit.foreign_space begins.0 ends.5.0 (sym begins.1 ∙ ends.5.1);
        };
      },
    )

-- ---- by whether a signature was seen

module _ {X : Type 0} (lead value more trail : X → List ℕ) (form : Form) (text : List ℕ) where
  abbrev pub SoFar : Option X → List ℕ → Type 0
  SoFar signed rest = MatchOption signed (UnsignedTo form text rest) (λ s. SignedTo form text (lead s) (value s) (more s) (trail s) rest)

  pub reached_by : WordsFit form → (signed : Option X) (rest : List ℕ) → SoFar signed rest → Reached form text rest (is_some signed)
  reached_by fit (Some s) rest so_far = reached_signed form fit text (lead s) (value s) (more s) (trail s) rest so_far
  reached_by fit None rest so_far = reached_unsigned form text rest so_far

  pub more_by : (signed : Option X) (rest name continued next : List ℕ) → SoFar signed rest → Cut rest name continued next
      → ((tail : List ℕ) → name ≢ form.foreign ++ tail) → ((tail : List ℕ) → name ≢ form.own ++ tail) → SoFar signed next
  more_by (Some s) rest name continued next so_far cut foreign own = signed_more form text (lead s) (value s) (more s) (trail s) rest name continued next so_far cut foreign own
  more_by None rest name continued next so_far cut foreign own = unsigned_more form text rest name continued next so_far cut foreign own

  pub unsigned_by : (signed : Option X) (rest : List ℕ) → SoFar signed rest → is_some signed ≡ false → UnsignedTo form text rest
  unsigned_by (Some s) rest so_far e = absurd (false≢true (sym e))
  unsigned_by None rest so_far e = so_far

-- a word at the front of the first line stands at the front of the text
pub begins_line : (r : Option (Bor (List ℕ))) (text first word : List ℕ) → MatchOption r (text ≡ first) (λ rest. text ≡ first ++ 10 ∷ rest.now) → BeginsWith word first → BeginsWith word text
begins_line (Some x) text first word h begins = (begins.0 ++ 10 ∷ x.now, h ∙ ap (λ l. l ++ 10 ∷ x.now) begins.1 ∙ append_assoc word begins.0 (10 ∷ x.now))
begins_line None text first word h begins = (begins.0, h ∙ begins.1)

pub none_after : (r : Option (Bor (List ℕ))) (text word : List ℕ) → MatchOption r ((rest : List ℕ) → text ≢ word ++ rest) (λ x. text ≡ word ++ x.now) → r ≡ None → (rest : List ℕ) → text ≢ word ++ rest
none_after r text word h e = begins_not r text word h (ap is_some e)

pub some_after : (r : Option (Bor (List ℕ))) (x : Bor (List ℕ)) (text word : List ℕ) → MatchOption r ((rest : List ℕ) → text ≢ word ++ rest) (λ y. text ≡ word ++ y.now) → r ≡ Some x → text ≡ word ++ x.now
some_after (Some y) x text word h e = h ∙ ap (λ l. word ++ l) (ap (λ (z : Bor (List ℕ)). z.now) (same_Some y x e))
some_after None x text word h e = cc

pub some_line : (r : Option (Bor (List ℕ))) (x : Bor (List ℕ)) (text first : List ℕ) → MatchOption r (text ≡ first) (λ rest. text ≡ first ++ 10 ∷ rest.now) → r ≡ Some x → text ≡ first ++ 10 ∷ x.now
some_line (Some y) x text first h e = h ∙ ap (λ l. first ++ 10 ∷ l) (ap (λ (z : Bor (List ℕ)). z.now) (same_Some y x e))
some_line None x text first h e = cc

pub none_line : (r : Option (Bor (List ℕ))) (text first : List ℕ) → MatchOption r (text ≡ first) (λ rest. text ≡ first ++ 10 ∷ rest.now) → r ≡ None → text ≡ first
none_line (Some y) text first h e = cc
none_line None text first h e = h

pub shorter : (rest name more next lines : List ℕ) → rest ≡ name ++ 10 ∷ lines → lines ≡ more ++ next → length next < length rest
shorter rest name more next lines is cut = omega (arith, ap length is, length-append name (10 ∷ lines), ap length cut, length-append more next)
