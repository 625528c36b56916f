-- What is written is the same commit, signed.
use Rattle.std.proofs.Common.{◌≡◌, ◌≢◌, ℕ, Bool, true, false, cond, not, ◌||◌, Option, Some, None, Result, Ok, List, [], ◌∷◌, ◌++◌, take, drop, length, refl, sym, ap, ◌∙◌, arith, append_assoc, codes}
use Rattle.std.specs.List.{AllByRecursion, flat_map, list_any}
use Rattle.std.proofs.lemmas.List.{append-nil, flat_map_more, take_at, drop_at}
use Rattle.std.proofs.lemmas.List.Elements.{filter-append}
use Rattle.commit_objects.specs.declared.commit.Commit.{Commit}
use Rattle.commit_objects.specs.declared.commit.CommitFail.{CommitFail}
use Rattle.commit_objects.specs.Form.{Form, sha1_form}
use Rattle.commit_objects.specs.Lines.{NoLineEnd, line, continued, Header, IsHeader, header_lines, is_signature, is_foreign}
use Rattle.commit_objects.specs.Commit.{Parts, heading, spelling, AreParts, signature_value, signature_of, unsigned, payload_of, IsUnsignedCommit}
use Rattle.commit_objects.specs.Reading.{commit_from, commit_in}
use Rattle.commit_objects.specs.Writing.{AreFullLines, IsSigned}
use Rattle.commit_objects.proofs.LineLemmas.{all_append}
use Rattle.commit_objects.proofs.FurtherLemmas.{WordsFit, none_more, count_none, count_more, begins_true, begins_is, begins_false}
use Rattle.commit_objects.proofs.OneReading.{is_read}
use Rattle.commit_objects.proofs.CommitLemmas.{signature_skips, unsigned_plain, unsigned_one}
use Rattle.commit_objects.proofs.WritingLemmas.{front_full, ten}
use Rattle.commit_objects.proofs.SignatureLemmas.{WritesLines}

some_none : {A : Type 0} {P : Type 0} (x : A) → Some x ≡ None → P
some_none x e = cc

-- no header is a signature where none was read
none_signed : (form : Form) (headers : List Header) → signature_of form headers ≡ None → list_any (is_signature form) headers ≡ false
none_signed form [] h = refl
none_signed form (x ∷ headers) h = none_first (is_signature form x) (signature_value form x) (signature_of form headers) (list_any (is_signature form) headers) (none_signed form headers) h
  where
    none_first : (b : Bool) (value : List ℕ) (found : Option (List ℕ)) (any : Bool) → (found ≡ None → any ≡ false) → cond b (Some value) found ≡ None → (b || any) ≡ false
    none_first true value found any next e = some_none value e
    none_first false value found any next e = next e

abbrev last_header : List ℕ → List (List ℕ) → Header
last_header first more = record { first = sha1_form.own ++ first; more = more }

last_is_header : (first : List ℕ) (more : List (List ℕ)) → NoLineEnd first → AllByRecursion NoLineEnd more → IsHeader (last_header first more)
last_is_header first more one each = record {
  first = (ten 103 refl, (ten 112 refl, (ten 103 refl, (ten 115 refl, (ten 105 refl, (ten 103 refl, (ten 32 refl, one)))))));
  not_empty = λ e. cc;
  no_space = λ rest e. cc;
  more = each;
}

last_own : (first : List ℕ) (more : List (List ℕ)) → is_signature sha1_form (last_header first more) ≡ true
last_own first more = begins_true sha1_form.own (sha1_form.own ++ first) (first, refl)

last_lines : (first : List ℕ) (more : List (List ℕ)) → codes "gpgsig" ++ flat_map continued (first ∷ more) ≡ header_lines (last_header first more)
last_lines first more = refl

last_value : (first : List ℕ) (more : List (List ℕ)) → signature_value sha1_form (last_header first more) ≡ flat_map line (first ∷ more)
last_value first more = refl

-- one header more, which is the signature
with_header : (form : Form) (payload signature written : List ℕ) (p : Parts) → AreParts form p → payload ≡ spelling p → (h : Header) → IsHeader h → is_signature form h ≡ true → signature_value form h ≡ signature
    → written ≡ heading p ++ flat_map header_lines p.headers ++ header_lines h ++ 10 ∷ p.message → IsSigned form payload signature written
with_header form payload signature written p fit is h is_header own value wrote = record {
  parts = p;
  last = h;
  fit = fit;
  payload_is = is;
  is_header = is_header;
  is_own = own;
  value = value;
  whole = wrote ∙ ap (λ l. l ++ 10 ∷ p.message) (append_assoc (heading p) (flat_map header_lines p.headers) (header_lines h) ∙ ap (λ l. heading p ++ l) (flat_map_more header_lines [] p.headers h));
}

with_lines : (payload signature written : List ℕ) (p : Parts) → AreParts sha1_form p → payload ≡ spelling p
    → (lines : List (List ℕ)) → AllByRecursion NoLineEnd lines → lines ≢ [] → signature ≡ flat_map line lines
    → (gpgsig : List ℕ) → gpgsig ≡ codes "gpgsig"
    → written ≡ heading p ++ flat_map header_lines p.headers ++ (gpgsig ++ flat_map continued lines) ++ 10 ∷ p.message
    → IsSigned sha1_form payload signature written
with_lines payload signature written p fit is [] each some read gpgsig word wrote = absurd (some refl)
with_lines payload signature written p fit is (first ∷ more) each some read gpgsig word wrote =
    with_header sha1_form payload signature written p fit is (last_header first more) (last_is_header first more each.0 each.1) (last_own first more) (last_value first more ∙ sym read)
    (wrote ∙ ap (λ l. heading p ++ flat_map header_lines p.headers ++ l ++ 10 ∷ p.message) (ap (λ l. l ++ flat_map continued (first ∷ more)) word ∙ last_lines first more))

not_over : (text : List ℕ) → text ++ 10 ∷ [] ≢ []
not_over [] e = cc
not_over (x ∷ text) e = cc

-- what is written is the payload with the signature as its last header
pub is_signed : (payload signature body written : List ℕ) (end : ℕ) → ((front message : List ℕ) → AreFullLines front → payload ≡ front ++ 10 ∷ message → end ≡ length front)
    → WritesLines signature [] (take end payload ++ codes "gpgsig") body → written ≡ body ++ drop end payload → (text : List ℕ) → signature ≡ text ++ 10 ∷ []
    → IsUnsignedCommit sha1_form payload → IsSigned sha1_form payload signature written
is_signed payload signature body written end place writes wrote text ends unsigned_is =
    let is = unsigned_is.1 in
    let p = is.parts in
    let front = heading p ++ flat_map header_lines p.headers in
    let long : end ≡ length front = place front p.message (front_full p is.fit) is.whole in
    let before : take end payload ≡ front = ap (take end) is.whole ∙ take_at front (10 ∷ p.message) end (sym long) in
    let after : drop end payload ≡ 10 ∷ p.message = ap (drop end) is.whole ∙ drop_at front (10 ∷ p.message) end (sym long) in
    let read : signature ≡ flat_map line writes.lines = writes.read ∙ append-nil (flat_map line writes.lines) in
    with_lines payload signature written p is.fit is.whole writes.lines writes.each
    (λ none. not_over text (sym ends ∙ read ∙ ap (flat_map line) none)) read (codes "gpgsig") refl
    (wrote ∙ ap (λ l. body ++ l) after ∙ ap (λ l. l ++ 10 ∷ p.message) (writes.wrote ∙ ap (λ l. (l ++ codes "gpgsig") ++ flat_map continued writes.lines) before
    ∙ append_assoc front (codes "gpgsig") (flat_map continued writes.lines)))

-- ---- reading it

same_read : {r : Result Commit CommitFail} (a b : Commit) → r ≡ Ok a → r ≡ Ok b → a ≡ b
same_read a b e f = let g : Ok a ≡ Ok b = sym e ∙ f in cc

parts_read : (form : Form) → WordsFit form → (payload : List ℕ) (p : Parts) → AreParts form p → payload ≡ spelling p → commit_in form payload ≡ Ok (commit_from form p)
parts_read form words payload p fit is = is_read form words payload (commit_from form p) (record { parts = p; fit = fit; whole = is; tree = refl; parents = refl; signature = refl; payload = refl })

abbrev with_last : Parts → Header → Parts
with_last p h = record { tree = p.tree; parents = p.parents; author = p.author; committer = p.committer; headers = p.headers ++ h ∷ []; message = p.message }

last_fit : (form : Form) → WordsFit form → (p : Parts) (h : Header) → AreParts form p → list_any (is_signature form) p.headers ≡ false → IsHeader h → is_signature form h ≡ true → AreParts form (with_last p h)
last_fit form words p h fit plain is_header own =
    let begun = begins_is form.own h.first own in
    let foreign = begins_false form.foreign h.first (λ tail e. words.apart (drop (length form.own) h.first) tail (sym begun ∙ e)) in
    record {
      tree = fit.tree;
      parents = fit.parents;
      author = fit.author;
      committer = fit.committer;
      headers = record {
        each = all_append IsHeader p.headers (h ∷ []) fit.headers.each (is_header, tt);
        none_foreign = none_more (is_foreign form) p.headers h fit.headers.none_foreign foreign;
        at_most_one = omega (arith, count_more (is_signature form) p.headers h, count_none (is_signature form) p.headers plain, ap {B = ℕ} (λ b. cond b 1 0) own);
      };
    }

last_signature : (form : Form) (hs : List Header) (h : Header) → list_any (is_signature form) hs ≡ false → is_signature form h ≡ true → signature_of form (hs ++ h ∷ []) ≡ Some (signature_value form h)
last_signature form hs h plain own = signature_skips form hs (h ∷ []) plain ∙ ap (λ b. cond b (Some (signature_value form h)) None) own

last_unsigned : (form : Form) (hs : List Header) (h : Header) → list_any (is_signature form) hs ≡ false → is_signature form h ≡ true → unsigned form (hs ++ h ∷ []) ≡ hs
last_unsigned form hs h plain own =
    filter-append (λ x. not (is_signature form x)) hs (h ∷ []) ∙ ap (λ l. unsigned form hs ++ l) (unsigned_one form h own) ∙ append-nil (unsigned form hs) ∙ unsigned_plain form hs plain

-- a commit with this tree, these parents, that signature and that payload
abbrev signed_as : Commit → List ℕ → List ℕ → Commit
signed_as commit signature payload = record commit { signature = Some signature; payload = payload }

pub read_again : (form : Form) → WordsFit form → (payload signature content : List ℕ) → IsSigned form payload signature content → IsUnsignedCommit form payload
    → (commit : Commit) → commit_in form payload ≡ Ok commit → commit_in form content ≡ Ok (record commit { signature = Some signature; payload = payload })
read_again form words payload signature content s unsigned_is commit reads =
    let p = s.parts in
    let h = s.last in
    let read = parts_read form words payload p s.fit s.payload_is in
    let was : unsigned_is.0 ≡ commit_from form p = same_read unsigned_is.0 (commit_from form p) (is_read form words payload unsigned_is.0 unsigned_is.1) read in
    let plain = none_signed form p.headers (sym (ap (λ (c : Commit). c.signature) was) ∙ unsigned_is.2) in
    let signature_is : signature_of form (p.headers ++ h ∷ []) ≡ Some signature = last_signature form p.headers h plain s.is_own ∙ ap (λ (v : List ℕ). Some v) s.value in
    let payload_is : payload_of form (with_last p h) ≡ payload =
    ap (λ l. spelling (record { tree = p.tree; parents = p.parents; author = p.author; committer = p.committer; headers = l; message = p.message })) (last_unsigned form p.headers h plain s.is_own) ∙ sym s.payload_is in
    let same : commit_from form p ≡ commit = same_read (commit_from form p) commit read reads in
    is_read form words content (signed_as commit signature payload) (record {
      parts = with_last p h;
      fit = last_fit form words p h s.fit plain s.is_header s.is_own;
      whole = s.whole;
      tree = sym (ap (λ (c : Commit). c.tree) same);
      parents = sym (ap (λ (c : Commit). c.parents) same);
      signature = sym signature_is;
      payload = sym payload_is;
    })
