-- A commit from its heading and its further headers.
use Rattle.std.proofs.Common.{◌≡◌, ℕ, ◌+◌, ◌-◌, true, false, cond, not, Some, None, List, [], ◌∷◌, ◌++◌, take, length, refl, sym, ap, ◌∙◌, arith, append_assoc, length-append}
use Rattle.std.specs.List.{AllByRecursion, flat_map, list_any}
use Rattle.std.proofs.lemmas.Bool.{or_parts, ne_eqb}
use Rattle.std.proofs.lemmas.List.{append-nil, take_at, drop_at}
use Rattle.std.proofs.lemmas.List.Concat.{flat_map-append}
use Rattle.std.proofs.lemmas.List.Elements.{filter-append}
use Rattle.commit_objects.specs.declared.commit.Commit.{Commit}
use Rattle.commit_objects.specs.declared.commit.CommitFail.{CommitFail}
use Rattle.commit_objects.specs.declared.commit.CommitFail.TheVariants.{NoTree, Line, NoAuthor, NoCommitter, TwoSignatures, ForeignSignature, NoBody, Memory}
use Rattle.commit_objects.specs.Form.{Form}
use Rattle.commit_objects.specs.Lines.{NoLineEnd, line, tree_line, parent_line, author_line, committer_line, continued, Header, header_lines, is_signature}
use Rattle.commit_objects.specs.Commit.{Parts, spelling, signature_value, signature_of, unsigned, IsCommit}
use Rattle.commit_objects.specs.Faults.{BeginsWith, IsHeading, IsFurtherFront, Meets, IsFault}
use Rattle.commit_objects.specs.Heading.{HasHeading}
use Rattle.commit_objects.specs.Headers.{UnsignedTo, SignedTo, HeadersMeet, IsFurtherFault, without_spaces}
use Rattle.commit_objects.proofs.FurtherLemmas.{WordsFit, plain_fit, signed_header, signed_headers, own_header, signed_fit, signed_whole}

-- ---- faults

module _ (form : Form) (content tree text : List ℕ) (parents : List (List ℕ)) (head : HasHeading form content tree parents text) where
  abbrev pub front_of : List ℕ
  front_of = tree_line tree ++ flat_map parent_line parents ++ author_line head.author ++ committer_line head.committer

  is_heading : IsHeading form front_of
  is_heading = record {
    before = tree_line tree ++ flat_map parent_line parents ++ author_line head.author;
    committer = head.committer;
    author = record {
      before = tree_line tree ++ flat_map parent_line parents;
      author = head.author;
      parents = record { tree = tree; parents = parents; is_id = head.tree_id; are_ids = head.parent_ids; whole = refl };
      one_line = head.author_end;
      whole = refl;
    };
    one_line = head.committer_end;
    whole = refl;
  }

  meets_further : (headers : List Header) (Rest : List ℕ → Type 0) → HeadersMeet form text headers Rest → (at : ℕ) × Meets content at (IsFurtherFront form headers) Rest
  meets_further headers Rest meets = (
    length (front_of ++ flat_map header_lines headers),
    record {
      front = front_of ++ flat_map header_lines headers;
      rest = meets.rest;
      whole = head.whole ∙ ap (λ l. front_of ++ l) meets.whole ∙ sym (append_assoc front_of (flat_map header_lines headers) meets.rest);
      place = refl;
      fits = record { before = front_of; heading = is_heading; fit = meets.fit; whole = refl };
      stands = meets.stands;
    },
  )

  pub further_fault : (fail : CommitFail) → IsFurtherFault form text fail → IsFault form content fail
  further_fault NoTree h = absurd h
  further_fault (Line at) h = absurd h
  further_fault NoAuthor h = absurd h
  further_fault NoCommitter h = absurd h
  further_fault TwoSignatures h = let m = meets_further h.0 (BeginsWith form.own) h.2 in (h.0, m.0, h.1, m.1)
  further_fault ForeignSignature h = let m = meets_further h.0 (BeginsWith form.foreign) h.1 in (h.0, m.0, m.1)
  further_fault NoBody h = let m = meets_further h.0 _ h.1 in (h.0, m.0, m.1)
  further_fault Memory h = absurd h

-- ---- signatures and what is signed

signature_none : (form : Form) (headers : List Header) → list_any (is_signature form) headers ≡ false → signature_of form headers ≡ None
signature_none form [] h = refl
signature_none form (x ∷ headers) h =
    let parts = or_parts (is_signature form x) (list_any (is_signature form) headers) h in
    ap (λ b. cond b (Some (signature_value form x)) (signature_of form headers)) parts.0 ∙ signature_none form headers parts.1

pub signature_skips : (form : Form) (front back : List Header) → list_any (is_signature form) front ≡ false → signature_of form (front ++ back) ≡ signature_of form back
signature_skips form [] back h = refl
signature_skips form (x ∷ front) back h =
    let parts = or_parts (is_signature form x) (list_any (is_signature form) front) h in
    ap (λ b. cond b (Some (signature_value form x)) (signature_of form (front ++ back))) parts.0 ∙ signature_skips form front back parts.1

pub unsigned_plain : (form : Form) (headers : List Header) → list_any (is_signature form) headers ≡ false → unsigned form headers ≡ headers
unsigned_plain form [] h = refl
unsigned_plain form (x ∷ headers) h =
    let parts = or_parts (is_signature form x) (list_any (is_signature form) headers) h in
    ap (λ b. cond (not b) (x ∷ unsigned form headers) (unsigned form headers)) parts.0 ∙ ap (λ hs. x ∷ hs) (unsigned_plain form headers parts.1)

pub unsigned_one : (form : Form) (h : Header) → is_signature form h ≡ true → unsigned form (h ∷ []) ≡ []
unsigned_one form h own = ap (λ b. cond (not b) (h ∷ []) []) own

-- a line without its space
spaces_line : (text rest : List ℕ) → NoLineEnd text → without_spaces false (text ++ 10 ∷ rest) ≡ text ++ 10 ∷ without_spaces true rest
spaces_line [] rest h = refl
spaces_line (x ∷ text) rest h = ap (λ b. x ∷ without_spaces b (text ++ 10 ∷ rest)) (ne_eqb x 10 h.0) ∙ ap (λ l. x ∷ l) (spaces_line text rest h.1)

spaces_lines : (lines : List (List ℕ)) → AllByRecursion NoLineEnd lines → without_spaces true (flat_map continued lines) ≡ flat_map line lines
spaces_lines [] h = refl
spaces_lines (text ∷ lines) h =
    ap (without_spaces false) (append_assoc text (10 ∷ []) (flat_map continued lines)) ∙ spaces_line text (flat_map continued lines) h.0
    ∙ ap (λ l. text ++ 10 ∷ l) (spaces_lines lines h.1) ∙ sym (append_assoc text (10 ∷ []) (flat_map line lines))

-- ---- the whole

module _ (form : Form) (content tree text : List ℕ) (parents : List (List ℕ)) (head : HasHeading form content tree parents text) (message : List ℕ) where
  pub unsigned_commit : UnsignedTo form text (10 ∷ message) → (commit : Commit) → commit.tree ≡ tree → commit.parents ≡ parents → commit.signature ≡ None → commit.payload ≡ content → IsCommit form content commit
  unsigned_commit so_far commit is_tree are_parents no_signature is_payload =
      let headers = so_far.headers in
      let p : Parts = record { tree = tree; parents = parents; author = head.author; committer = head.committer; headers = headers; message = message } in
      let whole : content ≡ spelling p = head.whole ∙ ap (λ l. front_of form content tree text parents head ++ l) so_far.whole ∙ sym (append_assoc (front_of form content tree text parents head) (flat_map header_lines headers) (10 ∷ message)) in
      record {
        parts = p;
        fit = record { tree = head.tree_id; parents = head.parent_ids; author = head.author_end; committer = head.committer_end; headers = plain_fit form headers so_far.plain };
        whole = whole;
        tree = is_tree;
        parents = are_parents;
        signature = no_signature ∙ sym (signature_none form headers so_far.plain.none_signed);
        payload = is_payload ∙ whole ∙ ap (λ hs. spelling (record { tree = tree; parents = parents; author = head.author; committer = head.committer; headers = hs; message = message })) (sym (unsigned_plain form headers so_far.plain.none_signed));
      }

  pub signed_commit : (fit : WordsFit form) (lead value more trail : List ℕ) (so_far : SignedTo form text lead value more trail (10 ∷ message)) → (commit : Commit) (n : ℕ) → n + length text ≡ length content
      → commit.tree ≡ tree → commit.parents ≡ parents → commit.signature ≡ Some (value ++ 10 ∷ without_spaces true more) → commit.payload ≡ take (n + length lead) content ++ trail → IsCommit form content commit
  signed_commit fit lead value more trail so_far commit n size is_tree are_parents is_signature_value is_payload =
      let heading_text = front_of form content tree text parents head in
      let h = signed_header form fit text lead value more trail (10 ∷ message) so_far in
      let headers = signed_headers form fit text lead value more trail (10 ∷ message) so_far in
      let own = own_header form fit text lead value more trail (10 ∷ message) so_far in
      let xs = so_far.front in
      let ys = so_far.back in
      let p : Parts = record { tree = tree; parents = parents; author = head.author; committer = head.committer; headers = headers; message = message } in
      let whole : content ≡ spelling p = head.whole ∙ ap (λ l. heading_text ++ l) (signed_whole form fit text lead value more trail (10 ∷ message) so_far) ∙ sym (append_assoc heading_text (flat_map header_lines headers) (10 ∷ message)) in
      let value_is : signature_value form h ≡ value ++ 10 ∷ without_spaces true more =
      ap (λ v. line v ++ flat_map line so_far.continued.0) (drop_at form.own value (length form.own) refl) ∙ append_assoc value (10 ∷ []) (flat_map line so_far.continued.0)
      ∙ ap (λ l. value ++ 10 ∷ l) (sym (ap (without_spaces true) so_far.continued.2 ∙ spaces_lines so_far.continued.0 so_far.continued.1)) in
      let found : signature_of form headers ≡ Some (signature_value form h) =
      ap (signature_of form) (append_assoc xs (h ∷ []) ys) ∙ signature_skips form xs (h ∷ ys) so_far.front_plain.none_signed ∙ ap (λ b. cond b (Some (signature_value form h)) (signature_of form ys)) own in
      let rest_headers : unsigned form headers ≡ xs ++ ys =
      filter-append (λ x. not (is_signature form x)) (xs ++ h ∷ []) ys
      ∙ ap (λ hs. hs ++ unsigned form ys) (filter-append (λ x. not (is_signature form x)) xs (h ∷ []) ∙ ap (λ hs. unsigned form xs ++ hs) (unsigned_one form h own) ∙ append-nil (unsigned form xs) ∙ unsigned_plain form xs so_far.front_plain.none_signed)
      ∙ ap (λ hs. xs ++ hs) (unsigned_plain form ys so_far.back_plain.none_signed) in
      let long : length (heading_text ++ lead) ≡ n + length lead = omega (arith, ap length head.whole, length-append heading_text text, length-append heading_text lead, size) in
      let split : content ≡ (heading_text ++ lead) ++ ((line (form.own ++ value) ++ more) ++ trail) =
      head.whole ∙ ap (λ l. heading_text ++ l) (so_far.whole ∙ append_assoc lead (line (form.own ++ value) ++ more) trail) ∙ sym (append_assoc heading_text lead ((line (form.own ++ value) ++ more) ++ trail)) in
      let taken : take (n + length lead) content ≡ heading_text ++ flat_map header_lines xs =
      ap (take (n + length lead)) split ∙ take_at (heading_text ++ lead) ((line (form.own ++ value) ++ more) ++ trail) (n + length lead) long ∙ ap (λ l. heading_text ++ l) so_far.before in
      record {
        parts = p;
        fit = record { tree = head.tree_id; parents = head.parent_ids; author = head.author_end; committer = head.committer_end; headers = signed_fit form fit text lead value more trail (10 ∷ message) so_far };
        whole = whole;
        tree = is_tree;
        parents = are_parents;
        signature = is_signature_value ∙ sym (found ∙ ap (λ (v : List ℕ). Some v) value_is);
        payload = is_payload ∙ ap (λ l. l ++ trail) taken ∙ ap (λ l. (heading_text ++ flat_map header_lines xs) ++ l) so_far.after
            ∙ sym (append_assoc (heading_text ++ flat_map header_lines xs) (flat_map header_lines ys) (10 ∷ message))
            ∙ ap (λ l. l ++ 10 ∷ message) (append_assoc heading_text (flat_map header_lines xs) (flat_map header_lines ys) ∙ ap (λ l. heading_text ++ l) (sym (flat_map-append header_lines xs ys)))
            ∙ ap (λ hs. heading_text ++ flat_map header_lines hs ++ 10 ∷ message) (sym rest_headers);
      }

pub heading_long : (form : Form) (content tree text : List ℕ) (parents : List (List ℕ)) → HasHeading form content tree parents text → length content - length text + length text ≡ length content
heading_long form content tree text parents head = omega (arith, ap length head.whole, length-append (front_of form content tree text parents head) text)
