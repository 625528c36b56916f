-- There is one reading: what is in the grammar is read, and a place that doesn't fit is the fault.
use Rattle.std.proofs.Common.{◌≡◌, ◌≢◌, inl, inr, ℕ, Bool, true, false, cond, ◌&&◌, ◌||◌, Option, Some, None, Result, Ok, Err, IfOk, IfErr, List, [], ◌∷◌, ◌++◌, length, get_or, refl, sym, ap, ap₂, ◌∙◌, subst, append_assoc, append-nil, codes}
use Rattle.std.specs.List.{AllByRecursion, flat_map, list_any}
use Rattle.hex.specs.Hex.{encode_lower}
use Rattle.commit_objects.specs.declared.commit.Commit.{Commit}
use Rattle.commit_objects.specs.declared.commit.CommitFail.{CommitFail}
use Rattle.commit_objects.specs.declared.commit.CommitFail.TheVariants.{NoTree, Line, NoAuthor, NoCommitter, TwoSignatures, ForeignSignature, NoBody, Memory}
use Rattle.commit_objects.specs.Form.{Form, sha1_form}
use Rattle.commit_objects.specs.Lines.{NoLineEnd, IsIdOf, line, tree_line, parent_line, author_line, committer_line, continued, Header, IsHeader, header_lines, is_signature}
use Rattle.commit_objects.specs.Commit.{Parts, AreHeaders, IsCommit}
use Rattle.commit_objects.specs.Faults.{BeginsWith, NoIdLine, NoTextLine, IsHeading, IsCutShort, IsFault}
use Rattle.commit_objects.specs.Reading.{Lines, lines_of, id_in, Body, body_of, header_fault, unless, message_of, ◌>>=◌, parts_in, commit_from, commit_in, commit_of, Gives}
use Rattle.commit_objects.proofs.LineLemmas.{no_end, heads_apart, all_append}
use Rattle.commit_objects.proofs.FurtherLemmas.{WordsFit, sha1_words, begins_true, begins_false}
use Rattle.commit_objects.proofs.CutLineLemmas.{cut_first, lines_none, begins_yes, begins_no, at_first, id_first, id_not, parents_all, text_first, text_not}
use Rattle.commit_objects.proofs.BodyLemmas.{seen, first_seen, headers_seen, joined, over_headers}
use Rattle.commit_objects.proofs.StepLemmas.{step_tree, step_parent, step_author, step_committer, step_space, step_further}

-- ---- the tree and the parents

module _ (form : Form) (content tree : List ℕ) (parents : List (List ℕ)) (rest : List ℕ) (is_id : IsIdOf form tree) (ids : AllByRecursion (IsIdOf form) parents)
    (none : NoIdLine form parent_line rest) (whole : content ≡ tree_line tree ++ (flat_map parent_line parents ++ rest)) where
  tree_read : at_first (id_in form (codes "tree ")) content ≡ Some (tree, lines_of (flat_map parent_line parents ++ rest))
  tree_read = ap (at_first (id_in form (codes "tree "))) whole ∙ id_first form (codes "tree ") tree (flat_map parent_line parents ++ rest) (no_end (codes "tree ") refl) is_id

  wrong_parent : BeginsWith (codes "parent ") rest → parts_in form content ≡ Err (Line (length (tree_line tree ++ flat_map parent_line parents)))
  wrong_parent begun = step_parent form content tree parents (lines_of (flat_map parent_line parents ++ rest)) (lines_of rest) tree_read (parents_all form parents rest ids none)
      (begins_yes (codes "parent ") rest (no_end (codes "parent ") refl) begun)

  no_author : (BeginsWith (codes "parent ") rest → ⊥) → NoTextLine author_line rest → parts_in form content ≡ Err NoAuthor
  no_author never lacks = step_author form content tree parents (lines_of (flat_map parent_line parents ++ rest)) (lines_of rest) tree_read (parents_all form parents rest ids none)
      (begins_no (codes "parent ") rest never) (text_not (codes "author ") rest lacks)

-- ---- the author and the committer

author_no_parent : (form : Form) (author rest : List ℕ) → NoIdLine form parent_line (author_line author ++ rest)
author_no_parent form author rest = λ id next is e. heads_apart (author_line author ++ rest) (parent_line id ++ next) refl e

author_begins : (author rest : List ℕ) → BeginsWith (codes "parent ") (author_line author ++ rest) → ⊥
author_begins author rest begun = heads_apart (author_line author ++ rest) (codes "parent " ++ begun.0) refl begun.1

module _ (form : Form) (content tree : List ℕ) (parents : List (List ℕ)) (author rest : List ℕ) (is_id : IsIdOf form tree) (ids : AllByRecursion (IsIdOf form) parents) (one : NoLineEnd author)
    (whole : content ≡ tree_line tree ++ (flat_map parent_line parents ++ (author_line author ++ rest))) where
  abbrev behind_tree : List ℕ
  behind_tree = flat_map parent_line parents ++ (author_line author ++ rest)

  no_committer : NoTextLine committer_line rest → parts_in form content ≡ Err NoCommitter
  no_committer lacks = step_committer form content tree parents (lines_of behind_tree) (lines_of (author_line author ++ rest))
      (tree_read form content tree parents (author_line author ++ rest) is_id ids (author_no_parent form author rest) whole)
      (parents_all form parents (author_line author ++ rest) ids (author_no_parent form author rest)) author (lines_of rest)
      (begins_no (codes "parent ") (author_line author ++ rest) (author_begins author rest)) (text_first (codes "author ") author rest (no_end (codes "author ") refl) one)
      (text_not (codes "committer ") rest lacks)

module _ (form : Form) (content tree : List ℕ) (parents : List (List ℕ)) (author committer rest : List ℕ) (is_id : IsIdOf form tree) (ids : AllByRecursion (IsIdOf form) parents)
    (one : NoLineEnd author) (one_committer : NoLineEnd committer) (whole : content ≡ tree_line tree ++ (flat_map parent_line parents ++ (author_line author ++ (committer_line committer ++ rest)))) where
  abbrev behind_author : List ℕ
  behind_author = committer_line committer ++ rest

  abbrev behind_parents : List ℕ
  behind_parents = author_line author ++ behind_author

  heading_space : BeginsWith (codes " ") rest → parts_in form content ≡ Err (Line (length (tree_line tree ++ flat_map parent_line parents ++ author_line author ++ committer_line committer)))
  heading_space begun = step_space form content tree parents (lines_of (flat_map parent_line parents ++ behind_parents)) (lines_of behind_parents)
      (tree_read form content tree parents behind_parents is_id ids (author_no_parent form author behind_author) whole)
      (parents_all form parents behind_parents ids (author_no_parent form author behind_author)) author (lines_of behind_author)
      (begins_no (codes "parent ") behind_parents (author_begins author behind_author)) (text_first (codes "author ") author behind_author (no_end (codes "author ") refl) one) committer (lines_of rest)
      (text_first (codes "committer ") committer rest (no_end (codes "committer ") refl) one_committer) (begins_yes (codes " ") rest (no_end (codes " ") refl) begun)

  abbrev parts_with : List Header → List ℕ → Parts
  parts_with headers message = record { tree = tree; parents = parents; author = author; committer = committer; headers = headers; message = message }

  heading_read : (BeginsWith (codes " ") rest → ⊥) → parts_in form content ≡ (message_of form (seen rest).0.headers (seen rest).0.message (seen rest).1 >>= (λ message. Ok (parts_with (seen rest).0.headers message)))
  heading_read never = step_further form content tree parents (lines_of (flat_map parent_line parents ++ behind_parents)) (lines_of behind_parents)
      (tree_read form content tree parents behind_parents is_id ids (author_no_parent form author behind_author) whole)
      (parents_all form parents behind_parents ids (author_no_parent form author behind_author)) author (lines_of behind_author)
      (begins_no (codes "parent ") behind_parents (author_begins author behind_author)) (text_first (codes "author ") author behind_author (no_end (codes "author ") refl) one) committer (lines_of rest)
      (text_first (codes "committer ") committer rest (no_end (codes "committer ") refl) one_committer) (begins_no (codes " ") rest never)

-- ---- the further headers

no_space_behind : (hs : List Header) (rest : List ℕ) → AllByRecursion IsHeader hs → (hs ≡ [] → BeginsWith (32 ∷ []) rest → ⊥) → BeginsWith (32 ∷ []) (flat_map header_lines hs ++ rest) → ⊥
no_space_behind [] rest h never begun = never refl begun
no_space_behind (x ∷ hs) rest h never begun = first_space x.first h.0.not_empty h.0.no_space begun
  where
    first_space : (first : List ℕ) → first ≢ [] → ((tail : List ℕ) → first ≢ 32 ∷ tail) → BeginsWith (32 ∷ []) (((line first ++ flat_map continued x.more) ++ flat_map header_lines hs) ++ rest) → ⊥
    first_space [] some space begun = some refl
    first_space (b ∷ first) some space begun = let same : b ≡ 32 = ap (λ l. get_or l 0 0) begun.1 in space first (ap (λ c. c ∷ first) same)

-- a rest that begins with a header's line at fault
record Bad (form : Form) (signed : Bool) (word : List ℕ) (fault : CommitFail) : Type 0 where
  one_line : NoLineEnd word
  some : (tail : List ℕ) → word ++ tail ≢ []
  no_space : (tail more : List ℕ) → word ++ tail ≢ 32 ∷ more
  bad : (h : Header) (hs : List Header) → BeginsWith word h.first → header_fault form signed (h ∷ hs) ≡ Some fault

module _ (form : Form) (hs : List Header) (fit : AreHeaders form hs) where
  abbrev signed : Bool
  signed = list_any (is_signature form) hs

  over : (rest : List Header) → header_fault form false (hs ++ rest) ≡ header_fault form signed rest
  over rest = over_headers form hs rest fit.none_foreign fit.at_most_one

  message_fault : (h : Header) (others : List Header) (message : Option (List (List ℕ))) (left : List ℕ) (fault : CommitFail) → ((tail : List Header) → header_fault form signed (h ∷ tail) ≡ Some fault)
      → message_of form (hs ++ h ∷ others) message left ≡ Err fault
  message_fault h others (Some ls) left fault bad = ap (λ f. unless f (Ok (flat_map line ls ++ left))) (over (h ∷ others) ∙ bad others)
  message_fault h others None left fault bad =
      let last : Header = record { first = left; more = [] } in
      ap (λ f. unless f (Err NoBody)) (ap (header_fault form false) (append_assoc hs (h ∷ others) (last ∷ [])) ∙ over (h ∷ others ++ last ∷ []) ∙ bad (others ++ last ∷ []))

  bad_line : (word rest : List ℕ) (fault : CommitFail) → Bad form signed word fault → BeginsWith word rest
      → ((seen rest).0.loose ≡ []) × (message_of form (hs ++ (seen rest).0.headers) (seen rest).0.message (seen rest).1 ≡ Err fault)
  bad_line word rest fault is begun = elim (cut_first begun.0) [
    | inl one ↦
        let cut = lines_none rest (subst NoLineEnd (sym begun.1) (all_append (λ b. b ≢ 10) word begun.0 is.one_line one)) in
        let last : Header = record { first = rest; more = [] } in (
          ap (λ (ls : Lines). (body_of ls.whole).loose) cut,
          ap (λ (ls : Lines). message_of form (hs ++ (body_of ls.whole).headers) (body_of ls.whole).message ls.left) cut
              ∙ ap (λ f. unless f (Err NoBody)) (ap (λ l. header_fault form false (l ++ last ∷ [])) (append-nil hs) ∙ over (last ∷ []) ∙ is.bad last [] begun),
        )
    | inr cut ↦
        let first = word ++ cut.first in
        let text : rest ≡ line first ++ cut.rest = begun.1 ∙ ap (λ l. word ++ l) cut.whole ∙ sym (append_assoc word cut.first (10 ∷ cut.rest)) ∙ sym (append_assoc first (10 ∷ []) cut.rest) in
        let see = ap seen text ∙ first_seen first cut.rest (all_append (λ b. b ≢ 10) word cut.first is.one_line cut.one_line) (is.some cut.first) (is.no_space cut.first) in
        let h : Header = record { first = first; more = (seen cut.rest).0.loose } in (
          ap (λ (s : Body × List ℕ). s.0.loose) see,
          ap (λ (s : Body × List ℕ). message_of form (hs ++ s.0.headers) s.0.message s.1) see
              ∙ message_fault h (seen cut.rest).0.headers (seen cut.rest).0.message (seen cut.rest).1 fault (λ tail. is.bad h tail (cut.first, refl)),
        )
  ]

  cut_short : (rest : List ℕ) → IsCutShort form hs rest → ((seen rest).0.loose ≡ []) × (message_of form (hs ++ (seen rest).0.headers) (seen rest).0.message (seen rest).1 ≡ Err NoBody)
  cut_short rest is =
      let cut = lines_none rest is.no_end in
      let last : Header = record { first = rest; more = [] } in
      let foreign = begins_false form.foreign rest (λ tail e. is.no_foreign (tail, e)) in
      let none : header_fault form signed (last ∷ []) ≡ None = elim signed as (λ b. b ≡ signed → header_fault form b (last ∷ []) ≡ None) [
        | true ↦ λ e. ap₂ (λ f t. cond f (Some ForeignSignature) (cond (t && true) (Some TwoSignatures) None)) foreign (begins_false form.own rest (λ tail is_own. is.no_second (sym e) (tail, is_own)))
        | false ↦ λ e. ap₂ (λ f t. cond f (Some ForeignSignature) (cond t (Some TwoSignatures) None)) foreign (and_no (is_signature form last))
      ] refl in (
        ap (λ (ls : Lines). (body_of ls.whole).loose) cut,
        ap (λ (ls : Lines). message_of form (hs ++ (body_of ls.whole).headers) (body_of ls.whole).message ls.left) cut
            ∙ ap (λ f. unless f (Err NoBody)) (ap (λ l. header_fault form false (l ++ last ∷ [])) (append-nil hs) ∙ over (last ∷ []) ∙ none),
      )
    where
      and_no : (b : Bool) → (b && false) ≡ false
      and_no true = refl
      and_no false = refl

  whole_body : (message : List ℕ) → message_of form (hs ++ []) (Some (lines_of message).whole) (lines_of message).left ≡ Ok message
  whole_body message = ap (λ f. unless f (Ok (flat_map line (lines_of message).whole ++ (lines_of message).left))) (over []) ∙ ap (λ (m : List ℕ). Ok m) (joined message)

-- ---- the whole

commit_fault : (form : Form) (content : List ℕ) (fault : CommitFail) → parts_in form content ≡ Err fault → commit_in form content ≡ Err fault
unfolding commit_in
commit_fault form content fault e = rw e refl

commit_read : (form : Form) (content : List ℕ) (p : Parts) → parts_in form content ≡ Ok p → commit_in form content ≡ Ok (commit_from form p)
unfolding commit_in
commit_read form content p e = rw e refl

module _ (form : Form) (content before rest : List ℕ) (hs : List Header) (heading : IsHeading form before) (fit : AreHeaders form hs)
    (whole : content ≡ before ++ (flat_map header_lines hs ++ rest)) (never : hs ≡ [] → BeginsWith (32 ∷ []) rest → ⊥) where
  abbrev parts_of : List Header → List ℕ → Parts
  parts_of headers message = record {
    tree = heading.author.parents.tree;
    parents = heading.author.parents.parents;
    author = heading.author.author;
    committer = heading.committer;
    headers = headers;
    message = message;
  }

  further_read : (seen rest).0.loose ≡ []
      → parts_in form content ≡ (message_of form (hs ++ (seen rest).0.headers) (seen rest).0.message (seen rest).1 >>= (λ message. Ok (parts_of (hs ++ (seen rest).0.headers) message)))
  further_read loose =
      let p = heading.author.parents in
      let text = flat_map header_lines hs ++ rest in
      let tree = tree_line p.tree in
      let parents = flat_map parent_line p.parents in
      let author = author_line heading.author.author in
      let committer = committer_line heading.committer in
      let cut : content ≡ tree ++ (parents ++ (author ++ (committer ++ text))) =
      whole ∙ ap (λ l. l ++ text) (heading.whole ∙ ap (λ l. l ++ committer) (heading.author.whole ∙ ap (λ l. l ++ author) p.whole))
      ∙ append_assoc (tree ++ parents ++ author) committer text ∙ append_assoc (tree ++ parents) author (committer ++ text) ∙ append_assoc tree parents (author ++ (committer ++ text)) in
      heading_read form content p.tree p.parents heading.author.author heading.committer text p.is_id p.are_ids heading.author.one_line heading.one_line cut
      (no_space_behind hs rest fit.each never)
      ∙ ap (λ (s : Body × List ℕ). message_of form s.0.headers s.0.message s.1 >>= (λ message. Ok (parts_of s.0.headers message))) (headers_seen hs rest fit.each loose)

  further_bad : (fault : CommitFail) → ((seen rest).0.loose ≡ []) × (message_of form (hs ++ (seen rest).0.headers) (seen rest).0.message (seen rest).1 ≡ Err fault) → commit_in form content ≡ Err fault
  further_bad fault bad = commit_fault form content fault (further_read bad.0 ∙ ap (λ r. r >>= (λ message. Ok (parts_of (hs ++ (seen rest).0.headers) message))) bad.1)

further_cut : {content : List ℕ} (hs : List Header) (rest front before : List ℕ) → content ≡ front ++ rest → front ≡ before ++ flat_map header_lines hs → content ≡ before ++ (flat_map header_lines hs ++ rest)
further_cut hs rest front before whole is = whole ∙ ap (λ l. l ++ rest) is ∙ append_assoc before (flat_map header_lines hs) rest

abbrev made : List ℕ → List (List ℕ) → Option (List ℕ) → List ℕ → Commit
made tree parents signature payload = record { tree = tree; parents = parents; signature = signature; payload = payload }

same_commit : (a b : Commit) → a.tree ≡ b.tree → a.parents ≡ b.parents → a.signature ≡ b.signature → a.payload ≡ b.payload → b ≡ a
same_commit a b tree parents signature payload = sym (
    ap (λ t. made t a.parents a.signature a.payload) tree ∙ ap (λ p. made b.tree p a.signature a.payload) parents
    ∙ ap (λ s. made b.tree b.parents s a.payload) signature ∙ ap (λ t. made b.tree b.parents b.signature t) payload
    )

module _ (form : Form) (words : WordsFit form) (content : List ℕ) where
  own_twice : Bad form true form.own TwoSignatures
  own_twice = record {
    one_line = words.own_line;
    some = words.own_some;
    no_space = words.own_space;
    bad = λ h hs begun. ap₂ (λ f t. cond f (Some ForeignSignature) (cond (t && true) (Some TwoSignatures) (header_fault form (t || true) hs)))
        (begins_false form.foreign h.first (λ tail e. words.apart begun.0 tail (sym begun.1 ∙ e))) (begins_true form.own h.first begun);
  }

  foreign_once : (signed : Bool) → Bad form signed form.foreign ForeignSignature
  foreign_once signed = record {
    one_line = words.foreign_line;
    some = words.foreign_some;
    no_space = words.foreign_space;
    bad = λ h hs begun. ap (λ f. cond f (Some ForeignSignature) (cond (is_signature form h && signed) (Some TwoSignatures) (header_fault form (is_signature form h || signed) hs)))
        (begins_true form.foreign h.first begun);
  }

  -- the place that doesn't fit is the fault
  pub is_fault : (fault : CommitFail) → IsFault form content fault → Gives (Err fault) (commit_in form content)
  is_fault NoTree none = commit_fault form content NoTree (step_tree form content (id_not form (codes "tree ") content none))
  is_fault (Line at) (inl m) =
      let p = m.fits in
      let front = tree_line p.tree ++ flat_map parent_line p.parents in
      commit_fault form content (Line at) (
      wrong_parent form content p.tree p.parents m.rest p.is_id p.are_ids m.stands.1 (m.whole ∙ ap (λ l. l ++ m.rest) p.whole ∙ append_assoc (tree_line p.tree) (flat_map parent_line p.parents) m.rest) m.stands.0
      ∙ ap (λ (n : ℕ). Err (Line n)) (sym (m.place ∙ ap length p.whole))
      )
  is_fault (Line at) (inr m) =
      let h = m.fits in
      let p = h.author.parents in
      let tree = tree_line p.tree in
      let parents = flat_map parent_line p.parents in
      let author = author_line h.author.author in
      let committer = committer_line h.committer in
      let front : m.front ≡ tree ++ parents ++ author ++ committer = h.whole ∙ ap (λ l. l ++ committer) (h.author.whole ∙ ap (λ l. l ++ author) p.whole) in
      let cut : content ≡ tree ++ (parents ++ (author ++ (committer ++ m.rest))) =
      m.whole ∙ ap (λ l. l ++ m.rest) front ∙ append_assoc (tree ++ parents ++ author) committer m.rest ∙ append_assoc (tree ++ parents) author (committer ++ m.rest) ∙ append_assoc tree parents (author ++ (committer ++ m.rest)) in
      commit_fault form content (Line at) (
      heading_space form content p.tree p.parents h.author.author h.committer m.rest p.is_id p.are_ids h.author.one_line h.one_line cut m.stands
      ∙ ap (λ (n : ℕ). Err (Line n)) (sym (m.place ∙ ap length front))
      )
  is_fault NoAuthor (at, m) =
      let p = m.fits in
      commit_fault form content NoAuthor (
      no_author form content p.tree p.parents m.rest p.is_id p.are_ids (λ id rest is e. m.stands.0 (encode_lower id ++ 10 ∷ [] ++ rest, e ∙ append_assoc (codes "parent " ++ encode_lower id) (10 ∷ []) rest ∙ append_assoc (codes "parent ") (encode_lower id) (10 ∷ rest) ∙ ap (λ l. codes "parent " ++ l) (sym (append_assoc (encode_lower id) (10 ∷ []) rest))))
      (m.whole ∙ ap (λ l. l ++ m.rest) p.whole ∙ append_assoc (tree_line p.tree) (flat_map parent_line p.parents) m.rest) m.stands.0 m.stands.1
      )
  is_fault NoCommitter (at, m) =
      let a = m.fits in
      let p = a.parents in
      let tree = tree_line p.tree in
      let parents = flat_map parent_line p.parents in
      let author = author_line a.author in
      commit_fault form content NoCommitter (
      no_committer form content p.tree p.parents a.author m.rest p.is_id p.are_ids a.one_line
      (m.whole ∙ ap (λ l. l ++ m.rest) (a.whole ∙ ap (λ l. l ++ author) p.whole) ∙ append_assoc (tree ++ parents) author m.rest ∙ append_assoc tree parents (author ++ m.rest)) m.stands
      )
  is_fault TwoSignatures (hs, at, signed_is, m) =
      further_bad form content m.fits.before m.rest hs m.fits.heading m.fits.fit (further_cut hs m.rest m.front m.fits.before m.whole m.fits.whole)
      (λ none begun. words.own_space m.stands.0 begun.0 (sym m.stands.1 ∙ begun.1)) TwoSignatures
      (bad_line form hs m.fits.fit form.own m.rest TwoSignatures (subst (λ (b : Bool). Bad form b form.own TwoSignatures) (sym signed_is) own_twice) m.stands)
  is_fault ForeignSignature (hs, at, m) =
      further_bad form content m.fits.before m.rest hs m.fits.heading m.fits.fit (further_cut hs m.rest m.front m.fits.before m.whole m.fits.whole)
      (λ none begun. words.foreign_space m.stands.0 begun.0 (sym m.stands.1 ∙ begun.1)) ForeignSignature
      (bad_line form hs m.fits.fit form.foreign m.rest ForeignSignature (foreign_once (list_any (is_signature form) hs)) m.stands)
  is_fault NoBody (hs, at, m) =
      further_bad form content m.fits.before m.rest hs m.fits.heading m.fits.fit (further_cut hs m.rest m.front m.fits.before m.whole m.fits.whole) m.stands.no_space NoBody
      (cut_short form hs m.fits.fit m.rest m.stands)
  is_fault Memory any = tt

  -- what is in the grammar is read
  pub is_read : (commit : Commit) → IsCommit form content commit → commit_in form content ≡ Ok commit
  is_read commit is =
      let p = is.parts in
      let hs = p.headers in
      let before = tree_line p.tree ++ flat_map parent_line p.parents ++ author_line p.author ++ committer_line p.committer in
      let heading : IsHeading form before = record {
        before = tree_line p.tree ++ flat_map parent_line p.parents ++ author_line p.author;
        committer = p.committer;
        author = record {
          before = tree_line p.tree ++ flat_map parent_line p.parents;
          author = p.author;
          parents = record { tree = p.tree; parents = p.parents; is_id = is.fit.tree; are_ids = is.fit.parents; whole = refl };
          one_line = is.fit.author;
          whole = refl;
        };
        one_line = is.fit.committer;
        whole = refl;
      } in
      let read = further_read form content before (10 ∷ p.message) hs heading is.fit.headers (is.whole ∙ append_assoc before (flat_map header_lines hs) (10 ∷ p.message)) (λ none begun. heads_apart (10 ∷ p.message) (32 ∷ begun.0) refl begun.1) refl in
      commit_read form content p (
      read ∙ ap (λ r. r >>= (λ message. Ok (record { tree = p.tree; parents = p.parents; author = p.author; committer = p.committer; headers = hs ++ []; message = message }))) (whole_body form hs is.fit.headers p.message)
      ∙ ap (λ (l : List Header). Ok (record { tree = p.tree; parents = p.parents; author = p.author; committer = p.committer; headers = l; message = p.message })) (append-nil hs)
      ) ∙ ap (λ (c : Commit). Ok c) (same_commit commit (commit_from form p) is.tree is.parents is.signature is.payload)

-- what a call answers by the grammar is what the reading gives
pub gives_commit : (content : List ℕ) (commit : Commit) → IsCommit sha1_form content commit → Gives (Ok commit) (commit_of content)
gives_commit content commit is = is_read sha1_form sha1_words content commit is

pub gives_fault : (content : List ℕ) (fault : CommitFail) → IsFault sha1_form content fault → Gives (Err fault) (commit_of content)
gives_fault content fault is = is_fault sha1_form sha1_words content fault is

pub gives : (content : List ℕ) (result : Result Commit CommitFail) → IfOk result (λ commit. IsCommit sha1_form content commit) → IfErr result (λ fault. IsFault sha1_form content fault) → Gives result (commit_of content)
gives content (Ok commit) found fault = gives_commit content commit found
gives content (Err e) found fault = gives_fault content e fault

gives_same : (result : Result Commit CommitFail) (reading : Result Commit CommitFail) (commit : Commit) → Gives result reading → reading ≡ Ok commit → Gives result (Ok commit)
gives_same result reading commit h e = subst (Gives result) e h

pub gives_only : (content : List ℕ) (result : Result Commit CommitFail) → Gives result (commit_of content) → (commit : Commit) → IsCommit sha1_form content commit → Gives result (Ok commit)
gives_only content result h commit is = gives_same result (commit_of content) commit h (is_read sha1_form sha1_words content commit is)
