-- The heading, line by line.
use Rattle.std.proofs.Common.{◌≡◌, ◌≢◌, ℕ, ◌-◌, List, [], ◌∷◌, ◌++◌, length, refl, sym, ap, ◌∙◌, arith, append_assoc, length-append, codes}
use Rattle.std.specs.List.{AllByRecursion, flat_map}
use Rattle.std.proofs.lemmas.List.{flat_map_more}
use Rattle.hex.specs.Hex.{encode_lower}
use Rattle.commit_objects.specs.Form.{sha1_form}
use Rattle.commit_objects.specs.Lines.{NoLineEnd, IsIdOf, id_line, tree_line, parent_line, author_line, committer_line}
use Rattle.commit_objects.specs.Faults.{BeginsWith, NoIdLine, NoTextLine, IsParentsFront, IsAuthorFront, IsHeading, Meets}
use Rattle.commit_objects.specs.Heading.{HasHeading}
use Rattle.commit_objects.proofs.LineLemmas.{all_append}

-- a line at the front, as the code cuts it
pub whole_line : (text front rest : List ℕ) → text ≡ front ++ 10 ∷ rest → text ≡ front ++ 10 ∷ [] ++ rest
whole_line text front rest is = is ∙ sym (append_assoc front (10 ∷ []) rest)

pub no_id_line : (word text : List ℕ) → ((id rest : List ℕ) → IsIdOf sha1_form id → text ≢ word ++ encode_lower id ++ 10 ∷ rest) → NoIdLine sha1_form (id_line word) text
no_id_line word text none = λ id rest is e. none id rest is (e ∙ append_assoc (word ++ encode_lower id) (10 ∷ []) rest)

pub no_text_line : (word text : List ℕ) → ((value rest : List ℕ) → NoLineEnd value → text ≢ word ++ value ++ 10 ∷ rest) → NoTextLine (λ value. word ++ value ++ 10 ∷ []) text
no_text_line word text none = λ value rest one e. none value rest one (e ∙ append_assoc (word ++ value) (10 ∷ []) rest)

pub record ParentsTo (text : List ℕ) (parents : List (List ℕ)) (rest : List ℕ) : Type 0 where
  pub ids : AllByRecursion (IsIdOf sha1_form) parents
  pub whole : text ≡ flat_map parent_line parents ++ rest

pub parents_more : (text rest next id : List ℕ) (parents : List (List ℕ)) → ParentsTo text parents rest → IsIdOf sha1_form id
    → rest ≡ codes "parent " ++ encode_lower id ++ 10 ∷ next → ParentsTo text (parents ++ id ∷ []) next
parents_more text rest next id parents so_far is cut = record {
  ids = all_append (IsIdOf sha1_form) parents (id ∷ []) so_far.ids (is, tt);
  whole = so_far.whole ∙ ap (λ l. flat_map parent_line parents ++ l) (whole_line rest (codes "parent " ++ encode_lower id) next cut)
      ∙ sym (append_assoc (flat_map parent_line parents) (parent_line id) next) ∙ ap (λ l. l ++ next) (flat_map_more parent_line [] parents id);
}

-- two pieces after one another
pub then_piece : (content front rest piece next : List ℕ) → content ≡ front ++ rest → rest ≡ piece ++ next → content ≡ front ++ piece ++ next
then_piece content front rest piece next is cut = is ∙ ap (λ l. front ++ l) cut ∙ sym (append_assoc front piece next)

pub place_of : (content front rest : List ℕ) → content ≡ front ++ rest → length content - length rest ≡ length front
place_of content front rest is = omega (arith, ap length is, length-append front rest)

module _ (content tree text1 text2 : List ℕ) (parents : List (List ℕ)) (is_id : IsIdOf sha1_form tree) (ids : AllByRecursion (IsIdOf sha1_form) parents)
    (at_tree : content ≡ codes "tree " ++ encode_lower tree ++ 10 ∷ text1) (at_parents : text1 ≡ flat_map parent_line parents ++ text2) where
  front2 : content ≡ tree_line tree ++ flat_map parent_line parents ++ text2
  front2 = then_piece content (tree_line tree) text1 (flat_map parent_line parents) text2 (whole_line content (codes "tree " ++ encode_lower tree) text1 at_tree) at_parents

  parents_front : IsParentsFront sha1_form (tree_line tree ++ flat_map parent_line parents)
  parents_front = record { tree = tree; parents = parents; is_id = is_id; are_ids = ids; whole = refl }

  pub meets_parents : (Rest : List ℕ → Type 0) → Rest text2 → Meets content (length content - length text2) (IsParentsFront sha1_form) Rest
  meets_parents Rest stands = record { front = tree_line tree ++ flat_map parent_line parents; rest = text2; whole = front2; place = place_of content (tree_line tree ++ flat_map parent_line parents) text2 front2; fits = parents_front; stands = stands }

  module _ (author text3 : List ℕ) (author_end : NoLineEnd author) (at_author : text2 ≡ codes "author " ++ author ++ 10 ∷ text3) where
    front3 : content ≡ tree_line tree ++ flat_map parent_line parents ++ author_line author ++ text3
    front3 = then_piece content (tree_line tree ++ flat_map parent_line parents) text2 (author_line author) text3 front2 (whole_line text2 (codes "author " ++ author) text3 at_author)

    author_front : IsAuthorFront sha1_form (tree_line tree ++ flat_map parent_line parents ++ author_line author)
    author_front = record { before = tree_line tree ++ flat_map parent_line parents; author = author; parents = parents_front; one_line = author_end; whole = refl }

    pub meets_author : (Rest : List ℕ → Type 0) → Rest text3 → Meets content (length content - length text3) (IsAuthorFront sha1_form) Rest
    meets_author Rest stands = record { front = tree_line tree ++ flat_map parent_line parents ++ author_line author; rest = text3; whole = front3; place = place_of content (tree_line tree ++ flat_map parent_line parents ++ author_line author) text3 front3; fits = author_front; stands = stands }

    module _ (committer rest : List ℕ) (committer_end : NoLineEnd committer) (at_committer : text3 ≡ codes "committer " ++ committer ++ 10 ∷ rest) where
      front4 : content ≡ tree_line tree ++ flat_map parent_line parents ++ author_line author ++ committer_line committer ++ rest
      front4 = then_piece content (tree_line tree ++ flat_map parent_line parents ++ author_line author) text3 (committer_line committer) rest front3 (whole_line text3 (codes "committer " ++ committer) rest at_committer)

      pub meets_heading : (Rest : List ℕ → Type 0) → Rest rest → Meets content (length content - length rest) (IsHeading sha1_form) Rest
      meets_heading Rest stands = record {
        front = tree_line tree ++ flat_map parent_line parents ++ author_line author ++ committer_line committer;
        rest = rest;
        whole = front4;
        place = place_of content (tree_line tree ++ flat_map parent_line parents ++ author_line author ++ committer_line committer) rest front4;
        fits = record { before = tree_line tree ++ flat_map parent_line parents ++ author_line author; committer = committer; author = author_front; one_line = committer_end; whole = refl };
        stands = stands;
      }

      pub has_heading : (BeginsWith (32 ∷ []) rest → ⊥) → HasHeading sha1_form content tree parents rest
      has_heading no_space = record {
        author = author;
        committer = committer;
        tree_id = is_id;
        parent_ids = ids;
        author_end = author_end;
        committer_end = committer_end;
        no_space = no_space;
        whole = front4;
      }
