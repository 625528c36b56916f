-- The steps of a reading, one after another.
use Rattle.std.proofs.Common.{◌≡◌, ℕ, true, false, Some, None, Ok, Err, List, ◌++◌, length, refl, codes}
use Rattle.std.specs.List.{flat_map}
use Rattle.commit_objects.specs.declared.commit.CommitFail.TheVariants.{NoTree, Line, NoAuthor, NoCommitter}
use Rattle.commit_objects.specs.Form.{Form}
use Rattle.commit_objects.specs.Lines.{tree_line, parent_line, author_line, committer_line}
use Rattle.commit_objects.specs.Reading.{Lines, begins, text_in, id_in, in_first, parents_on, body_of, message_of, ◌>>=◌, parts_in}
use Rattle.commit_objects.proofs.CutLineLemmas.{at_first}

pub step_tree : (form : Form) (content : List ℕ) → at_first (id_in form (codes "tree ")) content ≡ None → parts_in form content ≡ Err NoTree
unfolding parts_in
step_tree form content e = rw e refl

module _ (form : Form) (content tree : List ℕ) (parents : List (List ℕ)) (l1 l2 : Lines)
    (e1 : at_first (id_in form (codes "tree ")) content ≡ Some (tree, l1)) (e2 : parents_on form l1.whole l1.left ≡ (parents, l2)) where
  pub step_parent : begins (codes "parent ") l2 ≡ true → parts_in form content ≡ Err (Line (length (tree_line tree ++ flat_map parent_line parents)))
  unfolding parts_in
  step_parent e = rw (e1, e2, e) refl

  pub step_author : begins (codes "parent ") l2 ≡ false → in_first (text_in (codes "author ")) l2.whole l2.left ≡ None → parts_in form content ≡ Err NoAuthor
  unfolding parts_in
  step_author e3 e = rw (e1, e2, e3, e) refl

  module _ (author : List ℕ) (l3 : Lines) (e3 : begins (codes "parent ") l2 ≡ false) (e4 : in_first (text_in (codes "author ")) l2.whole l2.left ≡ Some (author, l3)) where
    pub step_committer : in_first (text_in (codes "committer ")) l3.whole l3.left ≡ None → parts_in form content ≡ Err NoCommitter
    unfolding parts_in
    step_committer e = rw (e1, e2, e3, e4, e) refl

    module _ (committer : List ℕ) (l4 : Lines) (e5 : in_first (text_in (codes "committer ")) l3.whole l3.left ≡ Some (committer, l4)) where
      pub step_space : begins (codes " ") l4 ≡ true → parts_in form content ≡ Err (Line (length (tree_line tree ++ flat_map parent_line parents ++ author_line author ++ committer_line committer)))
      unfolding parts_in
      step_space e = rw (e1, e2, e3, e4, e5, e) refl

      pub step_further : begins (codes " ") l4 ≡ false → parts_in form content ≡ (message_of form (body_of l4.whole).headers (body_of l4.whole).message l4.left
          >>= (λ message. Ok (record { tree = tree; parents = parents; author = author; committer = committer; headers = (body_of l4.whole).headers; message = message })))
      unfolding parts_in
      step_further e = rw (e1, e2, e3, e4, e5, e) refl
