-- What stands before the further headers.
use Rattle.std.specs.Prelude.{◌≡◌, ℕ, List, [], ◌∷◌, ◌++◌}
use Rattle.std.specs.List.{AllByRecursion, flat_map}
use Rattle.commit_objects.specs.Form.{Form}
use Rattle.commit_objects.specs.Lines.{NoLineEnd, IsIdOf, tree_line, parent_line, author_line, committer_line}
use Rattle.commit_objects.specs.Faults.{BeginsWith}

-- the heading of a content, and what follows it, which no continuation line begins
pub record HasHeading (form : Form) (content tree : List ℕ) (parents : List (List ℕ)) (rest : List ℕ) : Type 0 where
  pub author : List ℕ
  pub committer : List ℕ
  pub tree_id : IsIdOf form tree
  pub parent_ids : AllByRecursion (IsIdOf form) parents
  pub author_end : NoLineEnd author
  pub committer_end : NoLineEnd committer
  pub no_space : BeginsWith (32 ∷ []) rest → ⊥
  pub whole : content ≡ tree_line tree ++ flat_map parent_line parents ++ author_line author ++ committer_line committer ++ rest
