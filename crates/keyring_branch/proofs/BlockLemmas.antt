-- The lines of a block, one at a time.
use Rattle.std.proofs.Common.{◌≡◌, ℕ, ◌==◌, true, false, cond, Some, None, List, [], ◌∷◌, ◌++◌, length, sym, ap, ◌∙◌, append_assoc, append-nil}
use Rattle.keyring_branch.specs.Armour.{ends_body}
use Rattle.keyring_branch.specs.ArmourReading.{after_headers, body_of}

pub headers_end : (lines : List (List ℕ)) (line : List ℕ) (next : List (List ℕ)) → lines ≡ line ∷ next → (length line == 0) ≡ true → after_headers lines ≡ Some next
unfolding after_headers
headers_end lines line next is empty = ap after_headers is ∙ ap (λ t. cond t (Some next) (after_headers next)) empty

pub header_passed : (lines : List (List ℕ)) (line : List ℕ) (next : List (List ℕ)) → lines ≡ line ∷ next → (length line == 0) ≡ false → after_headers lines ≡ after_headers next
unfolding after_headers
header_passed lines line next is full = ap after_headers is ∙ ap (λ t. cond t (Some next) (after_headers next)) full

pub no_headers : (lines : List (List ℕ)) → lines ≡ [] → after_headers lines ≡ None
unfolding after_headers
no_headers lines is = ap after_headers is

pub body_ends : (lines : List (List ℕ)) (line : List ℕ) (next : List (List ℕ)) → lines ≡ line ∷ next → ends_body line ≡ true → body_of lines ≡ ([], lines)
unfolding body_of
body_ends lines line next is ends =
    ap body_of is ∙ ap (λ t. cond t ([], line ∷ next) (line ++ (body_of next).0, (body_of next).1)) ends ∙ ap (λ (l : List (List ℕ)). ([], l)) (sym is)

pub body_more : (lines : List (List ℕ)) (line : List ℕ) (next : List (List ℕ)) → lines ≡ line ∷ next → ends_body line ≡ false → body_of lines ≡ (line ++ (body_of next).0, (body_of next).1)
unfolding body_of
body_more lines line next is goes = ap body_of is ∙ ap (λ t. cond t ([], line ∷ next) (line ++ (body_of next).0, (body_of next).1)) goes

pub body_over : (lines : List (List ℕ)) → lines ≡ [] → body_of lines ≡ ([], lines)
unfolding body_of
body_over lines is = ap body_of is ∙ ap (λ (l : List (List ℕ)). ([], l)) (sym is)

-- a body's text and what follows it, where some of it was joined before
pub body_stops : (first now : List ℕ) (all lines : List (List ℕ)) → first ++ (body_of all).0 ≡ now ++ (body_of lines).0 → body_of lines ≡ ([], lines) → now ≡ first ++ (body_of all).0
body_stops first now all lines so is = sym (so ∙ ap (λ (b : List ℕ × List (List ℕ)). now ++ b.0) is ∙ append-nil now)

pub behind_body : (all lines : List (List ℕ)) → (body_of all).1 ≡ (body_of lines).1 → body_of lines ≡ ([], lines) → lines ≡ (body_of all).1
behind_body all lines so is = sym (so ∙ ap (λ (b : List ℕ × List (List ℕ)). b.1) is)

pub joined_more : (first now new line : List ℕ) (all lines next : List (List ℕ)) → first ++ (body_of all).0 ≡ now ++ (body_of lines).0 → body_of lines ≡ (line ++ (body_of next).0, (body_of next).1) → new ≡ now ++ line
    → first ++ (body_of all).0 ≡ new ++ (body_of next).0
joined_more first now new line all lines next so is put =
    so ∙ ap (λ (b : List ℕ × List (List ℕ)). now ++ b.0) is ∙ sym (append_assoc now line (body_of next).0) ∙ ap (λ l. l ++ (body_of next).0) (sym put)

pub behind_more : (line : List ℕ) (all lines next : List (List ℕ)) → (body_of all).1 ≡ (body_of lines).1 → body_of lines ≡ (line ++ (body_of next).0, (body_of next).1) → (body_of all).1 ≡ (body_of next).1
behind_more line all lines next so is = so ∙ ap (λ (b : List ℕ × List (List ℕ)). b.1) is
