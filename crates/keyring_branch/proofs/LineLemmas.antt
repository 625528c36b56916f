-- Lines of a text, and blanks at their ends.
use Rattle.std.proofs.Common.{◌≡◌, ◌≢◌, ℕ, true, false, cond, List, [], ◌∷◌, ◌++◌, map, refl, ap, ◌∙◌}
use Rattle.std.proofs.lemmas.Bool.{ne_eqb}
use Rattle.byte_cuts.specs.Cuts.{Lacks}
use Rattle.keyring_branch.specs.Lines.{in_first, cut_lines, is_blank, before_trimmed, trimmed, lines_of}

pub blank_off : (front : List ℕ) (b : ℕ) → is_blank b ≡ true → trimmed (front ++ b ∷ []) ≡ trimmed front
blank_off [] b is = ap (λ t. cond t [] (b ∷ [])) is
blank_off (x ∷ front) b is = ap (before_trimmed x) (blank_off front b is)

joined : (x : ℕ) (front : List ℕ) (b : ℕ) → before_trimmed x (front ++ b ∷ []) ≡ x ∷ (front ++ b ∷ [])
joined x [] b = refl
joined x (y ∷ front) b = refl

pub nothing_off : (front : List ℕ) (b : ℕ) → is_blank b ≡ false → trimmed (front ++ b ∷ []) ≡ front ++ b ∷ []
nothing_off [] b is = ap (λ t. cond t [] (b ∷ [])) is
nothing_off (x ∷ front) b is = ap (before_trimmed x) (nothing_off front b is) ∙ joined x front b

cut_first : (line rest : List ℕ) → Lacks 10 line → cut_lines (line ++ 10 ∷ rest) ≡ line ∷ cut_lines rest
cut_first [] rest h = refl
cut_first (b ∷ line) rest h = ap (λ t. cond t ([] ∷ cut_lines (line ++ 10 ∷ rest)) (in_first b (cut_lines (line ++ 10 ∷ rest)))) (ne_eqb b 10 h.0) ∙ ap (in_first b) (cut_first line rest h.1)

cut_last : (b : ℕ) (line : List ℕ) → Lacks 10 (b ∷ line) → cut_lines (b ∷ line) ≡ (b ∷ line) ∷ []
cut_last b [] h = ap (λ t. cond t ([] ∷ []) ((b ∷ []) ∷ [])) (ne_eqb b 10 h.0)
cut_last b (c ∷ line) h = ap (λ t. cond t ([] ∷ cut_lines (c ∷ line)) (in_first b (cut_lines (c ∷ line)))) (ne_eqb b 10 h.0) ∙ ap (in_first b) (cut_last c line h.1)

pub no_lines : lines_of [] ≡ []
unfolding lines_of
no_lines = refl

pub first_line : (text line rest : List ℕ) → Lacks 10 line → text ≡ line ++ 10 ∷ rest → lines_of text ≡ trimmed line ∷ lines_of rest
unfolding lines_of
first_line text line rest h is = ap (λ l. map trimmed (cut_lines l)) is ∙ ap (map trimmed) (cut_first line rest h)

pub last_line : (text : List ℕ) → text ≢ [] → Lacks 10 text → lines_of text ≡ trimmed text ∷ lines_of []
unfolding lines_of
last_line [] some h = absurd (some refl)
last_line (b ∷ text) some h = ap (map trimmed) (cut_last b text h)
