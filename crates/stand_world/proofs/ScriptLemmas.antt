-- A script, line by line.
use Rattle.std.proofs.Common.{◌≡◌, ℕ, ◌+◌, List, ◌∷◌, ◌++◌, Option, Some, None, Result, Ok, Err, sym, ap, ◌∙◌}
use Rattle.commit_objects.proofs.CutLineLemmas.{lines_cons, lines_none}
use Rattle.commit_objects.specs.Lines.{NoLineEnd}
use Rattle.commit_objects.specs.Reading.{Lines, lines_of}
use Rattle.stand_world.specs.World.{Gives}
use Rattle.stand_world.specs.Script.{after_line, after_lines, next_line, ended, declared_by}
use Rattle.stand_world.specs.declared.build_fail.BuildFail.{BuildFail}
use Rattle.stand_world.specs.declared.build_fail.BuildFail.TheVariants.{Line, Memory}
use Rattle.stand_world.specs.declared.declared.Declared.{Declared}

-- what is declared by the lines of a text
abbrev pub after_text : Declared → ℕ → List ℕ → Result Declared BuildFail
after_text before number text = after_lines before number (lines_of text).whole (lines_of text).left

over_line : (before : Declared) (number : ℕ) (rest text next : List ℕ) (said : Option Declared) → rest ≡ text ++ 10 ∷ next → NoLineEnd text → after_line before text ≡ said
    → after_text before number rest ≡ next_line number said (λ after. after_text after (number + 1) next)
over_line before number rest text next said cut whole is =
    ap (λ (ls : Lines). after_lines before number ls.whole ls.left) (ap lines_of cut ∙ lines_cons text next whole)
    ∙ ap (λ answer. next_line number answer (λ after. after_text after (number + 1) next)) is

-- the line is right
pub right_line : (script : List ℕ) (before after : Declared) (number : ℕ) (rest text next : List ℕ) → declared_by script ≡ after_text before number rest
    → rest ≡ text ++ 10 ∷ next → NoLineEnd text → Some after ≡ after_line before text → declared_by script ≡ after_text after (number + 1) next
right_line script before after number rest text next so_far cut whole is = so_far ∙ over_line before number rest text next (Some after) cut whole (sym is)

-- the line is at fault
pub wrong_line : (script : List ℕ) (before : Declared) (number : ℕ) (rest text next : List ℕ) → declared_by script ≡ after_text before number rest
    → rest ≡ text ++ 10 ∷ next → NoLineEnd text → None ≡ after_line before text → declared_by script ≡ Err (Line number)
wrong_line script before number rest text next so_far cut whole is = so_far ∙ over_line before number rest text next None cut whole (sym is)

-- no line is left
pub at_end : (script : List ℕ) (before : Declared) (number : ℕ) (rest : List ℕ) (result : Result Declared BuildFail) → declared_by script ≡ after_text before number rest
    → NoLineEnd rest → result ≡ ended number rest before → declared_by script ≡ result
at_end script before number rest result so_far left is =
    so_far ∙ ap (λ (ls : Lines). after_lines before number ls.whole ls.left) (lines_none rest left) ∙ sym is

-- what is answered exactly is answered
pub gives : (result reading : Result Declared BuildFail) → reading ≡ result → Gives result reading
gives (Ok declared) reading is = is
gives (Err (Line number)) reading is = is
gives (Err Memory) reading is = tt
