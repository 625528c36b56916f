-- The line that is told where no run could begin.
use Rattle.std.proofs.Common.{◌≡◌, ℕ, Bool, List, codes, Err, sym, ap, subst}
use Rattle.std.specs.Prelude.{Result, IfErr, if◌then◌else◌}
use Rattle.std.specs.IoError.{error_kind}
use Rattle.std.specs.declared.io.Error.{Error}
use Rattle.auth_report.specs.Parts.{line_of, out_of_memory}
use Rattle.guix_auth_cli.specs.Starting.{is_want, line_of_failure}

-- the line, by whether memory was wanting
abbrev pub line_by : Bool → List ℕ
line_by want = line_of (if want then out_of_memory else codes "the environment cannot be read")

-- what holds of this line holds of that of the failure
pub told_of : (Holds : List ℕ → Type 0) (ran : Result ℕ Error) (e : Error) (want : Bool) → ran ≡ Err e → is_want (error_kind e) ≡ want → Holds (line_by want) → IfErr ran (λ why. Holds (line_of_failure why))
told_of Holds ran e want is wants put = subst (λ (r : Result ℕ Error). IfErr r (λ why. Holds (line_of_failure why))) (sym is) (subst Holds (ap line_by (sym wants)) put)
