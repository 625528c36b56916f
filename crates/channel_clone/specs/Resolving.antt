-- The commit that names stand for.
use Rattle.std.specs.Prelude.{ℕ, List, Result}
use Rattle.std.specs.Result.{result_map_both}
use Rattle.child_ports.specs.declared.git.GitRow.{GitRow}
use Rattle.auth_rules.specs.World.{Id}
use Rattle.auth_engine.specs.declared.engine_fail.EngineFail.{EngineFail}
use Rattle.auth_engine.specs.declared.engine_fail.EngineFail.TheVariants.{Name}
use Rattle.auth_engine.specs.declared.engine_fail.Which.TheVariants.{Target}
use Rattle.auth_engine.specs.Reading.{first_named}

-- the first of the names that isn't missing has to be a commit
abbrev pub resolved : List GitRow → List ℕ → List (List ℕ) → Result Id EngineFail
resolved rows dir names = result_map_both (λ object. object.id) (Name Target) (first_named rows dir names)
