-- Tasks that can be checked.
use Rattle.std.specs.Prelude.{ℕ, Bool, ◌&&◌, nat_le, List, length}
use Rattle.std.specs.List.{list_all}
use Rattle.name_limits.specs.Limits.{is_askable, is_cache_key}
use Rattle.auth_engine.specs.declared.task.Task.{Task}

-- one to four names that can be asked
abbrev pub are_askable : List (List ℕ) → Bool
are_askable names = nat_le 1 (length names) && nat_le (length names) 4 && list_all is_askable names

-- names and key keep their limits
abbrev pub task_fits : Task → Bool
task_fits task = are_askable task.target && are_askable task.keyring && is_cache_key task.cache_key
