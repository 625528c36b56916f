-- The names of a task that keeps its limits can be asked.
use Rattle.std.proofs.Common.{◌≡◌, ◌≢◌, ◌≤◌, ℕ, Bool, true, false, not, ◌&&◌, ◌==◌, List, [], ◌∷◌, length, arith}
use Rattle.std.specs.Prelude.{nat_le, IsTrue}
use Rattle.std.specs.List.{list_all, AllByRecursion}
use Rattle.std.proofs.lemmas.Bool.{and_parts}
use Rattle.std.proofs.lemmas.Bool.Decides.{nat_tests}
use Rattle.child_ports.specs.Git.{IsName, NoLineEnd}
use Rattle.name_limits.specs.Limits.{is_plain_byte, are_plain, is_askable, is_cache_key}
use Rattle.auth_engine.specs.declared.task.Task.{Task}
use Rattle.auth_engine.specs.Limits.{are_askable, task_fits}

-- bytes of which none is below 32 have no line feed
no_feed : (b : ℕ) → nat_le 32 b ≡ true → b ≢ 10
no_feed b low = λ e. let least : 32 ≤ b = grind (arith, nat_tests, low) in absurd (omega (arith, least, e))

one_line : (bytes : List ℕ) → are_plain bytes ≡ true → NoLineEnd bytes
one_line [] plain = tt
one_line (b ∷ bytes) plain =
    let parts = and_parts (is_plain_byte b) (list_all is_plain_byte bytes) plain in
    let own = and_parts (nat_le 32 b) (not (b == 127)) parts.0 in
    (no_feed b own.0, one_line bytes parts.1)

name_of : (name : List ℕ) → is_askable name ≡ true → IsName name
name_of name is =
    let both = and_parts (nat_le 1 (length name) && nat_le (length name) 1024) (are_plain name) is in
    let sizes = and_parts (nat_le 1 (length name)) (nat_le (length name) 1024) both.0 in
    record { short = grind (arith, nat_tests, sizes.1); one_line = one_line name both.1 }

all_names : (names : List (List ℕ)) → list_all is_askable names ≡ true → AllByRecursion IsName names
all_names [] all = tt
all_names (name ∷ names) all = let parts = and_parts (is_askable name) (list_all is_askable names) all in (name_of name parts.0, all_names names parts.1)

names_of : (names : List (List ℕ)) → are_askable names ≡ true → AllByRecursion IsName names
names_of names is = all_names names (and_parts (nat_le 1 (length names) && nat_le (length names) 4) (list_all is_askable names) is).1

pub target_names : (task : Task) → task_fits task ≡ true → AllByRecursion IsName task.target
target_names task fits =
    let outer = and_parts (are_askable task.target && are_askable task.keyring) (is_cache_key task.cache_key) fits in
    names_of task.target (and_parts (are_askable task.target) (are_askable task.keyring) outer.0).0

pub keyring_names : (task : Task) → task_fits task ≡ true → AllByRecursion IsName task.keyring
keyring_names task fits =
    let outer = and_parts (are_askable task.target && are_askable task.keyring) (is_cache_key task.cache_key) fits in
    names_of task.keyring (and_parts (are_askable task.target) (are_askable task.keyring) outer.0).1
