-- The task of a fitting plan keeps its limits.
use Rattle.std.proofs.Common.{◌≡◌, ℕ, ◌+◌, ◌≤◌, true, ◌&&◌, List, [], ◌∷◌, ◌++◌, length, length-append, refl, ◌∙◌, codes, arith}
use Rattle.std.specs.Prelude.{nat_le}
use Rattle.std.specs.Cmp.Derive.{both_true}
use Rattle.std.proofs.lemmas.Bool.{and_parts}
use Rattle.std.proofs.lemmas.Bool.Decides.{nat_tests}
use Rattle.std.proofs.lemmas.List.Folds.{list_all-append}
use Rattle.child_ports.specs.KeySet.{Keys}
use Rattle.name_limits.specs.Limits.{is_plain_byte, are_plain, is_reference, is_askable}
use Rattle.auth_engine.specs.Limits.{are_askable, task_fits}
use Rattle.auth_words.specs.declared.plan.Plan.{Plan}
use Rattle.auth_words.specs.Words.{IsFitting}
use Rattle.authenticate_run.specs.Outside.{task_for}

-- bytes of a name, of which there are few
pub record IsPart (name : List ℕ) (most : ℕ) : Type 0 where
  pub plain : are_plain name ≡ true
  pub few : length name ≤ most

joined : (xs ys : List ℕ) (m n : ℕ) → IsPart xs m → IsPart ys n → IsPart (xs ++ ys) (m + n)
joined xs ys m n a b = record {
  plain = list_all-append is_plain_byte xs ys ∙ both_true a.plain b.plain;
  few = omega (arith, length-append xs ys, a.few, b.few);
}

askable : (name : List ℕ) (n : ℕ) → IsPart name n → 1 ≤ length name → n ≤ 1024 → is_askable name ≡ true
askable name n part some few =
    let long : nat_le 1 (length name) ≡ true = grind (arith, nat_tests, some) in
    let short : nat_le (length name) 1024 ≡ true = grind (arith, nat_tests, part.few, few) in
    both_true (both_true long short) part.plain

reference_part : (name : List ℕ) → is_reference name ≡ true → IsPart name 900 × (1 ≤ length name)
reference_part name is =
    let both = and_parts (nat_le 1 (length name) && nat_le (length name) 900) (are_plain name) is in
    let sizes = and_parts (nat_le 1 (length name)) (nat_le (length name) 900) both.0 in
    (record { plain = both.1; few = grind (arith, nat_tests, sizes.1) }, grind (arith, nat_tests, sizes.0))

some_more : (xs ys : List ℕ) → 1 ≤ length xs → 1 ≤ length (xs ++ ys)
some_more xs ys some = omega (arith, length-append xs ys, some)

some_behind : (xs ys : List ℕ) → 1 ≤ length ys → 1 ≤ length (xs ++ ys)
some_behind xs ys some = omega (arith, length-append xs ys, some)

-- a reference, and what git is told behind it
named : (name suffix : List ℕ) → is_reference name ≡ true → IsPart suffix 9 → is_askable (name ++ suffix) ≡ true
named name suffix is part =
    let own = reference_part name is in
    askable (name ++ suffix) 909 (joined name suffix 900 9 own.0 part) (some_more name suffix own.1) (omega arith)

-- the same where a clone has it
remote : (name suffix prefix : List ℕ) → is_reference name ≡ true → IsPart suffix 9 → IsPart prefix 20 → is_askable (prefix ++ (name ++ suffix)) ≡ true
remote name suffix prefix is part before =
    let own = reference_part name is in
    askable (prefix ++ (name ++ suffix)) 929 (joined prefix (name ++ suffix) 20 909 before (joined name suffix 900 9 own.0 part)) (some_behind prefix (name ++ suffix) (some_more name suffix own.1)) (omega arith)

commit_part : IsPart (codes "^{commit}") 9
commit_part = record { plain = refl; few = omega arith }

tree_part : IsPart (codes "^{tree}") 9
tree_part = record { plain = refl; few = omega arith }

remote_part : IsPart (codes "refs/remotes/origin/") 20
remote_part = record { plain = refl; few = omega arith }

pub fits : (plan : Plan) (keys : Keys) → IsFitting plan → task_fits (task_for plan keys) ≡ true
fits plan keys fit =
    let target : are_askable ((plan.end ++ codes "^{commit}") ∷ []) ≡ true = both_true (both_true refl refl) (both_true (named plan.end (codes "^{commit}") fit.end commit_part) refl) in
    let keyring : are_askable ((plan.keyring ++ codes "^{tree}") ∷ (codes "refs/remotes/origin/" ++ (plan.keyring ++ codes "^{tree}")) ∷ []) ≡ true =
    both_true (both_true refl refl) (both_true (named plan.keyring (codes "^{tree}") fit.keyring tree_part) (both_true (remote plan.keyring (codes "^{tree}") (codes "refs/remotes/origin/") fit.keyring tree_part remote_part) refl)) in
    both_true (both_true target keyring) fit.cache_key
