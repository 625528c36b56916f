-- Small histories, judged by hand.
use Rattle.std.proofs.Common.{◌≡◌, ℕ, ◌-◌, ◌^◌, List, [], ◌∷◌, ◌++◌, Option, Some, None, Ok, Err, refl, subst, All}
use Rattle.std.proofs.lemmas.List.Elements.{All-nil, All-cons, All-head}
use Rattle.auth_rules.specs.declared.cause.Cause.{Cause}
use Rattle.auth_rules.specs.declared.cause.Cause.TheVariants.{NotAuthorised}
use Rattle.auth_rules.specs.Rules.{cause}
use Rattle.auth_rules.specs.World.{World, Id}
use Rattle.auth_rules.proofs.Tiny.{tiny, tiny_scope, tiny_id, tiny_key, tiny_keys, with_file, is_in}
use Rattle.auth_engine.specs.Judging.{JudgesAll, more}
use Rattle.auth_engine.specs.declared.engine_fail.EngineFail.TheVariants.{Commit}

abbrev ring : List ℕ
ring = 1 ∷ 2 ∷ []

-- all files list key 1; commits 3 and 4 are signed by key 2
abbrev history : World
history = tiny (with_file 1 [] 1 (1 ∷ []) ∷ with_file 2 (1 ∷ []) 1 (1 ∷ []) ∷ with_file 3 (2 ∷ []) 2 (1 ∷ []) ∷ with_file 4 (2 ∷ []) 2 (1 ∷ []) ∷ [])

abbrev Passes : Id → Type 0
Passes c = cause history (tiny_scope []) (tiny_keys ring) c ≡ None

two_passes : Passes (tiny_id 2)
two_passes = rw (is_in 1 ring, is_in 1 (1 ∷ [])) refl

three_fails : cause history (tiny_scope []) (tiny_keys ring) (tiny_id 3) ≡ Some (NotAuthorised (tiny_key 2))
three_fails = rw (is_in 2 ring, is_in 2 (1 ∷ [])) refl

none_is_judged : JudgesAll history (tiny_scope []) (tiny_keys ring) [] (Ok [])
none_is_judged = record { causeless = All-nil Passes; signed = refl }

the_signer_is_answered : JudgesAll history (tiny_scope []) (tiny_keys ring) (tiny_id 2 ∷ []) (Ok (tiny_key 1 ∷ []))
the_signer_is_answered = record { causeless = All-cons Passes (tiny_id 2) [] two_passes (All-nil Passes); signed = refl }

the_first_is_named : JudgesAll history (tiny_scope []) (tiny_keys ring) (tiny_id 2 ∷ tiny_id 3 ∷ tiny_id 4 ∷ []) (Err (Commit (tiny_id 3) (NotAuthorised (tiny_key 2))))
the_first_is_named = record { front = tiny_id 2 ∷ []; rest = tiny_id 4 ∷ []; parts = refl; passed = All-cons Passes (tiny_id 2) [] two_passes (All-nil Passes); refused = three_fails }

not_both : (o : Option Cause) (why : Cause) → o ≡ None → o ≡ Some why → ⊥
not_both o why none some = cc

a_later_one_is_not_named : JudgesAll history (tiny_scope []) (tiny_keys ring) (tiny_id 3 ∷ tiny_id 4 ∷ []) (Err (Commit (tiny_id 4) (NotAuthorised (tiny_key 2)))) → ⊥
a_later_one_is_not_named h = by h.front h.parts h.passed
  where
    by : (front : List Id) → tiny_id 3 ∷ tiny_id 4 ∷ [] ≡ front ++ tiny_id 4 ∷ h.rest → All Passes front → ⊥
    by [] parts passed = cc
    by (c ∷ front) parts passed =
        let same : c ≡ tiny_id 3 = cc in
        not_both (cause history (tiny_scope []) (tiny_keys ring) (tiny_id 3)) (NotAuthorised (tiny_key 2)) (subst Passes same (All-head Passes c front passed)) three_fails

-- the count of questions stops at the last u64
five_and_three : more 3 5 ≡ 8
five_and_three = refl

past_the_last : more 3 (2 ^ 64 - 2) ≡ 2 ^ 64 - 1
past_the_last = refl
