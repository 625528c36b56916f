-- What is read or copied up to a limit.
use Rattle.std.proofs.Common.{◌≡◌, ℕ, ◌+◌, ◌≤◌, List, [], ◌++◌, length, take, Option, Some, None, IfSome, option_map, min, ap, ◌∙◌, subst, arith}
use Rattle.std.proofs.lemmas.List.{length-take, length-take-le, take-append-le, take-take, take_all, take_min}
use Rattle.std.specs.Io.Take.{take_limit, take_inner, take_remaining}
use Rattle.std.specs.declared.io.Take.{Take}

known_front : (limit : ℕ) (known : Option (List ℕ)) (old new : List ℕ) → old ≡ [] → IfSome (option_map (take limit) known) (λ bytes. new ≡ old ++ bytes) → IfSome known (λ bytes. new ≡ take limit bytes)
known_front limit None old new empty read = tt
known_front limit (Some bytes) old new empty read = read ∙ ap (λ front. front ++ take limit bytes) empty

-- all that is read through a limit is a front of what there is
pub front_of_known : {R : Type 0} (remaining : R → Option (List ℕ)) (t : Take R) (inner : R) (limit : ℕ) (old new : List ℕ)
    → take_limit t ≡ limit → take_inner t ≡ inner → old ≡ [] → IfSome (take_remaining remaining t) (λ bytes. new ≡ old ++ bytes) → IfSome (remaining inner) (λ bytes. new ≡ take limit bytes)
front_of_known {R} remaining t inner limit old new is_limit is_inner empty read =
    let limited : IfSome (option_map (take limit) (remaining t.inner)) (λ bytes. new ≡ old ++ bytes) = subst (λ (n : ℕ). IfSome (option_map (take n) (remaining t.inner)) (λ bytes. new ≡ old ++ bytes)) is_limit read in
    let same : IfSome (option_map (take limit) (remaining inner)) (λ bytes. new ≡ old ++ bytes) = subst (λ (r : R). IfSome (option_map (take limit) (remaining r)) (λ bytes. new ≡ old ++ bytes)) is_inner limited in
    known_front limit (remaining inner) old new empty same

-- a front that is shorter than its limit is all there is
pub whole_of_front : (known : Option (List ℕ)) (most : ℕ) (new : List ℕ) → length new ≤ most → IfSome known (λ bytes. new ≡ take (most + 1) bytes) → IfSome known (λ bytes. new ≡ bytes)
whole_of_front None most new short front = tt
whole_of_front (Some bytes) most new short front =
    let counts : length new ≡ min (most + 1) (length bytes) = ap length front ∙ length-take (most + 1) bytes in
    let within : length bytes ≤ most + 1 = omega arith in
    front ∙ take_all (most + 1) bytes within

-- what is copied of bytes, as far as there is room
pub copied_front : (count most : ℕ) (copied rest bytes : List ℕ) → count ≡ min (length bytes) most → copied ≡ take count bytes → take count (copied ++ rest) ≡ take most bytes
copied_front count most copied rest bytes is_count copy =
    let within : count ≤ length bytes = omega arith in
    let counts : length copied ≡ count = ap length copy ∙ length-take-le count bytes within in
    let enough : count ≤ length copied = omega arith in
    let same : count ≤ count = omega arith in
    let turned : count ≡ min most (length bytes) = omega arith in
    take-append-le count copied rest enough ∙ ap (take count) copy ∙ take-take count count bytes same ∙ ap (λ n. take n bytes) turned ∙ take_min most bytes
