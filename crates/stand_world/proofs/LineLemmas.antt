-- The words and names of a line.
use Rattle.std.proofs.Common.{◌≡◌, ℕ, Bool, true, false, ◌&&◌, cond, eqb, List, [], ◌∷◌, ◌++◌, Some, None, refl, sym, ap, ◌∙◌}
use Rattle.std.proofs.lemmas.List.Folds.{list_all-append}
use Rattle.std.specs.List.{list_all, onto_first}
use Rattle.byte_cuts.specs.Cuts.{parts_at}
use Rattle.stand_world.specs.Line.{two_of, names_in}
use Rattle.stand_world.specs.Names.{is_name}

-- ---- parts

pub record HasPart (parts : List (List ℕ)) : Type 0 where
  pub first : List ℕ
  pub more : List (List ℕ)
  pub whole : parts ≡ first ∷ more

onto_has : (x : ℕ) (parts : List (List ℕ)) → HasPart (onto_first x parts)
onto_has x [] = record { first = x ∷ []; more = []; whole = refl }
onto_has x (part ∷ parts) = record { first = x ∷ part; more = parts; whole = refl }

-- there is always a part
has_part : (end : ℕ) (text : List ℕ) → HasPart (parts_at end text)
has_part end [] = record { first = []; more = []; whole = refl }
has_part end (x ∷ text) =
    elim (eqb x end) as (λ v. HasPart (cond v ([] ∷ parts_at end text) (onto_first x (parts_at end text)))) [
      | true ↦ record { first = []; more = parts_at end text; whole = refl }
      | false ↦ onto_has x (parts_at end text)
    ]

three_aren't_two : (first second : List ℕ) (parts : List (List ℕ)) → HasPart parts → None ≡ two_of (first ∷ second ∷ parts)
three_aren't_two first second parts has = sym (ap (λ l. two_of (first ∷ second ∷ l)) has.whole)

pub not_two : (end : ℕ) (text first second third rest : List ℕ) → parts_at end text ≡ first ∷ parts_at end second → parts_at end second ≡ third ∷ parts_at end rest → None ≡ two_of (parts_at end text)
not_two end text first second third rest one two =
    three_aren't_two first third (parts_at end rest) (has_part end rest) ∙ sym (ap two_of (one ∙ ap (λ l. first ∷ l) two))

-- ---- names

no_and : (b : Bool) → (b && false) ≡ false
no_and true = refl
no_and false = refl

not_all : (all names : List (List ℕ)) (name : List ℕ) (more : List (List ℕ)) → names ++ name ∷ more ≡ all → is_name name ≡ false → list_all is_name all ≡ false
not_all all names name more same other = ap (list_all is_name) (sym same) ∙ list_all-append is_name names (name ∷ more)
    ∙ ap (λ b. list_all is_name names && (b && list_all is_name more)) other ∙ no_and (list_all is_name names)

-- a part that is no name
pub bad_name : (text name : List ℕ) (names more : List (List ℕ)) → names ++ name ∷ more ≡ parts_at 44 text → is_name name ≡ false → None ≡ names_in text
unfolding names_in
bad_name text name names more same other = rw (not_all (parts_at 44 text) names name more same other)

-- all parts are names
pub good_names : (text name : List ℕ) (names : List (List ℕ)) → names ++ name ∷ [] ≡ parts_at 44 text → list_all is_name names ≡ true → is_name name ≡ true → Some (names ++ name ∷ []) ≡ names_in text
unfolding names_in
good_names text name names same each last =
    let all : list_all is_name (parts_at 44 text) ≡ true =
    ap (list_all is_name) (sym same) ∙ list_all-append is_name names (name ∷ []) ∙ ap (λ b. b && (is_name name && true)) each ∙ ap (λ b. true && (b && true)) last in
    rw all (ap Some same)
