-- The rows that uses leave, and the arguments that they are.
use Rattle.std.proofs.Common.{◌≡◌, ℕ, ◌==◌, suc, Bool, true, false, cond, List, [], ◌∷◌, ◌++◌, codes, refl, sym, ap, ◌∙◌, subst, Option, Some, None}
use Rattle.std.specs.Prelude.{find, is_some, option_map, if◌then◌else◌}
use Rattle.std.specs.Option.{option_or}
use Rattle.std.specs.Str.{bytes_eq}
use Rattle.std.proofs.lemmas.List.Folds.{find-append}
use Rattle.std.proofs.lemmas.Slice.Eq.{bytes_eq-Decides}
use Rattle.clap.specs.Words.{Row, Rule, Text}
use Rattle.clap.specs.Walk.{arg_by_id, has_row, takes_values, with_values, without, reading_by}
use Rattle.clap.specs.declared.builder.value_parser.Reading.{Reading}
use Rattle.clap.specs.declared.parser.matches.ValueSource.{ValueSource}
use Rattle.clap.specs.declared.parser.matches.ValueSource.TheVariants.{CommandLine}
use Rattle.auth_words.specs.Arguments.{Argument, positionals, values, flags}
use Rattle.auth_words.specs.Words.{first, is_any}
use Rattle.auth_words.proofs.ReaderLemmas.{Reader, IsRule, put, row}

-- ---- the row of an id

abbrev pub look : Text → List Row → Option Row
look id rows = find (λ r. bytes_eq r.id id) rows

pub has_look : (id : Text) (rows : List Row) → has_row id rows ≡ is_some (look id rows)
has_look id [] = refl
has_look id (r ∷ rows) = go (bytes_eq r.id id) refl (has_look id rows)
  where
    go : (t : Bool) → bytes_eq r.id id ≡ t → has_row id rows ≡ is_some (look id rows) → has_row id (r ∷ rows) ≡ is_some (look id (r ∷ rows))
    go true e rest = rw e refl
    go false e rest = rw e rest

none_without : (id : Text) (rows : List Row) → has_row id rows ≡ false → without id rows ≡ rows
none_without id [] e = refl
none_without id (r ∷ rows) e = go (bytes_eq r.id id) refl (none_without id rows)
  where
    go : (t : Bool) → bytes_eq r.id id ≡ t → (has_row id rows ≡ false → without id rows ≡ rows) → without id (r ∷ rows) ≡ r ∷ rows
    go true f rest = let bad : true ≡ false = rw f at e in cc bad
    go false f rest = rw f (ap (λ l. r ∷ l) (rest (rw f at e)))

-- values of an id that has no row make one at the end
pub values_at_end : (i : Text) (how : Reading) (s : ValueSource) (values : List Text) (rows : List Row) → has_row i rows ≡ false
    → with_values i how s values rows ≡ rows ++ record { id = i; values = values; count = None; source = Some s; reading = how } ∷ []
values_at_end i how s values [] e = refl
values_at_end i how s values (r ∷ rows) e = go (bytes_eq r.id i) refl (values_at_end i how s values rows)
  where
    go : (t : Bool) → bytes_eq r.id i ≡ t
        → (has_row i rows ≡ false → with_values i how s values rows ≡ rows ++ record { id = i; values = values; count = None; source = Some s; reading = how } ∷ [])
        → with_values i how s values (r ∷ rows) ≡ (r ∷ rows) ++ record { id = i; values = values; count = None; source = Some s; reading = how } ∷ []
    go true f rest = let bad : true ≡ false = rw f at e in cc bad
    go false f rest = rw f (ap (λ l. r ∷ l) (rest (rw f at e)))

put_at_end : (r : Rule) (v : Text) (rows : List Row) → has_row r.id rows ≡ false → put r v rows ≡ rows ++ row r v ∷ []
unfolding put row
put_at_end r v rows e = ap (with_values r.id (reading_by r) CommandLine (v ∷ [])) (none_without r.id rows e) ∙ values_at_end r.id (reading_by r) CommandLine (v ∷ []) rows e

-- ---- the value of an argument

-- the i-th word, where the first is the n-th
abbrev pub word_at : ℕ → ℕ → List Text → Option Text
word_at n i [] = None
word_at n i (word ∷ words) = if n == i then Some word else word_at (suc n) i words

-- by its place among the positional words, by whether it takes a value, and by its name
abbrev pub value_by : Option ℕ → Bool → Text → List Argument → Option Text
value_by (Some i) takes name g = word_at 1 i (positionals g)
value_by None true name g = first (values name g)
value_by None false name g = cond (is_any (flags name g)) (Some (codes "true")) None

abbrev pub value : List Argument → Rule → Option Text
value g r = value_by r.index (takes_values r) r.id g

own_row : (r : Rule) (v : Text) → look r.id (row r v ∷ []) ≡ Some (row r v)
unfolding row
own_row r v = rw ((bytes_eq-Decides r.id r.id).1 refl) refl

other_row : (r : Rule) (id v : Text) → bytes_eq r.id id ≡ false → look id (row r v ∷ []) ≡ None
unfolding row
other_row r id v e = rw e refl

pub or_none : (o : Option Row) → option_or o None ≡ o
or_none None = refl
or_none (Some r) = refl

mapped : (r : Rule) (o : Option Text) → is_some (option_map (row r) o) ≡ is_some o
mapped r None = refl
mapped r (Some v) = refl

nothing_yet : (i : Option ℕ) (t : Bool) (name : Text) → None ≡ value_by i t name []
nothing_yet (Some i) t name = refl
nothing_yet None true name = refl
nothing_yet None false name = refl

module _ (x : Reader) where
  -- rules of one id are one
  pub same_rule : (r s : Rule) → IsRule x r → IsRule x s → bytes_eq r.id s.id ≡ true → r ≡ s
  same_rule r s a b e =
      let both : Some r ≡ Some s = sym a.by_id ∙ ap (arg_by_id x.shape.rules) ((bytes_eq-Decides r.id s.id).0 e) ∙ b.by_id in
      cc both

  -- the rows hold these arguments
  pub Sees : List Row → List Argument → Type 0
  Sees rows g = (r : Rule) → IsRule x r → look r.id rows ≡ option_map (row r) (value g r)

  -- one more argument has a value
  pub record Changes (g after : List Argument) (r : Rule) (v : Text) : Type 0 where
    pub none : value g r ≡ None
    pub some : value after r ≡ Some v
    pub others : (s : Rule) → IsRule x s → bytes_eq r.id s.id ≡ false → value after s ≡ value g s

  by_rule : (g after : List Argument) (r s : Rule) (v : Text) (rows : List Row) (t : Bool) → IsRule x r → IsRule x s → bytes_eq r.id s.id ≡ t → Sees rows g → Changes g after r v
      → look s.id (rows ++ row r v ∷ []) ≡ option_map (row s) (value after s)
  unfolding Sees
  by_rule g after r s v rows true a b e sees change =
      subst (λ (s : Rule). look s.id (rows ++ row r v ∷ []) ≡ option_map (row s) (value after s)) (same_rule r s a b e)
      (find-append (λ q. bytes_eq q.id r.id) rows (row r v ∷ []) ∙ ap (λ o. option_or o (look r.id (row r v ∷ []))) (sees r a ∙ ap (option_map (row r)) change.none)
      ∙ own_row r v ∙ sym (ap (option_map (row r)) change.some))
  by_rule g after r s v rows false a b e sees change =
      find-append (λ q. bytes_eq q.id s.id) rows (row r v ∷ []) ∙ ap (option_or (look s.id rows)) (other_row r s.id v e) ∙ or_none (look s.id rows)
      ∙ sees s b ∙ sym (ap (option_map (row s)) (change.others s b e))

  -- an argument has a row exactly where it has a value
  pub row_seen : (g : List Argument) (r : Rule) (rows : List Row) → IsRule x r → Sees rows g → has_row r.id rows ≡ is_some (value g r)
  unfolding Sees
  row_seen g r rows a sees = has_look r.id rows ∙ ap is_some (sees r a) ∙ mapped r (value g r)

  pub sees_put : (g after : List Argument) (r : Rule) (v : Text) (rows : List Row) → IsRule x r → Sees rows g → Changes g after r v → Sees (put r v rows) after
  unfolding Sees
  sees_put g after r v rows a sees change = λ s b.
      ap (look s.id) (put_at_end r v rows (row_seen g r rows a sees ∙ ap is_some change.none)) ∙ by_rule g after r s v rows (bytes_eq r.id s.id) a b refl sees change

  -- without rows there are no arguments
  pub sees_nothing : Sees [] []
  unfolding Sees
  sees_nothing = λ r a. ap (option_map (row r)) (nothing_yet r.index (takes_values r) r.id)

  pub seen_at : (rows : List Row) (g : List Argument) (r : Rule) → IsRule x r → Sees rows g → look r.id rows ≡ option_map (row r) (value g r)
  unfolding Sees
  seen_at rows g r a sees = sees r a
