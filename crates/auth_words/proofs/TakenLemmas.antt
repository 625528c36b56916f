-- What clap answers to words, and the arguments that they are.
use Rattle.std.proofs.Common.{◌≡◌, Bool, true, false, cond, ◌&&◌, ◌||◌, List, [], ◌∷◌, ◌++◌, ◌≢◌, drop, codes, refl, sym, ap, ap₂, ◌∙◌, Option, Some, None}
use Rattle.std.specs.Prelude.{fold, is_some, slice_get, option_and_then}
use Rattle.std.specs.Option.{option_map, option_map_or, option_or}
use Rattle.std.specs.List.{AllByRecursion, list_all}
use Rattle.std.specs.Str.{bytes_eq}
use Rattle.std.proofs.lemmas.List.Folds.{find-append}
use Rattle.std.proofs.lemmas.Slice.Eq.{bytes_eq-Decides}
use Rattle.clap.specs.Kinds.{or_else}
use Rattle.clap.specs.Words.{Kinds, Row, Rule, Text, fault_of, matches_of, first_of, one_of}
use Rattle.clap.specs.Walk.{finished, with_default, row_text, has_row, reading_by, takes_values, arg_by_id}
use Rattle.clap.specs.Faults.{settle_fault, default_fault, defaults_fault, check_fault, walk_fault}
use Rattle.clap.specs.Takes.{is_given}
use Rattle.clap.specs.Facts.{explicit_source}
use Rattle.clap.specs.declared.parser.matches.ValueSource.TheVariants.{DefaultValue}
use Rattle.auth_words.specs.Arguments.{Argument, Between, arguments_from, flags}
use Rattle.auth_words.specs.Words.{is_any}
use Rattle.auth_words.specs.GivenInside.{flag_text}
use Rattle.auth_words.proofs.ReaderLemmas.{Reader, Reads, IsRule, TakesOne, IsSwitch, IsKnown, taking, switching, IsNeeded, none, row, off, start, last}
use Rattle.auth_words.proofs.RowLemmas.{look, has_look, value, Sees, seen_at, values_at_end, or_none, same_rule}
use Rattle.auth_words.proofs.ChangeLemmas.{is_fine, empty_fine, flag_value}
use Rattle.auth_words.proofs.DoomLemmas.{ends, Texts}
use Rattle.auth_words.proofs.SameLemmas.{Result, refused, too_many, taken_so, end_rows, from_first}

two_parts : (a b c : Kinds) → none (or_else a (or_else [] (or_else b c))) ≡ (none (or_else a b) && none c)
two_parts [] [] c = refl
two_parts [] (k ∷ ks) c = refl
two_parts (k ∷ ks) b c = refl

if_same : {A : Type 0} (t : Bool) (y : A) → cond t y y ≡ y
if_same true y = refl
if_same false y = refl

or_true : (t : Bool) → (t || true) ≡ true
or_true true = refl
or_true false = refl

-- ---- defaults

plain_default : (r : Rule) (rows : List Row) → TakesOne r → with_default rows r ≡ rows
plain_default r rows takes = rw takes.defaults (if_same (has_row r.id rows) rows)

plain_passes : (r : Rule) (rows : List Row) → TakesOne r → default_fault rows r ≡ []
plain_passes r rows takes = rw (takes.defaults, or_true (has_row r.id rows)) refl

off_at_end : (r : Rule) (rows : List Row) (t : Bool) → IsSwitch r → has_row r.id rows ≡ t → with_default rows r ≡ cond t rows (rows ++ off r ∷ [])
unfolding off
off_at_end r rows true switch e = switch.default_is rows ∙ rw e refl
off_at_end r rows false switch e = switch.default_is rows ∙ rw e (values_at_end r.id (reading_by r) DefaultValue (codes "false" ∷ []) rows e)

look_off : (r : Rule) (id : Text) (rows : List Row) → look id (rows ++ off r ∷ []) ≡ option_or (look id rows) (look id (off r ∷ []))
look_off r id rows = find-append (λ q. bytes_eq q.id id) rows (off r ∷ [])

other_off : (r : Rule) (id : Text) → bytes_eq r.id id ≡ false → look id (off r ∷ []) ≡ None
unfolding off
other_off r id e = rw e refl

own_off : (r : Rule) → look r.id (off r ∷ []) ≡ Some (off r)
unfolding off
own_off r = rw ((bytes_eq-Decides r.id r.id).1 refl) refl

explicit : (r : Rule) (o : Option Text) → option_map_or (λ q. explicit_source q.source) (option_map (row r) o) false ≡ is_some o
unfolding row
explicit r None = refl
explicit r (Some v) = refl

its_value : (r : Rule) (o : Option Text) → option_and_then (λ q. slice_get q.values 0) (option_map (row r) o) ≡ o
unfolding row
its_value r None = refl
its_value r (Some v) = refl

module _ (x : Reader) where
  default_passes : (r : Rule) (rows : List Row) → IsKnown x r → default_fault rows r ≡ []
  default_passes r rows (taking is takes) = plain_passes r rows takes
  default_passes r rows (switching is switch) = switch.default_passes rows

  -- no default is at fault
  defaults_pass : (rules : List Rule) (rows : List Row) → AllByRecursion (IsKnown x) rules → defaults_fault rows rules ≡ []
  unfolding defaults_fault
  defaults_pass [] rows known = refl
  defaults_pass (r ∷ rules) rows known =
      ap (λ k. or_else k (defaults_fault (with_default rows r) rules)) (default_passes r rows known.0) ∙ defaults_pass rules (with_default rows r) known.1

  -- a default adds at most the row of its own argument
  else_by : (r : Rule) (id : Text) (rows : List Row) (t : Bool) → IsSwitch r → has_row r.id rows ≡ t → bytes_eq r.id id ≡ false → look id (with_default rows r) ≡ look id rows
  else_by r id rows true switch e d = ap (look id) (off_at_end r rows true switch e)
  else_by r id rows false switch e d = ap (look id) (off_at_end r rows false switch e) ∙ look_off r id rows ∙ ap (option_or (look id rows)) (other_off r id d) ∙ or_none (look id rows)

  elsewhere : (r : Rule) (id : Text) (rows : List Row) → IsKnown x r → bytes_eq r.id id ≡ false → look id (with_default rows r) ≡ look id rows
  elsewhere r id rows (taking is takes) d = ap (look id) (plain_default r rows takes)
  elsewhere r id rows (switching is switch) d = else_by r id rows (has_row r.id rows) switch refl d

  kept_by : (r : Rule) (id : Text) (q : Row) (rows : List Row) (t : Bool) → IsSwitch r → has_row r.id rows ≡ t → look id rows ≡ Some q → look id (with_default rows r) ≡ Some q
  kept_by r id q rows true switch e h = ap (look id) (off_at_end r rows true switch e) ∙ h
  kept_by r id q rows false switch e h = ap (look id) (off_at_end r rows false switch e) ∙ look_off r id rows ∙ ap (λ o. option_or o (look id (off r ∷ []))) h

  kept_one : (r : Rule) (id : Text) (q : Row) (rows : List Row) → IsKnown x r → look id rows ≡ Some q → look id (with_default rows r) ≡ Some q
  kept_one r id q rows (taking is takes) h = ap (look id) (plain_default r rows takes) ∙ h
  kept_one r id q rows (switching is switch) h = kept_by r id q rows (has_row r.id rows) switch refl h

  -- a row that is there stays
  kept : (rules : List Rule) (id : Text) (q : Row) (rows : List Row) → AllByRecursion (IsKnown x) rules → look id rows ≡ Some q → look id (fold with_default rows rules) ≡ Some q
  kept [] id q rows known h = h
  kept (r ∷ rules) id q rows known h = kept rules id q (with_default rows r) known.1 (kept_one r id q rows known.0 h)

  plain_by : (r s : Rule) (rows : List Row) (t : Bool) → IsKnown x r → IsRule x s → TakesOne s → bytes_eq r.id s.id ≡ t → look s.id (with_default rows r) ≡ look s.id rows
  plain_by r s rows t (taking a takes) is_s takes_s e = ap (look s.id) (plain_default r rows takes)
  plain_by r s rows true (switching a switch) is_s takes_s e =
      let same : takes_values r ≡ takes_values s = ap takes_values (same_rule x r s a is_s e) in
      let bad : false ≡ true = sym switch.takes ∙ same ∙ takes_s.takes in cc bad
  plain_by r s rows false (switching a switch) is_s takes_s e = elsewhere r s.id rows (switching a switch) e

  -- an argument with a value has no default
  plain_row : (rules : List Rule) (s : Rule) (rows : List Row) → AllByRecursion (IsKnown x) rules → IsRule x s → TakesOne s → look s.id (fold with_default rows rules) ≡ look s.id rows
  plain_row [] s rows known is takes = refl
  plain_row (r ∷ rules) s rows known is takes = plain_row rules s (with_default rows r) known.1 is takes ∙ plain_by r s rows (bytes_eq r.id s.id) known.0 is takes refl

  no_row : (s : Rule) (rows : List Row) → look s.id rows ≡ None → has_row s.id rows ≡ false
  no_row s rows h = has_look s.id rows ∙ ap is_some h

  own_default : (s : Rule) (rows : List Row) → IsSwitch s → look s.id rows ≡ None → look s.id (with_default rows s) ≡ Some (off s)
  own_default s rows switch h =
      ap (look s.id) (off_at_end s rows false switch (no_row s rows h)) ∙ look_off s s.id rows ∙ ap (λ o. option_or o (look s.id (off s ∷ []))) h ∙ own_off s

  off_by : (r s : Rule) (rules : List Rule) (rows : List Row) (t : Bool) → IsKnown x r → AllByRecursion (IsKnown x) rules → IsSwitch s → bytes_eq r.id s.id ≡ t → look s.id rows ≡ None
      → (arg_by_id rules s.id ≡ Some s → look s.id (with_default rows r) ≡ None → look s.id (fold with_default (with_default rows r) rules) ≡ Some (off s))
      → cond t (Some r) (arg_by_id rules s.id) ≡ Some s → look s.id (fold with_default (with_default rows r) rules) ≡ Some (off s)
  off_by r s rules rows true known all switch e h rest found =
      let same : r ≡ s = cc found in
      kept rules s.id (off s) (with_default rows r) all (ap (λ q. look s.id (with_default rows q)) same ∙ own_default s rows switch h)
  off_by r s rules rows false known all switch e h rest found = rest found (elsewhere r s.id rows known e ∙ h)

  -- a flag that isn't given has its default
  off_row : (rules : List Rule) (s : Rule) (rows : List Row) → AllByRecursion (IsKnown x) rules → IsSwitch s → arg_by_id rules s.id ≡ Some s → look s.id rows ≡ None
      → look s.id (fold with_default rows rules) ≡ Some (off s)
  off_row [] s rows known switch among h = cc among
  off_row (r ∷ rules) s rows known switch among h =
      off_by r s rules rows (bytes_eq r.id s.id) known.0 known.1 switch refl h (λ found g. off_row rules s (with_default rows r) known.1 switch found g) among

-- what is found behind the words
abbrev behind : Reader → List Text → Kinds
behind x words = or_else (defaults_fault (end_rows x start words) x.shape.rules) (check_fault x.shape (finished x.shape.rules (last x words)) false)

-- what clap makes of words that it may take
pub record Read (x : Reader) (all : List Text) (g : List Argument) : Type 0 where
  pub passes : none (fault_of x.app all) ≡ list_all (λ r. is_some (value g r)) x.needed
  pub given : (r : Rule) → IsRule x r → TakesOne r → first_of r.id (matches_of x.app all) ≡ value g r
  pub said : (r : Rule) → IsRule x r → IsSwitch r → r.index ≡ None → one_of r.id (matches_of x.app all) ≡ Some (flag_text (is_any (flags r.id g)))

-- clap refuses words that aren't arguments, or have too many; of others it takes those that have what is needed
pub data Answer (x : Reader) (all : List Text) : Option (List Argument) → Type 0 where
  no_arguments : none (fault_of x.app all) ≡ false → Answer x all None
  too_many_arguments : (g : List Argument) → none (fault_of x.app all) ≡ false → is_fine x g ≡ false → Answer x all (Some g)
  read : (g : List Argument) → is_fine x g ≡ true → Read x all g → Answer x all (Some g)

module _ (x : Reader) (ok : Reads x) where
  fault_parts : (all : List Text) → none (fault_of x.app all) ≡ (none (ends x start (drop 1 all)) && none (behind x (drop 1 all)))
  fault_parts all =
      let settle : Bool → Kinds = λ t. settle_fault x.shape.rules t (last x (drop 1 all)) in
      ap none (ok.fault all)
      ∙ ap (λ t. none (or_else (walk_fault x.shape [] start (drop 1 all)) (or_else [] (or_else (settle t) (behind x (drop 1 all)))))) ok.no_override
      ∙ two_parts (walk_fault x.shape [] start (drop 1 all)) (settle false) (behind x (drop 1 all))

  rows_are : (all : List Text) → matches_of x.app all ≡ fold with_default (end_rows x start (drop 1 all)) x.shape.rules
  rows_are all = ok.found all

  given_by : (words : List Text) (g : List Argument) (r : Rule) → Sees x (end_rows x start words) g → IsRule x r → TakesOne r
      → is_given r.id (finished x.shape.rules (last x words)) ≡ is_some (value g r)
  given_by words g r sees is takes =
      ap (λ o. option_map_or (λ q. explicit_source q.source) o false) (plain_row x x.shape.rules r (end_rows x start words) ok.known is takes ∙ seen_at x (end_rows x start words) g r is sees)
      ∙ explicit r (value g r)

  all_given : (rules : List Rule) (words : List Text) (g : List Argument) → Sees x (end_rows x start words) g → AllByRecursion (IsNeeded x) rules
      → list_all (λ r. is_given r.id (finished x.shape.rules (last x words))) rules ≡ list_all (λ r. is_some (value g r)) rules
  all_given [] words g sees needs = refl
  all_given (r ∷ rules) words g sees needs = ap₂ (λ a b. a && b) (given_by words g r sees needs.0.is needs.0.takes) (all_given rules words g sees needs.1)

  behind_is : (words : List Text) (g : List Argument) → Sees x (end_rows x start words) g → none (behind x words) ≡ list_all (λ r. is_some (value g r)) x.needed
  behind_is words g sees =
      ap (λ k. none (or_else k (check_fault x.shape (finished x.shape.rules (last x words)) false))) (defaults_pass x x.shape.rules (end_rows x start words) ok.known)
      ∙ ok.checks (finished x.shape.rules (last x words)) ∙ all_given x.needed words g sees ok.needs

  given_is : (all : List Text) (g : List Argument) (r : Rule) → Sees x (end_rows x start (drop 1 all)) g → IsRule x r → TakesOne r → first_of r.id (matches_of x.app all) ≡ value g r
  given_is all g r sees is takes =
      ap (first_of r.id) (rows_are all)
      ∙ ap (option_and_then (λ q. slice_get q.values 0)) (plain_row x x.shape.rules r (end_rows x start (drop 1 all)) ok.known is takes ∙ seen_at x (end_rows x start (drop 1 all)) g r is sees)
      ∙ its_value r (value g r)

  said_by : (rows : List Row) (g : List Argument) (r : Rule) (t : Bool) → Sees x rows g → IsRule x r → IsSwitch r → r.index ≡ None → is_any (flags r.id g) ≡ t
      → option_and_then row_text (look r.id (fold with_default rows x.shape.rules)) ≡ Some (flag_text t)
  said_by rows g r true sees is switch i e =
      ap (option_and_then row_text) (kept x x.shape.rules r.id (row r (codes "true")) rows ok.known
      (seen_at x rows g r is sees ∙ ap (option_map (row r)) (flag_value g r i switch.takes ∙ ap (λ t. cond t (Some (codes "true")) None) e))) ∙ switch.on_text
  said_by rows g r false sees is switch i e =
      ap (option_and_then row_text) (off_row x x.shape.rules r rows ok.known switch is.by_id
      (seen_at x rows g r is sees ∙ ap (option_map (row r)) (flag_value g r i switch.takes ∙ ap (λ t. cond t (Some (codes "true")) None) e))) ∙ switch.off_text

  said_is : (all : List Text) (g : List Argument) (r : Rule) → Sees x (end_rows x start (drop 1 all)) g → IsRule x r → IsSwitch r → r.index ≡ None
      → one_of r.id (matches_of x.app all) ≡ Some (flag_text (is_any (flags r.id g)))
  said_is all g r sees is switch i =
      ap (one_of r.id) (rows_are all) ∙ said_by (end_rows x start (drop 1 all)) g r (is_any (flags r.id g)) sees is switch i refl

  by_result : (all : List Text) (o : Option (List Argument)) → Result x start (drop 1 all) o → Answer x all o
  by_result all _ (refused e) = no_arguments (fault_parts all ∙ ap (λ t. t && none (behind x (drop 1 all))) e)
  by_result all _ (too_many g e bad) = too_many_arguments g (fault_parts all ∙ ap (λ t. t && none (behind x (drop 1 all))) e) bad
  by_result all _ (taken_so g e sees fine) = read g fine (record {
    passes = fault_parts all ∙ ap (λ t. t && none (behind x (drop 1 all))) e ∙ behind_is (drop 1 all) g sees;
    given = λ r is takes. given_is all g r sees is takes;
    said = λ r is switch i. said_is all g r sees is switch i;
  })

  pub answer : (all : List Text) → Texts (drop 1 all) → Answer x all (arguments_from x.grammar Between (drop 1 all))
  answer all texts = by_result all (arguments_from x.grammar Between (drop 1 all)) (from_first x ok (drop 1 all) texts (empty_fine x))

-- ---- whether there is a kind

pub no_kinds : (k : Kinds) → none k ≡ true → k ≡ []
no_kinds [] e = refl
no_kinds (k ∷ ks) e = cc e

pub some_kinds : (k : Kinds) → none k ≡ false → k ≢ []
some_kinds [] e is = cc e
some_kinds (k ∷ ks) e is = cc is

pub if_kinds : (k : Kinds) (t : Bool) → none k ≡ t → k ≢ [] → t ≡ false
if_kinds k true e some = absurd (some (no_kinds k e))
if_kinds k false e some = refl

pub if_none : (k : Kinds) (t : Bool) → none k ≡ t → k ≡ [] → t ≡ true
if_none k t e is = sym e ∙ ap none is
