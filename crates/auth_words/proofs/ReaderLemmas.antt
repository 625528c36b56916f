-- A command as the rule reads it and as clap does.
use Rattle.std.proofs.Common.{◌≡◌, ℕ, ◌<◌, ◌+◌, min, Bool, true, false, cond, ◌&&◌, ◌||◌, List, [], ◌∷◌, codes, refl, drop, subst, ap, ◌∙◌, Option, Some, None}
use Rattle.std.specs.Prelude.{fold, is_some, nat_le, slice_get, encode_utf8}
use Rattle.std.specs.List.{AllByRecursion, list_all}
use Rattle.std.specs.Str.{chars, IsUtf8}
use Rattle.clap.specs.Kinds.{or_else}
use Rattle.clap.specs.Words.{App, Kinds, Rule, Row, Shape, Text, fault_of, matches_of, new_rule}
use Rattle.clap.specs.Simple.{argument_words, built, entered, filled, names_of, with_index}
use Rattle.clap.specs.Walk.{Held, Walk, idle, arg_by_id, arg_by_index, arg_by_long, arg_by_short, takes_values, takes_several, is_append, action_of, finished, walk, has_row, nothing_held, reading_by, row_text, used, walked, with_default, with_values, without, most_values}
use Rattle.clap.specs.Faults.{built_fault, check_fault, default_fault, entered_fault, level_fault, use_fault}
use Rattle.clap.specs.Takes.{is_given}
use Rattle.clap.specs.declared.builder.action.ArgAction.TheVariants.{SetTrue}
use Rattle.clap.specs.declared.parser.matches.ValueSource.TheVariants.{CommandLine, DefaultValue}
use Rattle.clap.specs.declared.error.kind.ErrorKind.TheVariants as kind
use Rattle.auth_words.specs.Form.{Grammar, is_among, option_lettered}

-- there is no kind
abbrev pub none : Kinds → Bool
none [] = true
none (k ∷ ks) = false

-- ---- rules, filled in by clap

abbrev pub an_option : Text → Option ℕ → Bool → Rule
an_option name letter required = filled (record (new_rule name) { long = Some name; short = letter; required = required })

abbrev pub a_flag : Text → Rule
a_flag name = filled (record (new_rule name) { long = Some name; action = Some SetTrue })

abbrev pub a_word : Text → ℕ → Rule
a_word name i = with_index i (filled (record (new_rule name) { required = true }))

-- the kinds of a second use
abbrev pub conflict : Bool → Kinds
conflict true = kind.ArgumentConflict ∷ []
conflict false = []

again : (t : Bool) → or_else (cond (t && true) (kind.ArgumentConflict ∷ []) []) [] ≡ conflict t
again true = refl
again false = refl

-- what a use puts into the rows
unfoldable pub put : Rule → Text → List Row → List Row
put r v rows = with_values r.id (reading_by r) CommandLine (v ∷ []) (without r.id rows)

unfoldable pub row : Rule → Text → Row
row r v = record { id = r.id; values = v ∷ []; count = None; source = Some CommandLine; reading = reading_by r }

-- the row of a flag that isn't given
unfoldable pub off : Rule → Row
off r = record { id = r.id; values = codes "false" ∷ []; count = None; source = Some DefaultValue; reading = reading_by r }

-- an argument that takes one value
pub record TakesOne (r : Rule) : Type 0 where
  pub takes : takes_values r ≡ true
  pub several : takes_several r ≡ false
  pub append : is_append (action_of r) ≡ false
  pub trailing : r.trailing_var_arg ≡ false
  pub most : most_values r ≡ 1
  pub use_one : (v : Text) (rows : List Row) → use_fault false r (v ∷ []) rows ≡ conflict (has_row r.id rows)
  pub use_none : (rows : List Row) → use_fault false r [] rows ≡ kind.InvalidValue ∷ []
  pub used_one : (v : Text) (rows : List Row) → used r (v ∷ []) rows ≡ put r v rows
  pub defaults : r.defaults ≡ []

-- an argument that takes none
pub record IsSwitch (r : Rule) : Type 0 where
  pub takes : takes_values r ≡ false
  pub use_it : (rows : List Row) → use_fault false r [] rows ≡ conflict (has_row r.id rows)
  pub used_so : (rows : List Row) → used r [] rows ≡ put r (codes "true") rows
  pub default_is : (rows : List Row) → with_default rows r ≡ cond (has_row r.id rows) rows (with_values r.id (reading_by r) DefaultValue (codes "false" ∷ []) rows)
  pub default_passes : (rows : List Row) → default_fault rows r ≡ []
  pub on_text : row_text (row r (codes "true")) ≡ Some (codes "true")
  pub off_text : row_text (off r) ≡ Some (codes "false")

if_same : {A : Type 0} (t : Bool) (x : A) → cond t x x ≡ x
if_same true x = refl
if_same false x = refl

pub option_takes : (name : Text) (letter : Option ℕ) (required : Bool) → TakesOne (an_option name letter required)
unfolding put
option_takes name letter required = record {
  takes = refl;
  several = refl;
  append = refl;
  trailing = refl;
  most = refl;
  use_one = λ v rows. again (has_row name rows);
  use_none = λ rows. refl;
  used_one = λ v rows. refl;
  defaults = refl;
}

pub word_takes : (name : Text) (i : ℕ) → TakesOne (a_word name i)
unfolding put
word_takes name i = record {
  takes = refl;
  several = refl;
  append = refl;
  trailing = refl;
  most = refl;
  use_one = λ v rows. again (has_row name rows);
  use_none = λ rows. refl;
  used_one = λ v rows. refl;
  defaults = refl;
}

pub flag_is_switch : (name : Text) → IsSwitch (a_flag name)
unfolding put row off
flag_is_switch name = record {
  takes = refl;
  use_it = λ rows. again (has_row name rows);
  used_so = λ rows. refl;
  default_is = λ rows. refl;
  default_passes = λ rows. if_same (has_row name rows || false) [];
  on_text = refl;
  off_text = refl;
}

-- ---- commands

pub record Reader : Type 0 where
  pub grammar : Grammar
  -- as clap has it, and as clap has built it
  pub app : App
  pub shape : Shape
  -- how many positional words there may be
  pub count : ℕ
  -- what has to be given
  pub needed : List Rule

-- it is the rule of its id, and of its place if it has one
pub record IsRule (x : Reader) (r : Rule) : Type 0 where
  pub by_id : arg_by_id x.shape.rules r.id ≡ Some r
  pub by_index : (i : ℕ) → r.index ≡ Some i → arg_by_index x.shape.rules i ≡ Some r

pub record IsOption (x : Reader) (name : Text) (r : Rule) : Type 0 where
  pub is : IsRule x r
  pub id : r.id ≡ name
  pub index : r.index ≡ None
  pub takes : TakesOne r
  pub long : arg_by_long x.shape.rules name ≡ Some r

pub record IsFlag (x : Reader) (name : Text) (r : Rule) : Type 0 where
  pub is : IsRule x r
  pub id : r.id ≡ name
  pub index : r.index ≡ None
  pub switch : IsSwitch r
  pub long : arg_by_long x.shape.rules name ≡ Some r

-- what follows a `-`: the letter of an option, or no letter that counts
pub data Initial (x : Reader) (b : ℕ) (bytes : Text) : Type 0 where
  a_letter : (name : Text) (r : Rule) → option_lettered x.grammar b ≡ Some name → is_among x.grammar.options name ≡ true → IsOption x name r
      → slice_get (chars (b ∷ bytes)) 0 ≡ Some b → arg_by_short x.shape.rules b ≡ Some r → encode_utf8 b ≡ b ∷ [] → Initial x b bytes
  no_letter : (c : ℕ) → option_lettered x.grammar b ≡ None → slice_get (chars (b ∷ bytes)) 0 ≡ Some c → arg_by_short x.shape.rules c ≡ None → Initial x b bytes

-- the n-th positional word
pub data Nth (x : Reader) (n : ℕ) : Type 0 where
  a_place : (r : Rule) → arg_by_index x.shape.rules n ≡ Some r → r.index ≡ Some n → IsRule x r → TakesOne r → nat_le n x.count ≡ true
      → min (n + 1) 18446744073709551615 ≡ n + 1 → Nth x n
  no_place : arg_by_index x.shape.rules n ≡ None → nat_le n x.count ≡ false → Nth x n

pub data IsKnown (x : Reader) (r : Rule) : Type 0 where
  taking : IsRule x r → TakesOne r → IsKnown x r
  switching : IsRule x r → IsSwitch r → IsKnown x r

pub record IsNeeded (x : Reader) (r : Rule) : Type 0 where
  pub is : IsRule x r
  pub takes : TakesOne r

abbrev pub start : Walk
start = record { held = nothing_held; waiting = idle; position = 1; is_trailing = false; stopped = None }

-- what is held behind the words
abbrev pub last : Reader → List Text → Held
last x words = (fold (walked x.shape.rules []) start words).held

-- clap reads by the grammar
pub record Reads (x : Reader) : Type 0 where
  pub option : (name : Text) → is_among x.grammar.options name ≡ true → (r : Rule) × IsOption x name r
  pub flag : (name : Text) → is_among x.grammar.flags name ≡ true → (r : Rule) × IsFlag x name r
  pub apart : (name : Text) → is_among x.grammar.flags name ≡ true → is_among x.grammar.options name ≡ false
  pub other : (name : Text) → is_among x.grammar.options name ≡ false → is_among x.grammar.flags name ≡ false → arg_by_long x.shape.rules name ≡ None
  pub initial : (b : ℕ) (bytes : Text) → IsUtf8 (b ∷ bytes) → Initial x b bytes
  pub nth : (n : ℕ) → 0 < n → Nth x n
  pub known : AllByRecursion (IsKnown x) x.shape.rules
  pub no_override : x.shape.args_override_self ≡ false
  pub leaf : x.shape.is_leaf ≡ true
  pub needs : AllByRecursion (IsNeeded x) x.needed
  pub checks : (rows : List Row) → none (check_fault x.shape rows false) ≡ list_all (λ r. is_given r.id rows) x.needed
  pub fault : (all : List Text) → fault_of x.app all ≡ level_fault x.shape [] nothing_held (drop 1 all) false []
  pub found : (all : List Text) → matches_of x.app all ≡ finished x.shape.rules (last x (drop 1 all))

-- ---- what a command has to show

module _ (x : Reader) (name : Text) where
  pub option_is_rule : (letter : Option ℕ) (required : Bool) → arg_by_id x.shape.rules name ≡ Some (an_option name letter required) → IsRule x (an_option name letter required)
  option_is_rule letter required e = record { by_id = e; by_index = λ i none. cc none }

  pub option_known : (letter : Option ℕ) (required : Bool) → arg_by_id x.shape.rules name ≡ Some (an_option name letter required) → IsKnown x (an_option name letter required)
  option_known letter required e = taking (option_is_rule letter required e) (option_takes name letter required)

  pub is_option : (letter : Option ℕ) (required : Bool) → arg_by_id x.shape.rules name ≡ Some (an_option name letter required)
      → arg_by_long x.shape.rules name ≡ Some (an_option name letter required) → IsOption x name (an_option name letter required)
  is_option letter required e f =
      record { is = option_is_rule letter required e; id = refl; index = refl; takes = option_takes name letter required; long = f }

  pub flag_is_rule : arg_by_id x.shape.rules name ≡ Some (a_flag name) → IsRule x (a_flag name)
  flag_is_rule e = record { by_id = e; by_index = λ i none. cc none }

  pub flag_known : arg_by_id x.shape.rules name ≡ Some (a_flag name) → IsKnown x (a_flag name)
  flag_known e = switching (flag_is_rule e) (flag_is_switch name)

  pub is_flag : arg_by_id x.shape.rules name ≡ Some (a_flag name) → arg_by_long x.shape.rules name ≡ Some (a_flag name) → IsFlag x name (a_flag name)
  is_flag e f = record { is = flag_is_rule e; id = refl; index = refl; switch = flag_is_switch name; long = f }

  pub word_is_rule : (n : ℕ) → arg_by_id x.shape.rules name ≡ Some (a_word name n) → arg_by_index x.shape.rules n ≡ Some (a_word name n) → IsRule x (a_word name n)
  word_is_rule n e f = record {
    by_id = e;
    by_index = λ i same. let is : n ≡ i = cc same in subst (λ (m : ℕ). arg_by_index x.shape.rules m ≡ Some (a_word name n)) is f;
  }

  pub word_known : (n : ℕ) → arg_by_id x.shape.rules name ≡ Some (a_word name n) → arg_by_index x.shape.rules n ≡ Some (a_word name n) → IsKnown x (a_word name n)
  word_known n e f = taking (word_is_rule n e f) (word_takes name n)

  pub word_needed : (n : ℕ) → arg_by_id x.shape.rules name ≡ Some (a_word name n) → arg_by_index x.shape.rules n ≡ Some (a_word name n) → IsNeeded x (a_word name n)
  word_needed n e f = record { is = word_is_rule n e f; takes = word_takes name n }

module _ (app : App) (shape : Shape) (is_built : built app ≡ record { top = shape; subs = [] }) where
  no_subcommand : (words : List Text) (stop : Option (Text × List Text))
      → level_fault shape [] nothing_held words (is_some (entered (record { top = shape; subs = [] }) stop)) (entered_fault (record { top = shape; subs = [] }) stop)
      ≡ level_fault shape [] nothing_held words false []
  no_subcommand words None = refl
  no_subcommand words (Some stop) = refl

  pub leaf_fault : (all words : List Text) → argument_words app all ≡ words → fault_of app all ≡ level_fault shape [] nothing_held words false []
  leaf_fault all words e =
      ap (λ b. built_fault b nothing_held (argument_words app all)) is_built ∙ ap (λ w. built_fault (record { top = shape; subs = [] }) nothing_held w) e
      ∙ no_subcommand words (walk shape.rules [] nothing_held words).stopped

  pub leaf_found : (all words : List Text) → argument_words app all ≡ words → matches_of app all ≡ finished shape.rules (fold (walked shape.rules []) start words).held
  leaf_found all words e =
      ap (λ (b : App). finished b.top.rules (walk b.top.rules (names_of b) nothing_held (argument_words app all)).held) is_built
      ∙ ap (λ w. finished shape.rules (walk shape.rules [] nothing_held w).held) e
