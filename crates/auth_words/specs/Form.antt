-- What one word is, where no option waits for its value and no `--` has stood.
use Rattle.std.specs.Prelude.{ℕ, Bool, ◌==◌, if◌then◌else◌, bytes_eq, find, List, [], ◌∷◌, Option, Some, None}
use Rattle.std.specs.List.{list_any, before_first, after_first}
use Rattle.std.specs.Option.{option_map}

-- what a command takes: options with a value and flags, by their names, and the letters of some options
pub record Grammar : Type 0 where
  pub options : List (List ℕ)
  pub letters : List (ℕ × List ℕ)
  pub flags : List (List ℕ)

-- a positional word, an option with its value, an option whose value is the next word, a flag, `--`, or no word that counts
pub data Form : Type 0 where
  positional : Form
  valued : List ℕ → List ℕ → Form
  asking : List ℕ → Form
  flag : List ℕ → Form
  ending : Form
  unknown : Form

-- it is one of these names
abbrev pub is_among : List (List ℕ) → List ℕ → Bool
is_among names name = list_any (λ other. bytes_eq other name) names

-- the option with this name
abbrev pub option_named : Grammar → List ℕ → Option (List ℕ)
option_named grammar name = if is_among grammar.options name then Some name else None

-- the option with this letter
abbrev pub option_lettered : Grammar → ℕ → Option (List ℕ)
option_lettered grammar letter = option_map (λ x. x.1) (find (λ x. x.0 == letter) grammar.letters)

-- an option, if there is one, with the value that stands in its word, if one does
abbrev pub option_form : Option (List ℕ) → Option (List ℕ) → Form
option_form (Some name) (Some value) = valued name value
option_form (Some name) None = asking name
option_form None value = unknown

-- `=`
abbrev pub is_equals : ℕ → Bool
is_equals b = b == 61

-- `NAME`
abbrev pub lone_form : Grammar → List ℕ → Form
lone_form grammar name = if is_among grammar.flags name then flag name else option_form (option_named grammar name) None

-- `NAME=VALUE`, where the value is all that follows the first `=`, or `NAME`
abbrev pub named_form : Grammar → List ℕ → Form
named_form grammar text =
    if list_any is_equals text then option_form (option_named grammar (before_first is_equals text)) (Some (after_first is_equals text)) else
    lone_form grammar text

-- what follows `--`
unfoldable pub long_form : Grammar → List ℕ → Form
long_form grammar [] = ending
long_form grammar (b ∷ bytes) = named_form grammar (b ∷ bytes)

-- what follows the letter of an option: its value with or without a leading `=`, or nothing
abbrev pub attached : List ℕ → Option (List ℕ)
attached [] = None
attached (b ∷ bytes) = if is_equals b then Some bytes else Some (b ∷ bytes)

-- what follows `-`: the letter of an option, and its value
unfoldable pub short_form : Grammar → List ℕ → Form
short_form grammar [] = unknown
short_form grammar (b ∷ bytes) = option_form (option_lettered grammar b) (attached bytes)

-- what follows a first `-`, which is 45: nothing, another, or a letter
unfoldable pub dashed_form : Grammar → List ℕ → Form
dashed_form grammar [] = positional
dashed_form grammar (b ∷ bytes) = if b == 45 then long_form grammar bytes else short_form grammar (b ∷ bytes)

-- a word; `-` alone is positional
unfoldable pub form_of : Grammar → List ℕ → Form
form_of grammar [] = positional
form_of grammar (b ∷ bytes) = if b == 45 then dashed_form grammar bytes else positional
