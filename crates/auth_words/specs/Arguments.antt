-- The arguments that words are, read from left to right.
use Rattle.std.specs.Prelude.{ℕ, ◌==◌, ◌&&◌, Bool, true, false, not, if◌then◌else◌, bytes_eq, List, [], ◌∷◌, Option, Some, None}
use Rattle.std.specs.List.{filter_map, list_all}
use Rattle.std.specs.Option.{option_map}
use Rattle.auth_words.specs.Form.{Grammar, Form, form_of}
use Rattle.auth_words.specs.Form as form

-- a positional word, an option with its value, or a flag
pub data Argument : Type 0 where
  positional : List ℕ → Argument
  valued : List ℕ → List ℕ → Argument
  flag : List ℕ → Argument

-- the next word may be an option's value: it doesn't begin with `-`, which is 45, or is `-` alone
abbrev pub is_value : List ℕ → Bool
is_value [] = true
is_value (b ∷ []) = true
is_value (b ∷ c ∷ bytes) = not (b == 45)

-- an argument, and then the rest
abbrev pub then_rest : Argument → Option (List Argument) → Option (List Argument)
then_rest argument rest = option_map (λ arguments. argument ∷ arguments) rest

-- where a reading of words stands: between arguments, behind an option that waits for its value, or behind `--`
pub data Place : Type 0 where
  Between : Place
  Waiting : List ℕ → Place
  Behind : Place

-- a word between arguments, and then the rest from where it leads
abbrev pub between : Form → List ℕ → (Place → Option (List Argument)) → Option (List Argument)
between form.positional word rest = then_rest (positional word) (rest Between)
between (form.valued name value) word rest = then_rest (valued name value) (rest Between)
between (form.asking name) word rest = rest (Waiting name)
between (form.flag name) word rest = then_rest (flag name) (rest Between)
between form.ending word rest = rest Behind
between form.unknown word rest = None

-- the arguments of words: read between arguments, where an option waits for its value, or behind `--`
abbrev pub arguments_from : Grammar → Place → List (List ℕ) → Option (List Argument)
arguments_from grammar Between [] = Some []
arguments_from grammar (Waiting name) [] = None
arguments_from grammar Behind [] = Some []
arguments_from grammar Between (word ∷ words) = between (form_of grammar word) word (λ place. arguments_from grammar place words)
arguments_from grammar (Waiting name) (word ∷ words) =
    if is_value word then then_rest (valued name word) (arguments_from grammar Between words) else None
arguments_from grammar Behind (word ∷ words) = then_rest (positional word) (arguments_from grammar Behind words)

abbrev pub positional_in : Argument → Option (List ℕ)
positional_in (positional word) = Some word
positional_in (valued name value) = None
positional_in (flag name) = None

-- the value that an argument gives the option with this name
abbrev pub value_in : List ℕ → Argument → Option (List ℕ)
value_in name (positional word) = None
value_in name (valued other value) = if bytes_eq other name then Some value else None
value_in name (flag other) = None

-- the flag, where an argument is the flag with this name
abbrev pub flag_in : List ℕ → Argument → Option (List ℕ)
flag_in name (positional word) = None
flag_in name (valued other value) = None
flag_in name (flag other) = if bytes_eq other name then Some other else None

-- the positional words, in their order
abbrev pub positionals : List Argument → List (List ℕ)
positionals arguments = filter_map positional_in arguments

-- the values that an option is given
abbrev pub values : List ℕ → List Argument → List (List ℕ)
values name arguments = filter_map (value_in name) arguments

-- the uses of a flag
abbrev pub flags : List ℕ → List Argument → List (List ℕ)
flags name arguments = filter_map (flag_in name) arguments

-- there is at most one
abbrev pub is_lone : List (List ℕ) → Bool
is_lone [] = true
is_lone (x ∷ []) = true
is_lone (x ∷ y ∷ more) = false

-- each option stands at most once, and so does each flag
abbrev pub each_once : Grammar → List Argument → Bool
each_once grammar arguments =
    list_all (λ name. is_lone (values name arguments)) grammar.options && list_all (λ name. is_lone (flags name arguments)) grammar.flags
