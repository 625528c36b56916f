-- The command `channels`.
use Rattle.std.proofs.Common.{◌≡◌, ◌≢◌, ℕ, ◌<◌, ◌==◌, Bool, true, false, not, cond, ◌&&◌, ◌||◌, List, [], ◌∷◌, drop, length, codes, refl, sym, ap, ◌∙◌, subst, arith, Option, Some, None}
use Rattle.std.specs.Prelude.{nat_le, is_some, option_and_then}
use Rattle.std.specs.List.{AllByRecursion}
use Rattle.std.specs.Str.{IsUtf8}
use Rattle.std.proofs.lemmas.Bool.{and_parts, eqb-true}
use Rattle.std.proofs.lemmas.Bool.Decides.{nat_tests}
use Rattle.clap.specs.Words.{Row, Rule, Shape, Text, built, fault_of, matches_of}
use Rattle.clap.specs.Simple.{argument_words, new_shape}
use Rattle.clap.specs.Walk.{arg_by_long}
use Rattle.clap.specs.Faults.{check_fault}
use Rattle.clap.specs.Takes.{is_given}
use Rattle.clap.specs.declared.error.kind.ErrorKind.TheVariants as kind
use Rattle.auth_words.specs.App.{channels_app}
use Rattle.auth_words.specs.Form.{is_among}
use Rattle.auth_words.specs.Grammars.{channels}
use Rattle.auth_words.specs.Arguments.{Argument, Between, arguments_from, positionals, values, flags, each_once}
use Rattle.auth_words.specs.Words.{first, is_any, channels_from, channels_of, channels_plan_in}
use Rattle.auth_words.specs.GivenInside.{IsChannelsPlanOf}
use Rattle.auth_words.specs.declared.plan.ChannelsPlan.{ChannelsPlan}
use Rattle.auth_words.proofs.ReaderLemmas.{Reader, Reads, IsOption, IsFlag, Initial, no_letter, Nth, a_place, no_place, IsKnown, IsNeeded, an_option, a_flag, a_word, option_takes, flag_is_switch, word_takes, none, option_is_rule, option_known, is_option, flag_is_rule, flag_known, is_flag, word_is_rule, word_known, word_needed, leaf_fault, leaf_found}
use Rattle.auth_words.proofs.ShapeLemmas.{among, none_among, letter_of}
use Rattle.auth_words.proofs.RowLemmas.{word_at}
use Rattle.auth_words.proofs.ChangeLemmas.{is_fine}
use Rattle.auth_words.proofs.DoomLemmas.{Texts}
use Rattle.auth_words.proofs.TakenLemmas.{Read, Answer, no_arguments, too_many_arguments, read, answer, if_kinds, if_none, some_kinds}

abbrev clones : Rule
clones = an_option (codes "clones") None true

abbrev downgrades : Rule
downgrades = a_flag (codes "allow-downgrades")

abbrev unchecked : Rule
unchecked = a_flag (codes "disable-authentication")

abbrev file : Rule
file = a_word (codes "file") 1

-- the command as clap has built it
unfoldable pub shape : Shape
shape = record (new_shape (codes "channels")) {
  rules = clones ∷ downgrades ∷ unchecked ∷ file ∷ [];
  disable_help_flag = true;
  disable_help_subcommand = true;
  is_built = true;
}

abbrev pub reader : Reader
reader = record { grammar = channels; app = channels_app; shape = shape; count = 1; needed = clones ∷ file ∷ [] }

is_built : built channels_app ≡ record { top = shape; subs = [] }
unfolding channels_app shape
is_built = refl

its_words : (all : List Text) → argument_words channels_app all ≡ drop 1 all
unfolding channels_app
its_words all = refl

-- ---- the facts

options_are : AllByRecursion (λ name. (r : Rule) × IsOption reader name r) channels.options
unfolding channels shape
options_are = ((clones, is_option reader _ None true refl refl), tt)

flags_are : AllByRecursion (λ name. (r : Rule) × IsFlag reader name r) channels.flags
unfolding channels shape
flags_are = ((downgrades, is_flag reader _ refl refl), ((unchecked, is_flag reader _ refl refl), tt))

flags_apart : AllByRecursion (λ name. is_among channels.options name ≡ false) channels.flags
unfolding channels
flags_apart = (refl, (refl, tt))

no_other : (name : Text) → is_among channels.options name ≡ false → is_among channels.flags name ≡ false → arg_by_long shape.rules name ≡ None
unfolding channels shape
no_other name o f =
    let options = none_among channels.options name o in
    let flags = none_among channels.flags name f in
    rw (options.0, flags.0, flags.1.0) refl

initial : (b : ℕ) (bytes : Text) → IsUtf8 (b ∷ bytes) → Initial reader b bytes
unfolding channels shape
initial b bytes text =
    let c = letter_of b bytes text in
    no_letter c.0 refl c.1.first refl

nth : (n : ℕ) (t : Bool) → (1 == n) ≡ t → 0 < n → Nth reader n
unfolding shape
nth n true e lt = subst (λ (i : ℕ). Nth reader i) (eqb-true 1 n e) (a_place file refl refl (word_is_rule reader _ 1 refl refl) (word_takes _ 1) refl refl)
nth n false e lt = no_place (rw e refl) (grind (arith, nat_tests, e, lt))

known : AllByRecursion (IsKnown reader) shape.rules
unfolding shape
known = (option_known reader _ None true refl, (flag_known reader _ refl, (flag_known reader _ refl, (word_known reader _ 1 refl refl, tt))))

needs : AllByRecursion (IsNeeded reader) (clones ∷ file ∷ [])
unfolding shape
needs = (record { is = option_is_rule reader _ None true refl; takes = option_takes _ None true }, (word_needed reader _ 1 refl refl, tt))

missing : (a b : Bool) → none (cond (not a || (not b || false)) (kind.MissingRequiredArgument ∷ []) []) ≡ (a && (b && true))
missing true true = refl
missing true false = refl
missing false true = refl
missing false false = refl

checks : (rows : List Row) → none (check_fault shape rows false) ≡ (is_given (codes "clones") rows && (is_given (codes "file") rows && true))
unfolding shape
checks rows = missing (is_given (codes "clones") rows) (is_given (codes "file") rows)

reads : Reads reader
unfolding shape
reads = record {
  option = λ name h. among (λ name. (r : Rule) × IsOption reader name r) channels.options name options_are h;
  flag = λ name h. among (λ name. (r : Rule) × IsFlag reader name r) channels.flags name flags_are h;
  apart = λ name h. among (λ name. is_among channels.options name ≡ false) channels.flags name flags_apart h;
  other = no_other;
  initial = initial;
  nth = λ n lt. nth n (1 == n) refl lt;
  known = known;
  no_override = refl;
  leaf = refl;
  needs = needs;
  checks = checks;
  fault = λ all. leaf_fault channels_app shape is_built all (drop 1 all) (its_words all);
  found = λ all. leaf_found channels_app shape is_built all (drop 1 all) (its_words all);
}

-- ---- the plan

-- the plan of arguments, each of which stands once
abbrev plan_of : List Text → List Argument → Option ChannelsPlan
plan_of ps g = channels_of ps (first (values (codes "clones") g)) (is_any (flags (codes "allow-downgrades") g)) (is_any (flags (codes "disable-authentication") g))

too_many_words : (ps : List Text) (c : Option Text) (s t : Bool) → nat_le (length ps) 1 ≡ false → channels_of ps c s t ≡ None
too_many_words [] c s t e = refl
too_many_words (a ∷ []) None s t e = refl
too_many_words (a ∷ []) (Some c) s t e = cc e
too_many_words (a ∷ b ∷ ps) c s t e = refl

not_fine : (g : List Argument) (t : Bool) → each_once channels g ≡ t → (t && nat_le (length (positionals g)) 1) ≡ false → channels_plan_in g ≡ None
not_fine g true e f = rw e (too_many_words (positionals g) (first (values (codes "clones") g)) _ _ f)
not_fine g false e f = rw e

abbrev has_both : Option Text → List Text → Bool
has_both c ps = is_some c && (is_some (word_at 1 1 ps) && true)

too_few_words : (ps : List Text) (c : Option Text) (s t : Bool) → has_both c ps ≡ false → channels_of ps c s t ≡ None
too_few_words [] c s t e = refl
too_few_words (a ∷ []) None s t e = refl
too_few_words (a ∷ []) (Some c) s t e = cc e
too_few_words (a ∷ b ∷ ps) c s t e = refl

if_same : (t : Bool) (y : Option ChannelsPlan) → y ≡ None → cond t y None ≡ None
if_same true y e = e
if_same false y e = refl

lacking : (g : List Argument) → has_both (first (values (codes "clones") g)) (positionals g) ≡ false → channels_plan_in g ≡ None
lacking g e = if_same (each_once channels g) (plan_of (positionals g) g) (too_few_words (positionals g) (first (values (codes "clones") g)) _ _ e)

-- where clap refuses words, they state no plan
refused_by : (all : List Text) (o : Option (List Argument)) → Answer reader all o → fault_of channels_app all ≢ [] → None ≡ option_and_then channels_plan_in o
refused_by all _ (no_arguments e) bad = refl
refused_by all _ (too_many_arguments g e f) bad = sym (not_fine g (each_once channels g) refl f)
refused_by all _ (read g fine m) bad = sym (lacking g (if_kinds (fault_of channels_app all) (has_both (first (values (codes "clones") g)) (positionals g)) m.passes bad))

pub refused_plan : (all : List Text) → Texts (drop 1 all) → fault_of channels_app all ≢ [] → None ≡ option_and_then channels_plan_in (arguments_from channels Between (drop 1 all))
refused_plan all texts bad = refused_by all _ (answer reader reads all texts) bad

both_words : (ps : List Text) (c : Option Text) (s t : Bool) (plan : Option ChannelsPlan) → has_both c ps ≡ true → nat_le (length ps) 1 ≡ true
    → ((a b : Text) → word_at 1 1 ps ≡ Some a → c ≡ Some b → plan ≡ channels_from a b s t) → plan ≡ channels_of ps c s t
both_words [] None s t plan e few h = cc e
both_words [] (Some c) s t plan e few h = cc e
both_words (a ∷ []) None s t plan e few h = cc e
both_words (a ∷ []) (Some c) s t plan e few h = h a c refl refl
both_words (a ∷ b ∷ ps) c s t plan e few h = let bad : ⊥ = grind (arith, nat_tests, few) in absurd bad

its_plan : (all : List Text) (g : List Argument) (plan : Option ChannelsPlan) → is_fine reader g ≡ true → Read reader all g → has_both (first (values (codes "clones") g)) (positionals g) ≡ true
    → IsChannelsPlanOf (matches_of channels_app all) plan → plan ≡ channels_plan_in g
unfolding shape
its_plan all g plan fine m has is =
    let parts = and_parts (each_once channels g) (nat_le (length (positionals g)) 1) fine in
    both_words (positionals g) (first (values (codes "clones") g)) _ _ plan has parts.1
    (λ a b p q. is a b (is_any (flags (codes "allow-downgrades") g)) (is_any (flags (codes "disable-authentication") g))
    (m.given file (word_is_rule reader _ 1 refl refl) (word_takes _ 1) ∙ p)
    (m.given clones (option_is_rule reader _ None true refl) (option_takes _ None true) ∙ q)
    (m.said downgrades (flag_is_rule reader _ refl) (flag_is_switch _) refl)
    (m.said unchecked (flag_is_rule reader _ refl) (flag_is_switch _) refl))
    ∙ sym (ap (λ t. cond t (plan_of (positionals g) g) None) parts.0)

taken_by : (all : List Text) (o : Option (List Argument)) (plan : Option ChannelsPlan) → Answer reader all o → fault_of channels_app all ≡ [] → IsChannelsPlanOf (matches_of channels_app all) plan
    → plan ≡ option_and_then channels_plan_in o
taken_by all _ plan (no_arguments e) good is = absurd (some_kinds _ e good)
taken_by all _ plan (too_many_arguments g e f) good is = absurd (some_kinds _ e good)
taken_by all _ plan (read g fine m) good is =
    its_plan all g plan fine m (if_none (fault_of channels_app all) (has_both (first (values (codes "clones") g)) (positionals g)) m.passes good) is

-- where clap takes words, their plan is that of its matches
pub taken_plan : (all : List Text) (plan : Option ChannelsPlan) → Texts (drop 1 all) → fault_of channels_app all ≡ [] → IsChannelsPlanOf (matches_of channels_app all) plan
    → plan ≡ option_and_then channels_plan_in (arguments_from channels Between (drop 1 all))
taken_plan all plan texts good is = taken_by all _ plan (answer reader reads all texts) good is
