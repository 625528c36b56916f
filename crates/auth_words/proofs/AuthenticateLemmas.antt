-- The command `authenticate`.
use Rattle.std.proofs.Common.{◌≡◌, ◌≢◌, ℕ, ◌<◌, ◌==◌, Bool, true, false, not, cond, ◌&&◌, ◌||◌, List, [], ◌∷◌, drop, length, codes, refl, sym, ap, ◌∙◌, subst, arith, Option, Some, None}
use Rattle.std.specs.Prelude.{nat_le, is_some, slice_get, option_and_then}
use Rattle.std.specs.List.{AllByRecursion}
use Rattle.std.specs.Char.{encode_utf8}
use Rattle.std.specs.Str.{chars, IsUtf8}
use Rattle.std.proofs.lemmas.Bool.{and_parts, eqb-true}
use Rattle.std.proofs.lemmas.Bool.Decides.{nat_tests}
use Rattle.clap.specs.Words.{Row, Rule, Shape, Text, built, fault_of, matches_of}
use Rattle.clap.specs.Simple.{argument_words, new_shape}
use Rattle.clap.specs.Walk.{arg_by_long}
use Rattle.clap.specs.Faults.{check_fault}
use Rattle.clap.specs.Takes.{is_given}
use Rattle.clap.specs.declared.error.kind.ErrorKind.TheVariants as kind
use Rattle.auth_words.specs.App.{auth_app, options_app}
use Rattle.auth_words.specs.Form.{is_among}
use Rattle.auth_words.specs.Grammars.{authenticate}
use Rattle.auth_words.specs.Arguments.{Argument, Between, arguments_from, positionals, flags, each_once}
use Rattle.auth_words.specs.Words.{Options, is_any, options_in, plan_of, plan_of_two, plan_in}
use Rattle.auth_words.specs.GivenInside.{Gives, IsPlanOf}
use Rattle.auth_words.specs.declared.plan.Plan.{Plan}
use Rattle.auth_words.proofs.ReaderLemmas.{Reader, Reads, IsOption, IsFlag, Initial, a_letter, no_letter, Nth, a_place, no_place, IsKnown, IsNeeded, an_option, a_flag, a_word, option_takes, flag_is_switch, word_takes, none, option_is_rule, option_known, is_option, flag_is_rule, flag_known, is_flag, word_is_rule, word_known, word_needed, leaf_fault, leaf_found}
use Rattle.auth_words.proofs.ShapeLemmas.{among, none_among, letter_of}
use Rattle.auth_words.proofs.RowLemmas.{word_at}
use Rattle.auth_words.proofs.ChangeLemmas.{is_fine}
use Rattle.auth_words.proofs.DoomLemmas.{Texts}
use Rattle.auth_words.proofs.TakenLemmas.{Read, Answer, no_arguments, too_many_arguments, read, answer, if_kinds, if_none, some_kinds}

abbrev repository : Rule
repository = an_option (codes "repository") (Some 114) false

abbrev keyring : Rule
keyring = an_option (codes "keyring") (Some 107) false

abbrev plain : Text → Rule
plain name = an_option name None false

abbrev commit : Rule
commit = a_word (codes "commit") 1

abbrev signer : Rule
signer = a_word (codes "signer") 2

-- the command as clap has built it
unfoldable pub shape : Shape
shape = record (new_shape (codes "authenticate")) {
  rules = repository ∷ keyring ∷ plain (codes "end") ∷ plain (codes "cache-key") ∷ plain (codes "historical-authorizations") ∷ a_flag (codes "stats") ∷ commit ∷ signer ∷ [];
  disable_help_flag = true;
  disable_help_subcommand = true;
  is_built = true;
}

abbrev pub reader : Reader
reader = record { grammar = authenticate; app = auth_app; shape = shape; count = 2; needed = commit ∷ signer ∷ [] }

is_built : built auth_app ≡ record { top = shape; subs = [] }
unfolding auth_app options_app shape
is_built = refl

its_words : (all : List Text) → argument_words auth_app all ≡ drop 1 all
unfolding auth_app options_app
its_words all = refl

-- ---- the facts

options_are : AllByRecursion (λ name. (r : Rule) × IsOption reader name r) authenticate.options
unfolding authenticate shape
options_are = (
  (repository, is_option reader _ (Some 114) false refl refl),
  (
    (keyring, is_option reader _ (Some 107) false refl refl),
    (
      (plain (codes "end"), is_option reader _ None false refl refl),
      (
        (plain (codes "cache-key"), is_option reader _ None false refl refl),
        ((plain (codes "historical-authorizations"), is_option reader _ None false refl refl), tt),
      ),
    ),
  ),
)

flags_are : AllByRecursion (λ name. (r : Rule) × IsFlag reader name r) authenticate.flags
unfolding authenticate shape
flags_are = ((a_flag (codes "stats"), is_flag reader _ refl refl), tt)

flags_apart : AllByRecursion (λ name. is_among authenticate.options name ≡ false) authenticate.flags
unfolding authenticate
flags_apart = (refl, tt)

no_other : (name : Text) → is_among authenticate.options name ≡ false → is_among authenticate.flags name ≡ false → arg_by_long shape.rules name ≡ None
unfolding authenticate shape
no_other name o f =
    let options = none_among authenticate.options name o in
    let flags = none_among authenticate.flags name f in
    rw (options.0, options.1.0, options.1.1.0, options.1.1.1.0, options.1.1.1.1.0, flags.0) refl

letter_r : (bytes : Text) → slice_get (chars (114 ∷ bytes)) 0 ≡ Some 114
unfolding chars
letter_r [] = refl
letter_r (b ∷ bytes) = refl

letter_k : (bytes : Text) → slice_get (chars (107 ∷ bytes)) 0 ≡ Some 107
unfolding chars
letter_k [] = refl
letter_k (b ∷ bytes) = refl

initial : (b : ℕ) (bytes : Text) (t u : Bool) → (114 == b) ≡ t → (107 == b) ≡ u → IsUtf8 (b ∷ bytes) → Initial reader b bytes
unfolding authenticate shape encode_utf8
initial b bytes true u e f text =
    subst (λ (n : ℕ). Initial reader n bytes) (eqb-true 114 b e)
    (a_letter (codes "repository") repository refl refl (is_option reader _ (Some 114) false refl refl) (letter_r bytes) refl refl)
initial b bytes false true e f text =
    subst (λ (n : ℕ). Initial reader n bytes) (eqb-true 107 b f)
    (a_letter (codes "keyring") keyring refl refl (is_option reader _ (Some 107) false refl refl) (letter_k bytes) refl refl)
initial b bytes false false e f text =
    let c = letter_of b bytes text in
    no_letter c.0 (rw (e, f) refl) c.1.first (rw (c.1.unlike 114 (omega arith) e, c.1.unlike 107 (omega arith) f) refl)

nth : (n : ℕ) (t u : Bool) → (1 == n) ≡ t → (2 == n) ≡ u → 0 < n → Nth reader n
unfolding shape
nth n true u e f lt = subst (λ (i : ℕ). Nth reader i) (eqb-true 1 n e) (a_place commit refl refl (word_is_rule reader _ 1 refl refl) (word_takes _ 1) refl refl)
nth n false true e f lt = subst (λ (i : ℕ). Nth reader i) (eqb-true 2 n f) (a_place signer refl refl (word_is_rule reader _ 2 refl refl) (word_takes _ 2) refl refl)
nth n false false e f lt = no_place (rw (e, f) refl) (grind (arith, nat_tests, e, f, lt))

known : AllByRecursion (IsKnown reader) shape.rules
unfolding shape
known = (
  option_known reader _ (Some 114) false refl,
  (
    option_known reader _ (Some 107) false refl,
    (
      option_known reader _ None false refl,
      (
        option_known reader _ None false refl,
        (
          option_known reader _ None false refl,
          (flag_known reader _ refl, (word_known reader _ 1 refl refl, (word_known reader _ 2 refl refl, tt))),
        ),
      ),
    ),
  ),
)

needs : AllByRecursion (IsNeeded reader) (commit ∷ signer ∷ [])
unfolding shape
needs = (word_needed reader _ 1 refl refl, (word_needed reader _ 2 refl refl, tt))

missing : (a b : Bool) → none (cond (not a || (not b || false)) (kind.MissingRequiredArgument ∷ []) []) ≡ (a && (b && true))
missing true true = refl
missing true false = refl
missing false true = refl
missing false false = refl

checks : (rows : List Row) → none (check_fault shape rows false) ≡ (is_given (codes "commit") rows && (is_given (codes "signer") rows && true))
unfolding shape
checks rows = missing (is_given (codes "commit") rows) (is_given (codes "signer") rows)

reads : Reads reader
unfolding shape
reads = record {
  option = λ name h. among (λ name. (r : Rule) × IsOption reader name r) authenticate.options name options_are h;
  flag = λ name h. among (λ name. (r : Rule) × IsFlag reader name r) authenticate.flags name flags_are h;
  apart = λ name h. among (λ name. is_among authenticate.options name ≡ false) authenticate.flags name flags_apart h;
  other = no_other;
  initial = λ b bytes text. initial b bytes (114 == b) (107 == b) refl refl text;
  nth = λ n lt. nth n (1 == n) (2 == n) refl refl lt;
  known = known;
  no_override = refl;
  leaf = refl;
  needs = needs;
  checks = checks;
  fault = λ all. leaf_fault auth_app shape is_built all (drop 1 all) (its_words all);
  found = λ all. leaf_found auth_app shape is_built all (drop 1 all) (its_words all);
}

-- ---- the plan

too_many_words : (ps : List Text) (o : Options) → nat_le (length ps) 2 ≡ false → plan_of ps o ≡ None
too_many_words [] o e = refl
too_many_words (a ∷ []) o e = refl
too_many_words (a ∷ b ∷ []) o e = cc e
too_many_words (a ∷ b ∷ c ∷ ps) o e = refl

not_fine : (g : List Argument) (t : Bool) → each_once authenticate g ≡ t → (t && nat_le (length (positionals g)) 2) ≡ false → plan_in g ≡ None
not_fine g true e f = rw e (too_many_words (positionals g) (options_in g) f)
not_fine g false e f = rw e

abbrev has_both : List Text → Bool
has_both ps = is_some (word_at 1 1 ps) && (is_some (word_at 1 2 ps) && true)

too_few_words : (ps : List Text) (o : Options) → has_both ps ≡ false → plan_of ps o ≡ None
too_few_words [] o e = refl
too_few_words (a ∷ []) o e = refl
too_few_words (a ∷ b ∷ ps) o e = cc e

if_same : (t : Bool) (y : Option Plan) → y ≡ None → cond t y None ≡ None
if_same true y e = e
if_same false y e = refl

lacking : (g : List Argument) → has_both (positionals g) ≡ false → plan_in g ≡ None
lacking g e = if_same (each_once authenticate g) (plan_of (positionals g) (options_in g)) (too_few_words (positionals g) (options_in g) e)

-- where clap refuses words, they state no plan
refused_by : (all : List Text) (o : Option (List Argument)) → Answer reader all o → fault_of auth_app all ≢ [] → None ≡ option_and_then plan_in o
refused_by all _ (no_arguments e) bad = refl
refused_by all _ (too_many_arguments g e f) bad = sym (not_fine g (each_once authenticate g) refl f)
refused_by all _ (read g fine m) bad = sym (lacking g (if_kinds (fault_of auth_app all) (has_both (positionals g)) m.passes bad))

pub refused_plan : (all : List Text) → Texts (drop 1 all) → fault_of auth_app all ≢ [] → None ≡ option_and_then plan_in (arguments_from authenticate Between (drop 1 all))
refused_plan all texts bad = refused_by all _ (answer reader reads all texts) bad

one_options : (o p : Options) → o.repository ≡ p.repository → o.keyring ≡ p.keyring → o.end ≡ p.end → o.cache_key ≡ p.cache_key → o.historical ≡ p.historical → o.stats ≡ p.stats → o ≡ p
one_options o p a b c d e f = rw (a, b, c, d, e, f) refl

its_options : (all : List Text) (g : List Argument) (o : Options) → Read reader all g → Gives (matches_of auth_app all) o → o ≡ options_in g
unfolding shape
its_options all g o m gives =
    one_options o (options_in g)
    (sym gives.repository ∙ m.given repository (option_is_rule reader _ (Some 114) false refl) (option_takes _ (Some 114) false))
    (sym gives.keyring ∙ m.given keyring (option_is_rule reader _ (Some 107) false refl) (option_takes _ (Some 107) false))
    (sym gives.end ∙ m.given (plain (codes "end")) (option_is_rule reader _ None false refl) (option_takes _ None false))
    (sym gives.cache_key ∙ m.given (plain (codes "cache-key")) (option_is_rule reader _ None false refl) (option_takes _ None false))
    (sym gives.historical ∙ m.given (plain (codes "historical-authorizations")) (option_is_rule reader _ None false refl) (option_takes _ None false))
    (gives.stats (is_any (flags (codes "stats") g)) (m.said (a_flag (codes "stats")) (flag_is_rule reader _ refl) (flag_is_switch _) refl))

both_words : (ps : List Text) (o : Options) (plan : Option Plan) → has_both ps ≡ true → nat_le (length ps) 2 ≡ true
    → ((a b : Text) → word_at 1 1 ps ≡ Some a → word_at 1 2 ps ≡ Some b → plan ≡ plan_of_two a b o) → plan ≡ plan_of ps o
both_words [] o plan e few h = cc e
both_words (a ∷ []) o plan e few h = cc e
both_words (a ∷ b ∷ []) o plan e few h = h a b refl refl
both_words (a ∷ b ∷ c ∷ ps) o plan e few h = let bad : ⊥ = grind (arith, nat_tests, few) in absurd bad

its_plan : (all : List Text) (g : List Argument) (plan : Option Plan) → is_fine reader g ≡ true → Read reader all g → has_both (positionals g) ≡ true → IsPlanOf (matches_of auth_app all) plan → plan ≡ plan_in g
unfolding shape
its_plan all g plan fine m has is =
    let parts = and_parts (each_once authenticate g) (nat_le (length (positionals g)) 2) fine in
    both_words (positionals g) (options_in g) plan has parts.1
    (λ a b p q. is a b (options_in g) (m.given commit (word_is_rule reader _ 1 refl refl) (word_takes _ 1) ∙ p)
    (m.given signer (word_is_rule reader _ 2 refl refl) (word_takes _ 2) ∙ q) (λ o gives. its_options all g o m gives))
    ∙ sym (ap (λ t. cond t (plan_of (positionals g) (options_in g)) None) parts.0)

taken_by : (all : List Text) (o : Option (List Argument)) (plan : Option Plan) → Answer reader all o → fault_of auth_app all ≡ [] → IsPlanOf (matches_of auth_app all) plan → plan ≡ option_and_then plan_in o
taken_by all _ plan (no_arguments e) good is = absurd (some_kinds _ e good)
taken_by all _ plan (too_many_arguments g e f) good is = absurd (some_kinds _ e good)
taken_by all _ plan (read g fine m) good is = its_plan all g plan fine m (if_none (fault_of auth_app all) (has_both (positionals g)) m.passes good) is

-- where clap takes words, their plan is that of its matches
pub taken_plan : (all : List Text) (plan : Option Plan) → Texts (drop 1 all) → fault_of auth_app all ≡ [] → IsPlanOf (matches_of auth_app all) plan
    → plan ≡ option_and_then plan_in (arguments_from authenticate Between (drop 1 all))
taken_plan all plan texts good is = taken_by all _ plan (answer reader reads all texts) good is
