-- The parts of a plan have their forms.
use Rattle.std.proofs.Common.{◌≡◌, ◌<◌, ◌+◌, ◌/◌, ◌%◌, ◌==◌, ℕ, zero, suc, Bool, true, false, not, cond, ◌&&◌, List, [], ◌∷◌, length, drop, slice_index, codes, refl, sym, ap, subst, ◌∙◌, arith, Option, Some, None}
use Rattle.std.specs.Prelude.{nat_le, bytes_eq, option_and_then, unwrap_or, IfSome, IfOk, Result, Ok, Err}
use Rattle.std.specs.List.{list_all, list_any, before_first, after_first, position_or_len, cons_option, All}
use Rattle.std.specs.Str.{IsAscii, IsUtf8}
use Rattle.std.proofs.lemmas.Bool.{and_parts}
use Rattle.std.proofs.lemmas.Bool.Decides.{nat_tests}
use Rattle.std.proofs.lemmas.List.Splits.{slice_split_none}
use Rattle.std.proofs.lemmas.List.Elements.{All-cons, All-nil}
use Rattle.std.proofs.lemmas.Str.{IsUtf8-from_ascii}
use Rattle.std.proofs.lemmas.Str.Ascii.{IsAscii-nil, IsAscii-cons}
use Rattle.hex.specs.declared.error.FromHexError.{FromHexError}
use Rattle.hex.specs.Hex.{IsBytes, decode_sized, encode_lower, encode_with, lower_digits}
use Rattle.hex.proofs.HexLemmas.{decode_of-ok, decode_sized-ok, decode_sized-twice, length-encode_with, IsAscii-encode_with}
use Rattle.object_frames.specs.Id.{IsId, id_in, id_from}
use Rattle.std.specs.Cmp.Derive.{both_true}
use Rattle.child_ports.specs.declared.fingerprint.Fingerprint.{Fingerprint}
use Rattle.child_ports.specs.Fingerprint.{fingerprint_in}
use Rattle.object_frames.specs.declared.id.Id.{Id}
use Rattle.auth_words.specs.declared.plan.Plan.{Plan}
use Rattle.auth_words.specs.declared.plan.Command.{Command}
use Rattle.auth_words.specs.declared.plan.ChannelsPlan.{ChannelsPlan}
use Rattle.auth_words.specs.Form.{Grammar, Form, option_named, option_lettered, option_form, lone_form, named_form, long_form, short_form, dashed_form, form_of, attached, is_among, is_equals}
use Rattle.auth_words.specs.Form as form
use Rattle.auth_words.specs.Grammars.{authenticate, channels}
use Rattle.auth_words.specs.Arguments.{Argument, positional, valued, flag, Place, Between, Waiting, Behind, arguments_from, between, then_rest, is_value, positionals, values, each_once}
use Rattle.name_limits.specs.Limits.{is_word, is_plain_byte, is_path, is_reference, is_key_byte, is_key_part, is_cache_key}
use Rattle.auth_words.specs.Limits.{fits}
use Rattle.auth_words.specs.Words.{Options, are_fit, default_key, plan_from, plan_of_two, plan_of, options_in, plan_in, authenticate_by, authenticate_in, first, channels_from, channels_of, channels_plan_in, channels_by, channels_in, help_by, command_in, IsFitting, IsFittingSet, HasFittingPlan}

-- ---- an id that digits state has 20 bytes

ok_id : (text id : List ℕ) (r : Result (List ℕ) FromHexError) → decode_sized text 20 ≡ r → id_from r ≡ Some id → IsId id
ok_id text id (Ok bytes) is e =
    let twice = decode_sized-ok text 20 bytes is in
    let ok = decode_of-ok text bytes (sym (decode_sized-twice text 20 twice) ∙ is) in
    let same : bytes ≡ id = cc in
    record { count = omega (arith, ok.2, ap length same); bytes = subst (λ (b : List ℕ). IsBytes b) same ok.3 }
ok_id text id (Err e) is none = cc

pub id_of_digits : (text id : List ℕ) → id_in text ≡ Some id → IsId id
id_of_digits text id e = ok_id text id (decode_sized text 20) refl e

ascii : (xs : List ℕ) → list_all (λ b. nat_le b 127) xs ≡ true → IsAscii xs
ascii [] all = IsAscii-nil
ascii (x ∷ xs) all =
    let parts = and_parts (nat_le x 127) (list_all (λ b. nat_le b 127) xs) all in
    let small : nat_le x 127 ≡ true = parts.0 in
    IsAscii-cons x xs (grind (arith, nat_tests)) (ascii xs parts.1)

lower_ascii : IsAscii lower_digits
lower_ascii = ascii lower_digits refl

-- ---- the key of an introduction

-- a byte of a key that is no `/`
abbrev is_inner : ℕ → Bool
is_inner b = is_key_byte b && not (b == 47)

all_digits : list_all is_inner lower_digits ≡ true
all_digits = refl

at_place : (xs : List ℕ) (i : ℕ) → list_all is_inner xs ≡ true → i < length xs → is_inner (slice_index xs i) ≡ true
at_place [] i all lt = absurd (omega arith)
at_place (x ∷ xs) zero all lt = (and_parts (is_inner x) (list_all is_inner xs) all).0
at_place (x ∷ xs) (suc i) all lt = at_place xs i (and_parts (is_inner x) (list_all is_inner xs) all).1 (omega arith)

inner_digits : (bytes : List ℕ) → IsBytes bytes → list_all is_inner (encode_lower bytes) ≡ true
unfolding encode_with
inner_digits [] h = refl
inner_digits (b ∷ bytes) h =
    let byte : b < 256 = h 0 in
    both_true (at_place lower_digits (b / 16) all_digits (omega arith))
    (both_true (at_place lower_digits (b % 16) all_digits (omega arith)) (inner_digits bytes (λ i. h (suc i))))

key_bytes : (xs : List ℕ) → list_all is_inner xs ≡ true → list_all is_key_byte xs ≡ true
key_bytes [] all = refl
key_bytes (x ∷ xs) all =
    let parts = and_parts (is_inner x) (list_all is_inner xs) all in
    both_true (and_parts (is_key_byte x) (not (x == 47)) parts.0).0 (key_bytes xs parts.1)

not_slash : (t : Bool) → not t ≡ true → t ≡ false
not_slash true e = cc
not_slash false e = refl

no_slash : (xs : List ℕ) → list_all is_inner xs ≡ true → All (λ b. (b == 47) ≡ false) xs
no_slash [] all = All-nil (λ b. (b == 47) ≡ false)
no_slash (x ∷ xs) all =
    let parts = and_parts (is_inner x) (list_all is_inner xs) all in
    All-cons (λ b. (b == 47) ≡ false) x xs (not_slash (x == 47) (and_parts (is_key_byte x) (not (x == 47)) parts.0).1) (no_slash xs parts.1)

-- the key of an introduction is a key of the cache
default_fits : (intro : List ℕ) → IsId intro → is_cache_key (default_key intro) ≡ true
unfolding is_cache_key
default_fits intro id =
    let key : List ℕ = default_key intro in
    let inner : list_all is_inner key ≡ true = inner_digits intro id.bytes in
    let count = length-encode_with lower_digits intro in
    let some : nat_le 1 (length key) ≡ true = grind (arith, nat_tests) in
    let few : nat_le (length key) 200 ≡ true = grind (arith, nat_tests, id.count, count) in
    let parts = ap (list_all is_key_part) (slice_split_none (λ b. b == 47) key (no_slash key inner)) ∙ both_true (both_true (both_true some refl) refl) refl in
    both_true (both_true (both_true (both_true some few) (key_bytes key inner)) parts) refl

-- ---- plans

given_or : (test : List ℕ → Bool) (value : Option (List ℕ)) (other : List ℕ) → fits test value ≡ true → test other ≡ true → test (unwrap_or value other) ≡ true
given_or test None other fit is = is
given_or test (Some value) other fit is = fit

fit_parts : (a b c d e : Bool) → (a && b && c && d && e) ≡ true → (a ≡ true) × (b ≡ true) × (c ≡ true) × (d ≡ true)
fit_parts a b c d e all =
    let x = and_parts (a && b && c && d) e all in
    let y = and_parts (a && b && c) d x.0 in
    let z = and_parts (a && b) c y.0 in
    let w = and_parts a b z.0 in
    (w.0, w.1, z.1, y.1)

plan_fits : (x : Option Id) (y : Option Fingerprint) (o : Options) → are_fit o ≡ true → IfSome x IsId → IfSome (plan_from x y o) IsFitting
plan_fits None None o all id = tt
plan_fits None (Some signer) o all id = tt
plan_fits (Some intro) None o all id = tt
plan_fits (Some intro) (Some signer) o all id =
    let parts = fit_parts _ _ _ _ _ all in
    record {
      repository = given_or is_path o.repository (codes ".") parts.0 refl;
      keyring = given_or is_reference o.keyring (codes "keyring") parts.1 refl;
      end = given_or is_reference o.end (codes "HEAD") parts.2 refl;
      cache_key = given_or is_cache_key o.cache_key (default_key intro) parts.3 (default_fits intro id);
    }

id_read : (commit : List ℕ) (x : Option Id) → id_in commit ≡ x → IfSome x IsId
id_read commit None e = tt
id_read commit (Some id) e = id_of_digits commit id e

two_fit : (commit signer : List ℕ) (o : Options) (t : Bool) → are_fit o ≡ t → IfSome (plan_of_two commit signer o) IsFitting
two_fit commit signer o true e = rw e (plan_fits (id_in commit) (fingerprint_in signer) o e (id_read commit (id_in commit) refl))
two_fit commit signer o false e = rw e tt

of_fits : (ps : List (List ℕ)) (o : Options) → IfSome (plan_of ps o) IsFitting
of_fits [] o = tt
of_fits (commit ∷ []) o = tt
of_fits (commit ∷ signer ∷ []) o = two_fit commit signer o (are_fit o) refl
of_fits (commit ∷ signer ∷ word ∷ more) o = tt

if_fits : {T : Type 0} (t : Bool) (x : Option T) (P : T → Type 0) → IfSome x P → IfSome (cond t x None) P
if_fits true x P h = h
if_fits false x P h = tt

in_fits : (x : Option (List Argument)) → IfSome (option_and_then plan_in x) IsFitting
in_fits None = tt
in_fits (Some arguments) = if_fits (each_once authenticate arguments) (plan_of (positionals arguments) (options_in arguments)) IsFitting (of_fits (positionals arguments) (options_in arguments))

by_fits : (x : Option Plan) → IfSome x IsFitting → IfSome (authenticate_by x) HasFittingPlan
by_fits None h = tt
by_fits (Some plan) h = h

-- ---- what words give is no longer than a word

word_parts : (bytes : List ℕ) → is_word bytes ≡ true → (nat_le (length bytes) 4096 ≡ true) × (list_all is_plain_byte bytes ≡ true)
word_parts bytes e = and_parts (nat_le (length bytes) 4096) (list_all is_plain_byte bytes) e

one_less : (n m : ℕ) → nat_le (suc n) m ≡ true → nat_le n m ≡ true
one_less n m e = grind (arith, nat_tests, e)

behind_first : (b : ℕ) (bytes : List ℕ) → is_word (b ∷ bytes) ≡ true → is_word bytes ≡ true
behind_first b bytes e =
    let parts = word_parts (b ∷ bytes) e in
    both_true (one_less (length bytes) 4096 parts.0) (and_parts (is_plain_byte b) (list_all is_plain_byte bytes) parts.1).1

word_drop : (n : ℕ) (bytes : List ℕ) → is_word bytes ≡ true → is_word (drop n bytes) ≡ true
word_drop zero bytes e = e
word_drop (suc n) [] e = e
word_drop (suc n) (b ∷ bytes) e = word_drop n bytes (behind_first b bytes e)

-- what a form has in its word is no longer than a word
abbrev has_word : Form → Bool
has_word form.positional = true
has_word (form.valued name value) = is_word value
has_word (form.asking name) = true
has_word (form.flag name) = true
has_word form.ending = true
has_word form.unknown = true

either_form : (t : Bool) (f g : Form) → has_word f ≡ true → has_word g ≡ true → has_word (cond t f g) ≡ true
either_form true f g h k = h
either_form false f g h k = k

valued_has : (name : Option (List ℕ)) (value : List ℕ) → is_word value ≡ true → has_word (option_form name (Some value)) ≡ true
valued_has None value e = refl
valued_has (Some name) value e = e

asking_has : (name : Option (List ℕ)) → has_word (option_form name None) ≡ true
asking_has None = refl
asking_has (Some name) = refl

attached_has : (name : Option (List ℕ)) (b : ℕ) (bytes : List ℕ) (t : Bool) → is_equals b ≡ t → is_word (b ∷ bytes) ≡ true → has_word (option_form name (attached (b ∷ bytes))) ≡ true
attached_has name b bytes true e word = rw e (valued_has name bytes (behind_first b bytes word))
attached_has name b bytes false e word = rw e (valued_has name (b ∷ bytes) word)

short_has : (name : Option (List ℕ)) (bytes : List ℕ) → is_word bytes ≡ true → has_word (option_form name (attached bytes)) ≡ true
short_has name [] word = asking_has name
short_has name (b ∷ bytes) word = attached_has name b bytes (is_equals b) refl word

lone_has : (grammar : Grammar) (name : List ℕ) → has_word (lone_form grammar name) ≡ true
lone_has grammar name = either_form (is_among grammar.flags name) (form.flag name) _ refl (asking_has (option_named grammar name))

long_has : (grammar : Grammar) (bytes : List ℕ) → is_word bytes ≡ true → has_word (long_form grammar bytes) ≡ true
unfolding long_form
long_has grammar [] word = refl
long_has grammar (b ∷ bytes) word =
    either_form (list_any is_equals (b ∷ bytes)) _ _ (valued_has (option_named grammar (before_first is_equals (b ∷ bytes))) (after_first is_equals (b ∷ bytes)) (word_drop (position_or_len is_equals (b ∷ bytes) + 1) (b ∷ bytes) word)) (lone_has grammar (b ∷ bytes))

dashed_has : (grammar : Grammar) (bytes : List ℕ) → is_word bytes ≡ true → has_word (dashed_form grammar bytes) ≡ true
unfolding dashed_form short_form
dashed_has grammar [] word = refl
dashed_has grammar (b ∷ bytes) word =
    either_form (b == 45) (long_form grammar bytes) _ (long_has grammar bytes (behind_first b bytes word)) (short_has (option_lettered grammar b) bytes (behind_first b bytes word))

form_has : (grammar : Grammar) (word : List ℕ) → is_word word ≡ true → has_word (form_of grammar word) ≡ true
unfolding form_of
form_has grammar [] word = refl
form_has grammar (b ∷ bytes) word = either_form (b == 45) (dashed_form grammar bytes) form.positional (dashed_has grammar bytes (behind_first b bytes word)) refl

abbrev holds_word : Argument → Bool
holds_word (positional word) = is_word word
holds_word (valued name value) = is_word value
holds_word (flag name) = true

abbrev hold_words : Option (List Argument) → Bool
hold_words None = true
hold_words (Some arguments) = list_all holds_word arguments

one_holds : (a : Argument) (rest : Option (List Argument)) → holds_word a ≡ true → hold_words rest ≡ true → hold_words (then_rest a rest) ≡ true
one_holds a None h k = refl
one_holds a (Some arguments) h k = both_true h k

between_holds : (f : Form) (word : List ℕ) (rest : Place → Option (List Argument)) → has_word f ≡ true → is_word word ≡ true → ((p : Place) → hold_words (rest p) ≡ true)
    → hold_words (between f word rest) ≡ true
between_holds form.positional word rest h e k = one_holds (positional word) (rest Between) e (k Between)
between_holds (form.valued name value) word rest h e k = one_holds (valued name value) (rest Between) h (k Between)
between_holds (form.asking name) word rest h e k = k (Waiting name)
between_holds (form.flag name) word rest h e k = one_holds (flag name) (rest Between) refl (k Between)
between_holds form.ending word rest h e k = k Behind
between_holds form.unknown word rest h e k = refl

value_holds : (t : Bool) (name word : List ℕ) (rest : Option (List Argument)) → is_word word ≡ true → hold_words rest ≡ true → hold_words (cond t (then_rest (valued name word) rest) None) ≡ true
value_holds true name word rest e k = one_holds (valued name word) rest e k
value_holds false name word rest e k = refl

all_hold : (grammar : Grammar) (words : List (List ℕ)) (p : Place) → list_all is_word words ≡ true → hold_words (arguments_from grammar p words) ≡ true
all_hold grammar [] Between all = refl
all_hold grammar [] (Waiting name) all = refl
all_hold grammar [] Behind all = refl
all_hold grammar (word ∷ words) Between all =
    let parts = and_parts (is_word word) (list_all is_word words) all in
    between_holds (form_of grammar word) word (λ place. arguments_from grammar place words) (form_has grammar word parts.0) parts.0 (λ place. all_hold grammar words place parts.1)
all_hold grammar (word ∷ words) (Waiting name) all =
    let parts = and_parts (is_word word) (list_all is_word words) all in
    value_holds (is_value word) name word (arguments_from grammar Between words) parts.0 (all_hold grammar words Between parts.1)
all_hold grammar (word ∷ words) Behind all =
    let parts = and_parts (is_word word) (list_all is_word words) all in
    one_holds (positional word) (arguments_from grammar Behind words) parts.0 (all_hold grammar words Behind parts.1)

positionals_hold : (arguments : List Argument) → list_all holds_word arguments ≡ true → list_all is_word (positionals arguments) ≡ true
positionals_hold [] all = refl
positionals_hold (positional word ∷ arguments) all =
    let parts = and_parts (is_word word) (list_all holds_word arguments) all in
    both_true parts.0 (positionals_hold arguments parts.1)
positionals_hold (valued name value ∷ arguments) all = positionals_hold arguments (and_parts (is_word value) (list_all holds_word arguments) all).1
positionals_hold (flag name ∷ arguments) all = positionals_hold arguments all

value_by : (t : Bool) (value : List ℕ) (others : List (List ℕ)) → is_word value ≡ true → list_all is_word others ≡ true → list_all is_word (cons_option (cond t (Some value) None) others) ≡ true
value_by true value others e all = both_true e all
value_by false value others e all = all

values_hold : (name : List ℕ) (arguments : List Argument) → list_all holds_word arguments ≡ true → list_all is_word (values name arguments) ≡ true
values_hold name [] all = refl
values_hold name (positional word ∷ arguments) all = values_hold name arguments (and_parts (is_word word) (list_all holds_word arguments) all).1
values_hold name (valued other value ∷ arguments) all =
    let parts = and_parts (is_word value) (list_all holds_word arguments) all in
    value_by (bytes_eq other name) value (values name arguments) parts.0 (values_hold name arguments parts.1)
values_hold name (flag other ∷ arguments) all = values_hold name arguments all

-- ---- plans of `channels`

from_fits : (file clones : List ℕ) (s t fits : Bool) → (is_path file && is_path clones) ≡ fits → is_word file ≡ true → is_word clones ≡ true → IfSome (channels_from file clones s t) IsFittingSet
from_fits file clones s t true e word folder =
    let parts = and_parts (is_path file) (is_path clones) e in
    rw e (record { file = parts.0; file_word = word; clones = parts.1; clones_word = folder })
from_fits file clones s t false e word folder = rw e tt

set_fits : (ps cs : List (List ℕ)) (s t : Bool) → list_all is_word ps ≡ true → list_all is_word cs ≡ true → IfSome (channels_of ps (first cs) s t) IsFittingSet
set_fits [] cs s t all folders = tt
set_fits (file ∷ []) [] s t all folders = tt
set_fits (file ∷ []) (clones ∷ cs) s t all folders =
    from_fits file clones s t (is_path file && is_path clones) refl (and_parts (is_word file) true all).0 (and_parts (is_word clones) (list_all is_word cs) folders).0
set_fits (file ∷ word ∷ ps) cs s t all folders = tt

channels_fit : (o : Option (List Argument)) → hold_words o ≡ true → IfSome (option_and_then channels_plan_in o) IsFittingSet
channels_fit None all = tt
channels_fit (Some arguments) all =
    if_fits (each_once channels arguments) _ IsFittingSet (set_fits (positionals arguments) (values (codes "clones") arguments) _ _ (positionals_hold arguments all) (values_hold (codes "clones") arguments all))

by_channels : (x : Option ChannelsPlan) → IfSome x IsFittingSet → IfSome (channels_by x) HasFittingPlan
by_channels None h = tt
by_channels (Some plan) h = h

-- ---- commands

help_fits : (words : List (List ℕ)) → IfSome (help_by words) HasFittingPlan
help_fits [] = tt
help_fits (word ∷ words) = tt

either : (t : Bool) (x y : Option Command) → IfSome x HasFittingPlan → IfSome y HasFittingPlan → IfSome (cond t x y) HasFittingPlan
either true x y h k = h
either false x y h k = k

command_fits : (words : List (List ℕ)) → list_all is_word words ≡ true → IfSome (command_in words) HasFittingPlan
command_fits [] all = tt
command_fits (command ∷ words) all =
    either (bytes_eq command (codes "--help")) (help_by words) _ (help_fits words)
    (either (bytes_eq command (codes "authenticate")) (authenticate_in words) _ (by_fits _ (in_fits (arguments_from authenticate Between words)))
    (if_fits (bytes_eq command (codes "channels")) (channels_in words) HasFittingPlan
    (by_channels _ (channels_fit (arguments_from channels Between words) (all_hold channels words Between (and_parts (is_word command) (list_all is_word words) all).1)))))

-- a command that is read has a fitting plan, if it has one
pub read_fits : {E : Type 0} (words : List (List ℕ)) (r : Result (Option Command) E) → list_all is_word words ≡ true → IfOk r (λ command. command ≡ command_in words)
    → IfOk r (λ command. IfSome command HasFittingPlan)
read_fits words (Ok read) all h = subst (λ (x : Option Command). IfSome x HasFittingPlan) (sym h) (command_fits words all)
read_fits words (Err e) all h = tt

-- ---- texts of digits

pub is_text : (id : List ℕ) → IsUtf8 (encode_lower id)
is_text id = IsUtf8-from_ascii (encode_lower id) (IsAscii-encode_with lower_digits id lower_ascii)
