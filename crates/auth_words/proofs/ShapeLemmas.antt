-- What a word looks like, to clap and to the rule.
use Rattle.std.proofs.Common.{◌≡◌, ◌≢◌, ℕ, ◌<◌, ◌==◌, length, Bool, true, false, cond, ◌||◌, List, [], ◌∷◌, ◌++◌, refl, sym, ap, ◌∙◌, subst, arith, Option, Some, None}
use Rattle.std.specs.Prelude.{slice_get}
use Rattle.std.specs.Str.{bytes_eq, chars, IsUtf8}
use Rattle.std.specs.List.{AllByRecursion, list_any, before_first, after_first, position_or_len}
use Rattle.std.proofs.lemmas.Bool.{eqb-true}
use Rattle.std.proofs.lemmas.List.{take_all}
use Rattle.std.proofs.Common.{take}
use Rattle.std.proofs.lemmas.Slice.Eq.{bytes_eq-Decides}
use Rattle.std.proofs.lemmas.Str.{encodes-chars, encode_ascii, IsUtf8-past_char}
use Rattle.std.proofs.lemmas.Bool.Decides.{nat_tests}
use lib.Utf8.{encode, encodes}
use Rattle.clap.specs.Lexer.{long_of, short_of, name_and_value}
use Rattle.auth_words.specs.Form.{Grammar, Form, positional, unknown, flag, is_among, option_named, option_lettered, option_form, lone_form, named_form, long_form, dashed_form, short_form, form_of, attached, is_equals}
use Rattle.auth_words.specs.Arguments.{is_value}

abbrev pub Word : Type 0
Word = List ℕ

abbrev pub dashes : Word
dashes = 45 ∷ 45 ∷ []

-- no option, and no `--`
pub record Plain (grammar : Grammar) (word : Word) : Type 0 where
  pub no_dashes : bytes_eq word dashes ≡ false
  pub no_long : long_of word ≡ None
  pub no_short : short_of word ≡ None
  pub form : form_of grammar word ≡ positional
  pub is_value : is_value word ≡ true

-- `--NAME` or `--NAME=VALUE` as a form
abbrev pub by_name : Grammar → Word → Option Word → Form
by_name grammar name (Some value) = option_form (option_named grammar name) (Some value)
by_name grammar name None = lone_form grammar name

pub record Long (grammar : Grammar) (word name : Word) (value : Option Word) : Type 0 where
  pub no_dashes : bytes_eq word dashes ≡ false
  pub long : long_of word ≡ Some (name, value)
  pub form : form_of grammar word ≡ by_name grammar name value
  pub no_value : is_value word ≡ false

-- `-` and a letter
pub record Short (grammar : Grammar) (word : Word) (b : ℕ) (bytes : Word) : Type 0 where
  pub no_dashes : bytes_eq word dashes ≡ false
  pub no_long : long_of word ≡ None
  pub short : short_of word ≡ Some (b ∷ bytes)
  pub form : form_of grammar word ≡ option_form (option_lettered grammar b) (attached bytes)
  pub no_value : is_value word ≡ false

pub data Kind (grammar : Grammar) : Word → Type 0 where
  plain : (word : Word) → Plain grammar word → Kind grammar word
  two_dashes : Kind grammar dashes
  long : (word name : Word) (value : Option Word) → Long grammar word name value → Kind grammar word
  short : (word : Word) (b : ℕ) (bytes : Word) → IsUtf8 (b ∷ bytes) → Short grammar word b bytes → Kind grammar word

-- ---- a name without `=` is the whole

one_longer : (x : ℕ) (xs : Word) (t : Bool) → is_equals x ≡ t → list_any is_equals (x ∷ xs) ≡ false
    → (list_any is_equals xs ≡ false → position_or_len is_equals xs ≡ length xs) → position_or_len is_equals (x ∷ xs) ≡ length (x ∷ xs)
one_longer x xs true f e rest = let bad : true ≡ false = rw f at e in cc bad
one_longer x xs false f e rest = let is = rest (rw f at e) in rw f (omega (arith, is))

whole : (xs : Word) → list_any is_equals xs ≡ false → position_or_len is_equals xs ≡ length xs
whole [] e = refl
whole (x ∷ xs) e = one_longer x xs (is_equals x) refl e (whole xs)

no_equals : (xs : Word) → list_any is_equals xs ≡ false → before_first is_equals xs ≡ xs
no_equals xs e = ap (λ n. take n xs) (whole xs e) ∙ take_all (length xs) xs (omega arith)

named_by : (grammar : Grammar) (text : Word) (t : Bool) → list_any is_equals text ≡ t
    → named_form grammar text ≡ by_name grammar (before_first is_equals text) (cond t (Some (after_first is_equals text)) None)
named_by grammar text true e = rw e
named_by grammar text false e = rw (e, no_equals text e)

-- ---- the kinds

fourth : (grammar : Grammar) (bytes : Word) → Kind grammar (45 ∷ 45 ∷ bytes)
unfolding form_of dashed_form long_form
fourth grammar [] = two_dashes
fourth grammar (x ∷ xs) = long (45 ∷ 45 ∷ x ∷ xs) (name_and_value (x ∷ xs)).0 (name_and_value (x ∷ xs)).1 (record {
  no_dashes = refl;
  long = refl;
  form = named_by grammar (x ∷ xs) (list_any is_equals (x ∷ xs)) refl;
  no_value = refl;
})

third : (grammar : Grammar) (b : ℕ) (bytes : Word) (t : Bool) → (b == 45) ≡ t → IsUtf8 (b ∷ bytes) → Kind grammar (45 ∷ b ∷ bytes)
unfolding form_of dashed_form short_form
third grammar b bytes true e text = subst (λ (x : ℕ). Kind grammar (45 ∷ x ∷ bytes)) (sym (eqb-true b 45 e)) (fourth grammar bytes)
third grammar b bytes false e text = short (45 ∷ b ∷ bytes) b bytes text (record {
  no_dashes = rw e refl;
  no_long = rw e refl;
  short = rw e refl;
  form = rw e refl;
  no_value = refl;
})

second : (grammar : Grammar) (bytes : Word) → IsUtf8 bytes → Kind grammar (45 ∷ bytes)
unfolding form_of dashed_form
second grammar [] text = plain (45 ∷ []) (record { no_dashes = refl; no_long = refl; no_short = refl; form = refl; is_value = refl })
second grammar (b ∷ bytes) text = third grammar b bytes (b == 45) refl text

a_value : (b : ℕ) (bytes : Word) → (b == 45) ≡ false → is_value (b ∷ bytes) ≡ true
a_value b [] e = refl
a_value b (c ∷ bytes) e = rw e refl

behind_dash : (bytes : Word) → IsUtf8 (45 ∷ bytes) → IsUtf8 bytes
unfolding encode
behind_dash bytes text = IsUtf8-past_char (45 ∷ bytes) bytes 45 text refl

first : (grammar : Grammar) (b : ℕ) (bytes : Word) (t : Bool) → (b == 45) ≡ t → IsUtf8 (b ∷ bytes) → Kind grammar (b ∷ bytes)
unfolding form_of
first grammar b bytes true e text =
    let is : b ≡ 45 = eqb-true b 45 e in
    subst (λ (x : ℕ). Kind grammar (x ∷ bytes)) (sym is) (second grammar bytes (behind_dash bytes (subst (λ (x : ℕ). IsUtf8 (x ∷ bytes)) is text)))
first grammar b bytes false e text = plain (b ∷ bytes) (record {
  no_dashes = rw e refl;
  no_long = rw e refl;
  no_short = rw e refl;
  form = rw e refl;
  is_value = a_value b bytes e;
})

-- each word is of one kind
pub kind_of : (grammar : Grammar) (word : Word) → IsUtf8 word → Kind grammar word
unfolding form_of
kind_of grammar [] text = plain [] (record { no_dashes = refl; no_long = refl; no_short = refl; form = refl; is_value = refl })
kind_of grammar (b ∷ bytes) text = first grammar b bytes (b == 45) refl text

-- ---- names

-- a name of the grammar, or another
pub data Name (grammar : Grammar) (name : Word) : Type 0 where
  a_flag : is_among grammar.flags name ≡ true → Name grammar name
  an_option : is_among grammar.flags name ≡ false → is_among grammar.options name ≡ true → Name grammar name
  another : is_among grammar.flags name ≡ false → is_among grammar.options name ≡ false → Name grammar name

by_tests : (grammar : Grammar) (name : Word) (f o : Bool) → is_among grammar.flags name ≡ f → is_among grammar.options name ≡ o → Name grammar name
by_tests grammar name true o e h = a_flag e
by_tests grammar name false true e h = an_option e h
by_tests grammar name false false e h = another e h

pub name_in : (grammar : Grammar) (name : Word) → Name grammar name
name_in grammar name = by_tests grammar name (is_among grammar.flags name) (is_among grammar.options name) refl refl

pub option_is : (grammar : Grammar) (name : Word) (v : Option Word) → is_among grammar.flags name ≡ false → is_among grammar.options name ≡ true
    → by_name grammar name v ≡ option_form (Some name) v
option_is grammar name None f o = rw (f, o)
option_is grammar name (Some v) f o = rw o

pub other_is : (grammar : Grammar) (name : Word) (v : Option Word) → is_among grammar.flags name ≡ false → is_among grammar.options name ≡ false → by_name grammar name v ≡ unknown
other_is grammar name None f o = rw (f, o)
other_is grammar name (Some v) f o = rw o

pub flag_is : (grammar : Grammar) (name : Word) → is_among grammar.flags name ≡ true → by_name grammar name None ≡ flag name
flag_is grammar name f = rw f

pub valued_flag_is : (grammar : Grammar) (name v : Word) → is_among grammar.options name ≡ false → by_name grammar name (Some v) ≡ unknown
valued_flag_is grammar name v o = rw o

same : (x y : Word) → bytes_eq x y ≡ true → x ≡ y
same x y e = (bytes_eq-Decides x y).0 e

by_head : (P : Word → Type 0) (other : Word) (names : List Word) (name : Word) (t : Bool) → bytes_eq other name ≡ t → P other → (is_among names name ≡ true → P name)
    → is_among (other ∷ names) name ≡ true → P name
by_head P other names name true e p rest h = subst P (same other name e) p
by_head P other names name false e p rest h = rest (rw e at h)

-- what holds of each of the names holds of one of them
pub among : (P : Word → Type 0) (names : List Word) (name : Word) → AllByRecursion P names → is_among names name ≡ true → P name
among P [] name all h = cc h
among P (other ∷ names) name all h = by_head P other names name (bytes_eq other name) refl all.0 (λ e. among P names name all.1 e) h

neither : (a b : Bool) → (a || b) ≡ false → (a ≡ false) × (b ≡ false)
neither true b e = cc e
neither false b e = (refl, e)

-- a name that is none of the names is another than each
pub none_among : (names : List Word) (name : Word) → is_among names name ≡ false → AllByRecursion (λ other. bytes_eq other name ≡ false) names
none_among [] name e = tt
none_among (other ∷ names) name e =
    let parts = neither (bytes_eq other name) (is_among names name) e in
    (parts.0, none_among names name parts.1)

-- ---- letters

-- the first character of a text: an ASCII character only where the text begins with it
pub record Letter (b : ℕ) (bytes : Word) (c : ℕ) : Type 0 where
  pub first : slice_get (chars (b ∷ bytes)) 0 ≡ Some c
  pub unlike : (l : ℕ) → l < 128 → (l == b) ≡ false → (l == c) ≡ false

unlike_by : (l c b : ℕ) (cs bytes : Word) (t : Bool) → (l == c) ≡ t → l < 128 → encodes (c ∷ cs) ≡ b ∷ bytes → (l == b) ≡ false → (l == c) ≡ false
unlike_by l c b cs bytes false e small f other = e
unlike_by l c b cs bytes true e small f other =
    let is : l ≡ c = eqb-true l c e in
    let front : c ∷ encodes cs ≡ b ∷ bytes = sym (ap (λ x. x ++ encodes cs) (encode_ascii c (omega arith))) ∙ f in
    let same : c ≡ b = cc in
    let differs : l ≢ b = grind (arith, nat_tests) in
    absurd (differs (is ∙ same))

letter : (b : ℕ) (bytes cs : Word) → chars (b ∷ bytes) ≡ cs → encodes cs ≡ b ∷ bytes → (c : ℕ) × Letter b bytes c
letter b bytes [] e f = cc f
letter b bytes (c ∷ cs) e f = (
  c,
  record {
    first = ap (λ l. slice_get l 0) e;
    unlike = λ l small other. unlike_by l c b cs bytes (l == c) refl small f other;
  },
)

pub letter_of : (b : ℕ) (bytes : Word) → IsUtf8 (b ∷ bytes) → (c : ℕ) × Letter b bytes c
letter_of b bytes text = letter b bytes (chars (b ∷ bytes)) refl (encodes-chars (b ∷ bytes) text)
