-- What one more argument changes.
use Rattle.std.proofs.Common.{◌≡◌, ◌≢◌, ℕ, suc, ◌+◌, ◌==◌, Bool, true, false, cond, ◌&&◌, List, [], ◌∷◌, ◌++◌, length, codes, refl, sym, ap, ◌∙◌, subst, arith, Option, Some, None}
use Rattle.std.specs.Prelude.{bytes_eq, nat_le}
use Rattle.std.specs.List.{filter_map, cons_option, list_all}
use Rattle.std.proofs.lemmas.List.{append-nil, length-append}
use Rattle.std.proofs.lemmas.List.Elements.{filter_map-append}
use Rattle.std.proofs.lemmas.Bool.{and_parts, eqb-true}
use Rattle.std.proofs.lemmas.Bool.Decides.{nat_tests}
use Rattle.std.proofs.lemmas.Slice.Eq.{bytes_eq-Decides}
use Rattle.std.specs.Cmp.Derive.{both_true}
use Rattle.clap.specs.Words.{Rule, Text}
use Rattle.clap.specs.Walk.{arg_by_index, takes_values}
use Rattle.auth_words.specs.Form.{is_among}
use Rattle.auth_words.specs.Arguments.{Argument, positional, valued, flag, positional_in, value_in, flag_in, positionals, values, flags, is_lone, each_once}
use Rattle.auth_words.specs.Words.{first, is_any}
use Rattle.auth_words.proofs.ReaderLemmas.{Reader, IsRule, IsOption, IsFlag, IsSwitch}
use Rattle.auth_words.proofs.RowLemmas.{word_at, value_by, value, Changes}

abbrev Texts : Type 0
Texts = List Text

-- ---- tests of all names

all_still : (p q : Text → Bool) → ((n : Text) → p n ≡ true → q n ≡ true) → (names : Texts) → list_all p names ≡ true → list_all q names ≡ true
all_still p q h [] e = refl
all_still p q h (n ∷ names) e =
    let parts = and_parts (p n) (list_all p names) e in
    both_true (h n parts.0) (all_still p q h names parts.1)

one_fails : (p : Text → Bool) (other name : Text) (names : Texts) (t : Bool) → bytes_eq other name ≡ t → p name ≡ false → (is_among names name ≡ true → list_all p names ≡ false)
    → is_among (other ∷ names) name ≡ true → list_all p (other ∷ names) ≡ false
one_fails p other name names true e f rest h = rw (ap p ((bytes_eq-Decides other name).0 e) ∙ f)
one_fails p other name names false e f rest h = go (p other) (rest (rw e at h))
  where
    go : (t : Bool) → list_all p names ≡ false → (t && list_all p names) ≡ false
    go true g = g
    go false g = refl

not_all : (p : Text → Bool) (names : Texts) (name : Text) → is_among names name ≡ true → p name ≡ false → list_all p names ≡ false
not_all p [] name h f = cc h
not_all p (other ∷ names) name h f = one_fails p other name names (bytes_eq other name) refl f (λ g. not_all p names name g f) h

-- ---- what arguments give, with one more

module _ (h : Argument → Option Text) (g : List Argument) (a : Argument) where
  pub no_more : h a ≡ None → filter_map h (g ++ a ∷ []) ≡ filter_map h g
  no_more e = filter_map-append h g (a ∷ []) ∙ ap (λ o. filter_map h g ++ cons_option o []) e ∙ append-nil (filter_map h g)

  pub one_more : (v : Text) → h a ≡ Some v → filter_map h (g ++ a ∷ []) ≡ filter_map h g ++ v ∷ []
  one_more v e = filter_map-append h g (a ∷ []) ∙ ap (λ o. filter_map h g ++ cons_option o []) e

lone_first : (texts : Texts) (v : Text) → first texts ≡ None → is_lone (texts ++ v ∷ []) ≡ true
lone_first [] v e = refl
lone_first (t ∷ texts) v e = cc e

first_pushed : (texts : Texts) (v : Text) → first texts ≡ None → first (texts ++ v ∷ []) ≡ Some v
first_pushed [] v e = refl
first_pushed (t ∷ texts) v e = cc e

not_lone : (texts : Texts) (u v : Text) → first texts ≡ Some u → is_lone (texts ++ v ∷ []) ≡ false
not_lone [] u v e = cc e
not_lone (t ∷ []) u v e = refl
not_lone (t ∷ s ∷ texts) u v e = refl

lone_part : (us vs : Texts) → is_lone (us ++ vs) ≡ true → is_lone us ≡ true
lone_part [] vs e = refl
lone_part (u ∷ []) vs e = refl
lone_part (u ∷ w ∷ us) vs e = e

-- a kind of argument that has a name and a text: a value of an option, or a use of a flag
module _ (h : Text → Argument → Option Text) (name v : Text) (a : Argument) (own : h name a ≡ Some v) (others : (n : Text) → bytes_eq name n ≡ false → h n a ≡ None) where
  pub other_same : (g : List Argument) (n : Text) → bytes_eq name n ≡ false → filter_map (h n) (g ++ a ∷ []) ≡ filter_map (h n) g
  other_same g n e = no_more (h n) g a (others n e)

  still_lone : (g : List Argument) (n : Text) (t : Bool) → bytes_eq name n ≡ t → first (filter_map (h name) g) ≡ None → is_lone (filter_map (h n) g) ≡ true
      → is_lone (filter_map (h n) (g ++ a ∷ [])) ≡ true
  still_lone g n true e none lone =
      subst (λ (m : Text). is_lone (filter_map (h m) (g ++ a ∷ [])) ≡ true) ((bytes_eq-Decides name n).0 e)
      (ap is_lone (one_more (h name) g a v own) ∙ lone_first (filter_map (h name) g) v none)
  still_lone g n false e none lone = ap is_lone (other_same g n e) ∙ lone

  pub all_lone : (g : List Argument) (names : Texts) → first (filter_map (h name) g) ≡ None → list_all (λ n. is_lone (filter_map (h n) g)) names ≡ true
      → list_all (λ n. is_lone (filter_map (h n) (g ++ a ∷ []))) names ≡ true
  all_lone g names none all = all_still _ _ (λ n lone. still_lone g n (bytes_eq name n) refl none lone) names all

  pub some_not_lone : (g : List Argument) (names : Texts) (u : Text) → is_among names name ≡ true → first (filter_map (h name) g) ≡ Some u
      → list_all (λ n. is_lone (filter_map (h n) (g ++ a ∷ []))) names ≡ false
  some_not_lone g names u among some =
      not_all (λ n. is_lone (filter_map (h n) (g ++ a ∷ []))) names name among (ap is_lone (one_more (h name) g a v own) ∙ not_lone (filter_map (h name) g) u v some)

  pub now_first : (g : List Argument) → first (filter_map (h name) g) ≡ None → first (filter_map (h name) (g ++ a ∷ [])) ≡ Some v
  now_first g none = ap first (one_more (h name) g a v own) ∙ first_pushed (filter_map (h name) g) v none

-- arguments of another kind
module _ (h : Text → Argument → Option Text) (a : Argument) (no : (n : Text) → h n a ≡ None) where
  pub all_lone_still : (g : List Argument) (names : Texts) → list_all (λ n. is_lone (filter_map (h n) g)) names ≡ true
      → list_all (λ n. is_lone (filter_map (h n) (g ++ a ∷ []))) names ≡ true
  all_lone_still g names all = all_still _ _ (λ n lone. ap is_lone (no_more (h n) g a (no n)) ∙ lone) names all

-- the first part of arguments has none twice where the whole has none
all_parts : (h : Text → Argument → Option Text) (g more : List Argument) (names : Texts) → list_all (λ n. is_lone (filter_map (h n) (g ++ more))) names ≡ true
    → list_all (λ n. is_lone (filter_map (h n) g)) names ≡ true
all_parts h g more names all = all_still _ _ (λ n lone. lone_part (filter_map (h n) g) (filter_map (h n) more) (ap is_lone (sym (filter_map-append (h n) g more)) ∙ lone)) names all

-- ---- arguments that may be accepted

abbrev pub is_fine : Reader → List Argument → Bool
is_fine x g = each_once x.grammar g && nat_le (length (positionals g)) x.count

pub fine_parts : (x : Reader) (g : List Argument) → is_fine x g ≡ true
    → (list_all (λ n. is_lone (values n g)) x.grammar.options ≡ true) × (list_all (λ n. is_lone (flags n g)) x.grammar.flags ≡ true) × (nat_le (length (positionals g)) x.count ≡ true)
fine_parts x g e =
    let both = and_parts (each_once x.grammar g) (nat_le (length (positionals g)) x.count) e in
    let names = and_parts (list_all (λ n. is_lone (values n g)) x.grammar.options) (list_all (λ n. is_lone (flags n g)) x.grammar.flags) both.0 in
    (names.0, names.1, both.1)

fewer : (us vs : Texts) (n : ℕ) → nat_le (length (us ++ vs)) n ≡ true → nat_le (length us) n ≡ true
fewer us vs n e = let l = length-append us vs in grind (arith, nat_tests, l)

fine_part : (x : Reader) (g more : List Argument) → is_fine x (g ++ more) ≡ true → is_fine x g ≡ true
fine_part x g more e =
    let parts = fine_parts x (g ++ more) e in
    both_true (both_true (all_parts value_in g more x.grammar.options parts.0) (all_parts flag_in g more x.grammar.flags parts.1))
    (fewer (positionals g) (positionals more) x.count (ap (λ l. nat_le (length l) x.count) (sym (filter_map-append positional_in g more)) ∙ parts.2))

-- what may not be accepted may not with more behind it
pub still_bad : (x : Reader) (g more : List Argument) → is_fine x g ≡ false → is_fine x (g ++ more) ≡ false
still_bad x g more e = go (is_fine x (g ++ more)) refl
  where
    go : (t : Bool) → is_fine x (g ++ more) ≡ t → is_fine x (g ++ more) ≡ false
    go true f = let bad : true ≡ false = sym (fine_part x g more f) ∙ e in cc bad
    go false f = f

-- an argument has a value already, or one more is given
pub data Put (x : Reader) (g : List Argument) (a : Argument) (r : Rule) (v : Text) : Type 0 where
  taken : (u : Text) → value g r ≡ Some u → is_fine x (g ++ a ∷ []) ≡ false → Put x g a r v
  fresh : Changes x g (g ++ a ∷ []) r v → is_fine x (g ++ a ∷ []) ≡ true → Put x g a r v

first_false : (a b : Bool) → a ≡ false → (a && b) ≡ false
first_false a b e = rw e

second_false : (a b : Bool) → b ≡ false → (a && b) ≡ false
second_false true b e = e
second_false false b e = refl

-- ---- values of options

own_value : (name v : Text) → value_in name (valued name v) ≡ Some v
own_value name v = rw ((bytes_eq-Decides name name).1 refl)

other_value : (name v n : Text) → bytes_eq name n ≡ false → value_in n (valued name v) ≡ None
other_value name v n e = rw e

value_stays : (name v : Text) (g : List Argument) (i : Option ℕ) (t : Bool) (n : Text) → bytes_eq name n ≡ false → value_by i t n (g ++ valued name v ∷ []) ≡ value_by i t n g
value_stays name v g (Some i) t n e = ap (word_at 1 i) (no_more positional_in g (valued name v) refl)
value_stays name v g None true n e = ap first (no_more (value_in n) g (valued name v) (other_value name v n e))
value_stays name v g None false n e = ap (λ l. cond (is_any l) (Some (codes "true")) None) (no_more (flag_in n) g (valued name v) refl)

-- an option's value is its first
pub option_value : (g : List Argument) (r : Rule) → r.index ≡ None → takes_values r ≡ true → value g r ≡ first (values r.id g)
option_value g r i t = rw (i, t)

pub flag_value : (g : List Argument) (r : Rule) → r.index ≡ None → takes_values r ≡ false → value g r ≡ cond (is_any (flags r.id g)) (Some (codes "true")) None
flag_value g r i t = rw (i, t)

pub word_value : (g : List Argument) (r : Rule) (n : ℕ) → r.index ≡ Some n → value g r ≡ word_at 1 n (positionals g)
word_value g r n i = rw i

put_by : (x : Reader) (g : List Argument) (r : Rule) (v : Text) (o : Option Text) → IsOption x r.id r → is_among x.grammar.options r.id ≡ true → is_fine x g ≡ true
    → first (values r.id g) ≡ o → Put x g (valued r.id v) r v
put_by x g r v (Some u) option among fine e =
    taken u (option_value g r option.index option.takes.takes ∙ e)
    (first_false _ _ (first_false _ _ (some_not_lone value_in r.id v (valued r.id v) (own_value r.id v) (other_value r.id v) g x.grammar.options u among e)))
put_by x g r v None option among fine e =
    let after : List Argument = g ++ valued r.id v ∷ [] in
    let parts = fine_parts x g fine in
    fresh (record {
      none = option_value g r option.index option.takes.takes ∙ e;
      some = option_value after r option.index option.takes.takes ∙ now_first value_in r.id v (valued r.id v) (own_value r.id v) (other_value r.id v) g e;
      others = λ s is d. value_stays r.id v g s.index (takes_values s) s.id d;
    })
    (both_true (both_true (all_lone value_in r.id v (valued r.id v) (own_value r.id v) (other_value r.id v) g x.grammar.options e parts.0)
    (all_lone_still flag_in (valued r.id v) (λ n. refl) g x.grammar.flags parts.1))
    (ap (λ l. nat_le (length l) x.count) (no_more positional_in g (valued r.id v) refl) ∙ parts.2))

pub put_value : (x : Reader) (g : List Argument) (name v : Text) (r : Rule) → IsOption x name r → is_among x.grammar.options name ≡ true → is_fine x g ≡ true
    → Put x g (valued name v) r v
put_value x g name v r option among fine =
    subst (λ (n : Text). Put x g (valued n v) r v) option.id
    (put_by x g r v (first (values r.id g)) (subst (λ (n : Text). IsOption x n r) (sym option.id) option) (ap (is_among x.grammar.options) option.id ∙ among) fine refl)

-- ---- flags

own_flag : (name : Text) → flag_in name (flag name) ≡ Some name
own_flag name = rw ((bytes_eq-Decides name name).1 refl)

other_flag : (name n : Text) → bytes_eq name n ≡ false → flag_in n (flag name) ≡ None
other_flag name n e = rw e

flag_stays : (name : Text) (g : List Argument) (i : Option ℕ) (t : Bool) (n : Text) → bytes_eq name n ≡ false → value_by i t n (g ++ flag name ∷ []) ≡ value_by i t n g
flag_stays name g (Some i) t n e = ap (word_at 1 i) (no_more positional_in g (flag name) refl)
flag_stays name g None true n e = ap first (no_more (value_in n) g (flag name) refl)
flag_stays name g None false n e = ap (λ l. cond (is_any l) (Some (codes "true")) None) (no_more (flag_in n) g (flag name) (other_flag name n e))

some_any : (texts : Texts) (u : Text) → first texts ≡ Some u → is_any texts ≡ true
some_any [] u e = cc e
some_any (t ∷ texts) u e = refl

none_any : (texts : Texts) → first texts ≡ None → is_any texts ≡ false
none_any [] e = refl
none_any (t ∷ texts) e = cc e

if_any : (g : List Argument) (r : Rule) (t : Bool) → r.index ≡ None → IsSwitch r → is_any (flags r.id g) ≡ t → value g r ≡ cond t (Some (codes "true")) None
if_any g r t i switch e = flag_value g r i switch.takes ∙ ap (λ b. cond b (Some (codes "true")) None) e

flag_by : (x : Reader) (g : List Argument) (r : Rule) (o : Option Text) → IsFlag x r.id r → is_among x.grammar.flags r.id ≡ true → is_fine x g ≡ true
    → first (flags r.id g) ≡ o → Put x g (flag r.id) r (codes "true")
flag_by x g r (Some u) a_flag among fine e =
    taken (codes "true") (if_any g r true a_flag.index a_flag.switch (some_any (flags r.id g) u e))
    (first_false _ _ (second_false _ _ (some_not_lone flag_in r.id r.id (flag r.id) (own_flag r.id) (other_flag r.id) g x.grammar.flags u among e)))
flag_by x g r None a_flag among fine e =
    let after : List Argument = g ++ flag r.id ∷ [] in
    let parts = fine_parts x g fine in
    fresh (record {
      none = if_any g r false a_flag.index a_flag.switch (none_any (flags r.id g) e);
      some = if_any after r true a_flag.index a_flag.switch (some_any (flags r.id after) r.id (now_first flag_in r.id r.id (flag r.id) (own_flag r.id) (other_flag r.id) g e));
      others = λ s is d. flag_stays r.id g s.index (takes_values s) s.id d;
    })
    (both_true (both_true (all_lone_still value_in (flag r.id) (λ n. refl) g x.grammar.options parts.0)
    (all_lone flag_in r.id r.id (flag r.id) (own_flag r.id) (other_flag r.id) g x.grammar.flags e parts.1))
    (ap (λ l. nat_le (length l) x.count) (no_more positional_in g (flag r.id) refl) ∙ parts.2))

pub put_flag : (x : Reader) (g : List Argument) (name : Text) (r : Rule) → IsFlag x name r → is_among x.grammar.flags name ≡ true → is_fine x g ≡ true
    → Put x g (flag name) r (codes "true")
put_flag x g name r a_flag among fine =
    subst (λ (n : Text). Put x g (flag n) r (codes "true")) a_flag.id
    (flag_by x g r (first (flags r.id g)) (subst (λ (n : Text). IsFlag x n r) (sym a_flag.id) a_flag) (ap (is_among x.grammar.flags) a_flag.id ∙ among) fine refl)

-- ---- positional words

-- where the next stands
abbrev pub place : List Argument → ℕ
place g = length (positionals g) + 1

pub place_after : (g : List Argument) (word : Text) → place (g ++ positional word ∷ []) ≡ place g + 1
place_after g word = ap (λ l. length l + 1) (one_more positional_in g (positional word) word refl) ∙ ap (λ n. n + 1) (length-append (positionals g) (word ∷ []))

pub place_same : (g : List Argument) (a : Argument) → positional_in a ≡ None → place (g ++ a ∷ []) ≡ place g
place_same g a e = ap (λ l. length l + 1) (no_more positional_in g a e)

past_by : (n i : ℕ) (t : Bool) (word : Text) (words : Texts) → (n == i) ≡ t → n ≢ i → word_at (suc n) i words ≡ None → word_at n i (word ∷ words) ≡ None
past_by n i true word words e other rest = absurd (other (eqb-true n i e))
past_by n i false word words e other rest = rw e rest

-- no word stands behind the last
past : (n i : ℕ) (words : Texts) → i ≡ n + length words → word_at n i words ≡ None
past n i [] e = refl
past n i (word ∷ words) e = past_by n i (n == i) word words refl (λ is. absurd (omega (arith, is, e))) (past (suc n) i words (omega (arith, e)))

last_by : (n i : ℕ) (t : Bool) (word last : Text) (words : Texts) → (n == i) ≡ t → n ≢ i → word_at (suc n) i words ≡ Some last → word_at n i (word ∷ words) ≡ Some last
last_by n i true word last words e other rest = absurd (other (eqb-true n i e))
last_by n i false word last words e other rest = rw e rest

same_number : (n i : ℕ) → i ≡ n → (n == i) ≡ true
same_number n i e = grind (arith, nat_tests, e)

at_end : (n i : ℕ) (words : Texts) (word : Text) → i ≡ n + length words → word_at n i (words ++ word ∷ []) ≡ Some word
at_end n i [] word e = rw (same_number n i (omega (arith, e)))
at_end n i (w ∷ words) word e = last_by n i (n == i) w word (words ++ word ∷ []) refl (λ is. absurd (omega (arith, is, e))) (at_end (suc n) i words word (omega (arith, e)))

earlier_by : (n i : ℕ) (t : Bool) (w : Text) (us vs : Texts) → (n == i) ≡ t → word_at (suc n) i us ≡ word_at (suc n) i vs → word_at n i (w ∷ us) ≡ word_at n i (w ∷ vs)
earlier_by n i true w us vs e rest = rw e
earlier_by n i false w us vs e rest = rw e rest

no_number : (n i : ℕ) → i ≢ n → (n == i) ≡ false
no_number n i other = grind (arith, nat_tests, other)

earlier : (n i : ℕ) (words : Texts) (word : Text) → i ≢ n + length words → word_at n i (words ++ word ∷ []) ≡ word_at n i words
earlier n i [] word other = rw (no_number n i (λ e. other (omega (arith, e))))
earlier n i (w ∷ words) word other = earlier_by n i (n == i) w (words ++ word ∷ []) words refl (earlier (suc n) i words word (λ e. other (omega (arith, e))))

word_stays : (g : List Argument) (word : Text) (i : Option ℕ) (t : Bool) (name : Text) → ((n : ℕ) → i ≡ Some n → n ≢ place g) → value_by i t name (g ++ positional word ∷ []) ≡ value_by i t name g
word_stays g word (Some i) t name other =
    ap (word_at 1 i) (one_more positional_in g (positional word) word refl) ∙ earlier 1 i (positionals g) word (λ e. other i refl (omega (arith, e)))
word_stays g word None true name other = ap first (no_more (value_in name) g (positional word) refl)
word_stays g word None false name other = ap (λ l. cond (is_any l) (Some (codes "true")) None) (no_more (flag_in name) g (positional word) refl)

-- another argument has another place
apart : (x : Reader) (r s : Rule) (n : ℕ) → IsRule x r → IsRule x s → r.index ≡ Some n → bytes_eq r.id s.id ≡ false → (i : ℕ) → s.index ≡ Some i → i ≢ n
apart x r s n a b at d i e is =
    let both : Some r ≡ Some s = sym (a.by_index n at) ∙ ap (arg_by_index x.shape.rules) (sym is) ∙ b.by_index i e in
    let same : r ≡ s = cc both in
    let bad : true ≡ false = sym ((bytes_eq-Decides r.id s.id).1 (ap (λ q. q.id) same)) ∙ d in
    cc bad

few_more : (words : Texts) (word : Text) (n : ℕ) → nat_le (length words + 1) n ≡ true → nat_le (length (words ++ word ∷ [])) n ≡ true
few_more words word n e = ap (λ l. nat_le l n) (length-append words (word ∷ [])) ∙ e

pub put_word : (x : Reader) (g : List Argument) (word : Text) (r : Rule) → IsRule x r → r.index ≡ Some (place g) → nat_le (place g) x.count ≡ true → is_fine x g ≡ true
    → Changes x g (g ++ positional word ∷ []) r word
put_word x g word r is at few fine = record {
  none = word_value g r (place g) at ∙ past 1 (place g) (positionals g) (omega arith);
  some = word_value (g ++ positional word ∷ []) r (place g) at ∙ ap (word_at 1 (place g)) (one_more positional_in g (positional word) word refl)
      ∙ at_end 1 (place g) (positionals g) word (omega arith);
  others = λ s is_s d. word_stays g word s.index (takes_values s) s.id (apart x r s (place g) is is_s at d);
}

pub word_fine : (x : Reader) (g : List Argument) (word : Text) → nat_le (place g) x.count ≡ true → is_fine x g ≡ true → is_fine x (g ++ positional word ∷ []) ≡ true
word_fine x g word few fine =
    let parts = fine_parts x g fine in
    both_true (both_true (all_lone_still value_in (positional word) (λ n. refl) g x.grammar.options parts.0) (all_lone_still flag_in (positional word) (λ n. refl) g x.grammar.flags parts.1))
    (ap (λ l. nat_le (length l) x.count) (one_more positional_in g (positional word) word refl) ∙ few_more (positionals g) word x.count few)

-- there are too many positional words
pub word_bad : (x : Reader) (g : List Argument) (word : Text) → nat_le (place g) x.count ≡ false → is_fine x (g ++ positional word ∷ []) ≡ false
word_bad x g word many =
    second_false _ _ (ap (λ l. nat_le (length l) x.count) (one_more positional_in g (positional word) word refl)
    ∙ ap (λ l. nat_le l x.count) (length-append (positionals g) (word ∷ [])) ∙ many)

-- ---- no arguments

all_empty : (names : Texts) → list_all (λ (n : Text). true) names ≡ true
all_empty [] = refl
all_empty (n ∷ names) = all_empty names

pub empty_fine : (x : Reader) → is_fine x [] ≡ true
empty_fine x = both_true (both_true (all_empty x.grammar.options) (all_empty x.grammar.flags)) (grind (arith, nat_tests))
