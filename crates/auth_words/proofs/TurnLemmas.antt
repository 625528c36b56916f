-- One word of clap's walk.
use Rattle.std.proofs.Common.{◌≡◌, ℕ, ◌+◌, min, Bool, true, false, ◌&&◌, ◌||◌, List, [], ◌∷◌, refl, ap, ◌∙◌, Option, Some, None}
use Rattle.std.specs.Prelude.{slice_get, encode_utf8}
use Rattle.std.specs.Option.{option_map_or}
use Rattle.std.specs.Str.{chars}
use Rattle.std.proofs.lemmas.Slice.Eq.{bytes_eq-Decides}
use Rattle.clap.specs.Kinds.{or_else}
use Rattle.clap.specs.Words.{Kinds, Rule, Row, Text}
use Rattle.clap.specs.Walk.{Held, Walk, Waiting, Step, idle, option, walked, to_positional, arg_by_index, arg_by_long, arg_by_short, is_pending, settled_rows, attached_value, bundle_met, option_met, after_flag, after_step, used}
use Rattle.clap.specs.Faults.{turn_fault, react_fault, settle_fault, option_fault, flags_fault, positional_fault, stray_fault}
use Rattle.auth_words.proofs.ReaderLemmas.{Reader, Reads, IsRule, TakesOne, IsSwitch, none}
use Rattle.auth_words.proofs.ShapeLemmas.{Word, dashes, Plain, Long, Short}

-- what is held between two words
abbrev pub Pending : Type 0
Pending = Option (Text × List Text)

abbrev pub hold : List Row → Pending → Held
hold rows pending = record { rows = rows; pending = pending; skip = 0 }

abbrev pub walk_at : Held → Waiting → ℕ → Bool → Walk
walk_at h waiting position trailing = record { held = h; waiting = waiting; position = position; is_trailing = trailing; stopped = None }

-- what is held once an argument waits with a value
abbrev pub with_pending : Rule → Word → List Row → Held
with_pending r word rows = hold rows (Some (r.id, word ∷ []))

pub none_or : (a b : Kinds) → none (or_else a b) ≡ (none a && none b)
none_or [] b = refl
none_or (k ∷ ks) b = refl

or_nil : (a : Kinds) → or_else a [] ≡ a
or_nil [] = refl
or_nil (k ∷ ks) = refl

and_false : (t : Bool) → (t && false) ≡ false
and_false false = refl
and_false true = refl

or_false : (t : Bool) → (t || false) ≡ t
or_false true = refl
or_false false = refl

module _ (x : Reader) where
  abbrev pub settles : Held → Kinds
  settles h = settle_fault x.shape.rules false h

  -- the rows once what is pending is used
  abbrev pub in_rows : List Row → Pending → List Row
  in_rows rows pending = settled_rows x.shape.rules pending rows

  -- a word that goes to the positional in turn
  abbrev pub to_place : List Row → Pending → Waiting → ℕ → Bool → Word → Walk
  to_place rows pending waiting p t word = to_positional x.shape.rules (arg_by_index x.shape.rules p) word (walk_at (hold rows pending) waiting p t) (hold rows pending)

  abbrev pub place_fault : List Row → Pending → ℕ → Kinds
  place_fault rows pending p = option_map_or (λ a. positional_fault x.shape.rules false a (hold rows pending)) (arg_by_index x.shape.rules p) (stray_fault x.shape)

  -- an option, with the value that stands in its word
  abbrev option_step : Waiting → Rule → Option Word → Held → Word → Held × Step
  option_step waiting r v h word = after_flag x.shape.rules waiting word (option_met x.shape.rules r v h).0 (option_met x.shape.rules r v h).1

  abbrev pub option_walk : Rule → Option Word → Held → ℕ → Word → Walk
  option_walk r v h p word = after_step x.shape.rules word (walk_at h idle p false) (option_step idle r v h word).0 (option_step idle r v h word).1

module _ (x : Reader) (ok : Reads x) where
  -- ---- positional words

  pub plain_walk : (rows : List Row) (pending : Pending) (p : ℕ) (word : Word) → Plain x.grammar word
      → walked x.shape.rules [] (walk_at (hold rows pending) idle p false) word ≡ to_place x rows pending idle p false word
  unfolding walked
  plain_walk rows pending p word is = rw (is.no_dashes, is.no_long, is.no_short) refl

  pub plain_turn : (rows : List Row) (pending : Pending) (p : ℕ) (word : Word) → Plain x.grammar word
      → turn_fault x.shape [] (walk_at (hold rows pending) idle p false) word ≡ place_fault x rows pending p
  plain_turn rows pending p word is = rw (is.no_dashes, is.no_long, is.no_short, ok.no_override) refl

  pub behind_walk : (rows : List Row) (pending : Pending) (waiting : Waiting) (p : ℕ) (word : Word)
      → walked x.shape.rules [] (walk_at (hold rows pending) waiting p true) word ≡ to_place x rows pending waiting p true word
  unfolding walked
  behind_walk rows pending waiting p word = refl

  pub behind_turn : (rows : List Row) (pending : Pending) (waiting : Waiting) (p : ℕ) (word : Word)
      → turn_fault x.shape [] (walk_at (hold rows pending) waiting p true) word ≡ place_fault x rows pending p
  behind_turn rows pending waiting p word = rw ok.no_override refl

  takes_word : (r : Rule) → TakesOne r → (rows : List Row) (pending : Pending) (waiting : Waiting) (p : ℕ) (t : Bool) (word : Word)
      → to_positional x.shape.rules (Some r) word (walk_at (hold rows pending) waiting p t) (hold rows pending)
      ≡ walk_at (with_pending r word (in_rows x rows pending)) idle (min (p + 1) 18446744073709551615) (t || false)
  takes_word r takes rows pending waiting p t word = rw (takes.several, and_false (is_pending r pending), takes.append, takes.trailing) refl

  takes_turn : (r : Rule) → TakesOne r → (rows : List Row) (pending : Pending) → positional_fault x.shape.rules false r (hold rows pending) ≡ settles x (hold rows pending)
  takes_turn r takes rows pending = rw (takes.several, and_false (is_pending r pending)) refl

  pub at_place : (r : Rule) → TakesOne r → (rows : List Row) (pending : Pending) (waiting : Waiting) (p : ℕ) (t : Bool) (word : Word) → arg_by_index x.shape.rules p ≡ Some r
      → to_place x rows pending waiting p t word ≡ walk_at (with_pending r word (in_rows x rows pending)) idle (min (p + 1) 18446744073709551615) t
  at_place r takes rows pending waiting p t word e = rw e (takes_word r takes rows pending waiting p t word ∙ ap (λ b. walk_at _ idle _ b) (or_false t))

  pub at_place_turn : (r : Rule) → TakesOne r → (rows : List Row) (pending : Pending) (p : ℕ) → arg_by_index x.shape.rules p ≡ Some r
      → place_fault x rows pending p ≡ settles x (hold rows pending)
  at_place_turn r takes rows pending p e = rw e (takes_turn r takes rows pending)

  pub stray_turn : (rows : List Row) (pending : Pending) (p : ℕ) → arg_by_index x.shape.rules p ≡ None → none (place_fault x rows pending p) ≡ false
  stray_turn rows pending p e = rw (e, ok.leaf) refl

  -- ---- `--`

  pub dashes_walk : (h : Held) (p : ℕ) → walked x.shape.rules [] (walk_at h idle p false) dashes ≡ walk_at h idle p true
  unfolding walked
  dashes_walk h p = refl

  pub dashes_turn : (h : Held) (p : ℕ) → turn_fault x.shape [] (walk_at h idle p false) dashes ≡ []
  dashes_turn h p = refl

  pub waiting_dashes_walk : (h : Held) (i : Text) (p : ℕ) → walked x.shape.rules [] (walk_at h (option i) p false) dashes ≡ walk_at h (option i) p true
  unfolding walked
  waiting_dashes_walk h i p = refl

  -- ---- options

  pub long_walk : (r : Rule) → TakesOne r → (h : Held) (p : ℕ) (word name : Word) (v : Option Word) → Long x.grammar word name v → arg_by_long x.shape.rules name ≡ Some r
      → walked x.shape.rules [] (walk_at h idle p false) word ≡ option_walk x r v h p word
  unfolding walked
  long_walk r takes h p word name v is e = rw (is.no_dashes, is.long, e, takes.takes) refl

  pub long_turn : (r : Rule) → TakesOne r → (h : Held) (p : ℕ) (word name : Word) (v : Option Word) → Long x.grammar word name v → arg_by_long x.shape.rules name ≡ Some r
      → none (turn_fault x.shape [] (walk_at h idle p false) word) ≡ none (option_fault x.shape.rules false r v h)
  long_turn r takes h p word name None is e = rw (is.no_dashes, is.long, e, takes.takes, ok.no_override) (ap none (or_nil (option_fault x.shape.rules false r None h)))
  long_turn r takes h p word name (Some v) is e = rw (is.no_dashes, is.long, e, takes.takes, ok.no_override) (ap none (or_nil (option_fault x.shape.rules false r (Some v) h)))

  -- an option that has its value in its word
  pub valued_walk : (r : Rule) (v : Word) (rows : List Row) (pending : Pending) (p : ℕ) (word : Word)
      → option_walk x r (Some v) (hold rows pending) p word ≡ walk_at (hold (used r (v ∷ []) (in_rows x rows pending)) None) idle p false
  valued_walk r v rows pending p word = refl

  -- an option whose value is the next word
  pub asking_walk : (r : Rule) (rows : List Row) (pending : Pending) (p : ℕ) (word : Word)
      → option_walk x r None (hold rows pending) p word ≡ walk_at (hold (in_rows x rows pending) (Some (r.id, []))) (option r.id) p false
  asking_walk r rows pending p word = refl

  -- ---- flags

  pub flag_walk : (r : Rule) → IsSwitch r → (rows : List Row) (pending : Pending) (p : ℕ) (word name : Word) → Long x.grammar word name None → arg_by_long x.shape.rules name ≡ Some r
      → walked x.shape.rules [] (walk_at (hold rows pending) idle p false) word ≡ walk_at (hold (used r [] (in_rows x rows pending)) None) idle p false
  unfolding walked
  flag_walk r switch rows pending p word name is e = rw (is.no_dashes, is.long, e, switch.takes) refl

  pub flag_turn : (r : Rule) → IsSwitch r → (rows : List Row) (pending : Pending) (p : ℕ) (word name : Word) → Long x.grammar word name None → arg_by_long x.shape.rules name ≡ Some r
      → none (turn_fault x.shape [] (walk_at (hold rows pending) idle p false) word) ≡ none (react_fault x.shape.rules false r [] (hold rows pending))
  flag_turn r switch rows pending p word name is e = rw (is.no_dashes, is.long, e, switch.takes, ok.no_override) (ap none (or_nil _))

  pub flag_value_turn : (r : Rule) → IsSwitch r → (h : Held) (p : ℕ) (word name v : Word) → Long x.grammar word name (Some v) → arg_by_long x.shape.rules name ≡ Some r
      → none (turn_fault x.shape [] (walk_at h idle p false) word) ≡ false
  flag_value_turn r switch h p word name v is e = rw (is.no_dashes, is.long, e, switch.takes) refl

  -- ---- unknown words

  pub unknown_turn : (h : Held) (p : ℕ) (word name : Word) (v : Option Word) → Long x.grammar word name v → arg_by_long x.shape.rules name ≡ None
      → none (turn_fault x.shape [] (walk_at h idle p false) word) ≡ false
  unknown_turn h p word name v is e = rw (is.no_dashes, is.long, e) refl

  -- ---- letters

  pub letter_walk : (r : Rule) → TakesOne r → (rows : List Row) (pending : Pending) (p : ℕ) (word : Word) (b : ℕ) (bytes : Word) → Short x.grammar word b bytes
      → slice_get (chars (b ∷ bytes)) 0 ≡ Some b → arg_by_short x.shape.rules b ≡ Some r → encode_utf8 b ≡ b ∷ []
      → walked x.shape.rules [] (walk_at (hold rows pending) idle p false) word ≡ option_walk x r (attached_value bytes) (hold rows pending) p word
  unfolding walked bundle_met
  letter_walk r takes rows pending p word b bytes is char e small = rw (is.no_dashes, is.no_long, is.short, char, e, small, takes.takes) refl

  letter_by : (r : Rule) → TakesOne r → (rows : List Row) (pending : Pending) (p : ℕ) (word : Word) (b : ℕ) (bytes : Word) (v : Option Word) → Short x.grammar word b bytes
      → slice_get (chars (b ∷ bytes)) 0 ≡ Some b → arg_by_short x.shape.rules b ≡ Some r → encode_utf8 b ≡ b ∷ [] → attached_value bytes ≡ v
      → none (turn_fault x.shape [] (walk_at (hold rows pending) idle p false) word) ≡ none (option_fault x.shape.rules false r v (hold rows pending))
  unfolding bundle_met flags_fault
  letter_by r takes rows pending p word b bytes None is char e small f =
      rw (is.no_dashes, is.no_long, is.short, char, e, small, takes.takes, f, ok.no_override) (ap none (or_nil (option_fault x.shape.rules false r None (hold rows pending))))
  letter_by r takes rows pending p word b bytes (Some v) is char e small f =
      rw (is.no_dashes, is.no_long, is.short, char, e, small, takes.takes, f, ok.no_override) (ap none (or_nil (option_fault x.shape.rules false r (Some v) (hold rows pending))))

  pub letter_turn : (r : Rule) → TakesOne r → (rows : List Row) (pending : Pending) (p : ℕ) (word : Word) (b : ℕ) (bytes : Word) → Short x.grammar word b bytes
      → slice_get (chars (b ∷ bytes)) 0 ≡ Some b → arg_by_short x.shape.rules b ≡ Some r → encode_utf8 b ≡ b ∷ []
      → none (turn_fault x.shape [] (walk_at (hold rows pending) idle p false) word) ≡ none (option_fault x.shape.rules false r (attached_value bytes) (hold rows pending))
  letter_turn r takes rows pending p word b bytes is char e small = letter_by r takes rows pending p word b bytes (attached_value bytes) is char e small refl

  pub no_letter_turn : (rows : List Row) (pending : Pending) (p : ℕ) (word : Word) (b c : ℕ) (bytes : Word) → Short x.grammar word b bytes → slice_get (chars (b ∷ bytes)) 0 ≡ Some c
      → arg_by_short x.shape.rules c ≡ None → none (turn_fault x.shape [] (walk_at (hold rows pending) idle p false) word) ≡ false
  unfolding bundle_met flags_fault
  no_letter_turn rows pending p word b c bytes is char e = rw (is.no_dashes, is.no_long, is.short, char, e) refl

  -- ---- words where an option waits for its value

  pub value_walk : (r : Rule) → IsRule x r → TakesOne r → (rows : List Row) (p : ℕ) (word : Word) → Plain x.grammar word
      → walked x.shape.rules [] (walk_at (hold rows (Some (r.id, []))) (option r.id) p false) word ≡ walk_at (with_pending r word rows) idle p false
  unfolding walked
  value_walk r rule takes rows p word is =
      rw (is.no_dashes, is.no_long, is.no_short, rule.by_id, (bytes_eq-Decides r.id r.id).1 refl, takes.most) refl

  pub value_turn : (r : Rule) (rows : List Row) (p : ℕ) (word : Word) → Plain x.grammar word
      → turn_fault x.shape [] (walk_at (hold rows (Some (r.id, []))) (option r.id) p false) word ≡ []
  value_turn r rows p word is = rw (is.no_dashes, is.no_long, is.no_short) refl
