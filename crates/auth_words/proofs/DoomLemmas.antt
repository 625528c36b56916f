-- A use that can't be settled ends in a fault, whatever follows.
use Rattle.std.proofs.Common.{◌≡◌, ℕ, ◌<◌, true, false, List, [], ◌∷◌, refl, sym, ap, ◌∙◌, subst, Option, Some, None, inl, inr, ◌⊎◌}
use Rattle.std.specs.Prelude.{fold}
use Rattle.std.specs.List.{All}
use Rattle.std.specs.Str.{IsUtf8}
use Rattle.std.proofs.lemmas.List.Elements.{All-head, All-tail}
use Rattle.clap.specs.Kinds.{or_else}
use Rattle.clap.specs.Words.{Kinds, Row, Rule}
use Rattle.clap.specs.Walk.{Held, Walk, Waiting, idle, option, positional, walked, arg_by_long}
use Rattle.clap.specs.Faults.{turn_fault, option_fault, flags_fault, bundle_fault, long_fault, walk_fault}
use Rattle.auth_words.proofs.ReaderLemmas.{Reader, Reads, Initial, a_letter, no_letter, Nth, a_place, no_place, none}
use Rattle.auth_words.proofs.ShapeLemmas.{Word, Kind, plain, two_dashes, long, short, Long, Short, Name, an_option, a_flag, another, kind_of, name_in}
use Rattle.auth_words.proofs.TurnLemmas.{Pending, hold, walk_at, settles, place_fault, at_place_turn, stray_turn, plain_turn, behind_turn, dashes_walk}

pub first_dead : (a b : Kinds) → none a ≡ false → none (or_else a b) ≡ false
first_dead [] b e = cc e
first_dead (k ∷ ks) b e = refl

pub later_dead : (a b c : Kinds) → none (or_else b c) ≡ false → none (or_else (or_else a b) c) ≡ false
later_dead [] b c e = e
later_dead (k ∷ ks) b c e = refl

abbrev pub Texts : List Word → Type 0
Texts words = All IsUtf8 words

module _ (x : Reader) where
  -- what can't be settled is held, and no value is awaited
  pub data Doomed : Walk → Type 0 where
    before : (rows : List Row) (pending : Pending) (p : ℕ) → 0 < p → none (settles x (hold rows pending)) ≡ false → Doomed (walk_at (hold rows pending) idle p false)
    behind : (rows : List Row) (pending : Pending) (waiting : Waiting) (p : ℕ) → 0 < p → none (settles x (hold rows pending)) ≡ false → Doomed (walk_at (hold rows pending) waiting p true)

  -- the kinds of a walk over words, and of what is then pending
  abbrev pub ends : Walk → List Word → Kinds
  ends w words = or_else (walk_fault x.shape [] w words) (settles x (fold (walked x.shape.rules []) w words).held)

  abbrev pub Dead : Walk → Word → Type 0
  Dead w word = (none (turn_fault x.shape [] w word) ≡ false) ⊎ Doomed (walked x.shape.rules [] w word)

module _ (x : Reader) (ok : Reads x) where
  -- ---- a flag word settles what is pending

  option_dead : (r : Rule) (v : Option Word) (h : Held) → none (settles x h) ≡ false → none (option_fault x.shape.rules false r v h) ≡ false
  option_dead r None h e = e
  option_dead r (Some v) h e = first_dead (settles x h) _ e

  long_dead : (h : Held) (name : Word) (v : Option Word) → Name x.grammar name → none (settles x h) ≡ false → none (long_fault x.shape.rules false (arg_by_long x.shape.rules name) v h) ≡ false
  long_dead h name v (an_option f o) e =
      let r = ok.option name o in
      rw (r.1.long, r.1.takes.takes) (option_dead r.0 v h e)
  long_dead h name None (a_flag f) e =
      let r = ok.flag name f in
      rw (r.1.long, r.1.switch.takes) (first_dead (settles x h) _ e)
  long_dead h name (Some v) (a_flag f) e =
      let r = ok.flag name f in
      rw (r.1.long, r.1.switch.takes) refl
  long_dead h name v (another f o) e = rw (ok.other name o f) refl

  short_dead : (rows : List Row) (pending : Pending) (b : ℕ) (bytes : Word) → Initial x b bytes → none (settles x (hold rows pending)) ≡ false
      → none (bundle_fault x.shape.rules false (b ∷ bytes) (hold rows pending)) ≡ false
  unfolding flags_fault
  short_dead rows pending b bytes (a_letter name r lettered among its char by small) e =
      rw (char, by, small, its.takes.takes) (option_dead r _ (hold rows pending) e)
  short_dead rows pending b bytes (no_letter c lettered char by) e = rw (char, by) refl

  pub dead_long : (h : Held) (waiting : Waiting) (p : ℕ) (word name : Word) (v : Option Word) → Long x.grammar word name v → none (settles x h) ≡ false
      → none (turn_fault x.shape [] (walk_at h waiting p false) word) ≡ false
  dead_long h idle p word name v is e = rw (is.no_dashes, is.long, ok.no_override) (first_dead _ _ (long_dead h name v (name_in x.grammar name) e))
  dead_long h (option i) p word name v is e = rw (is.no_dashes, is.long, ok.no_override) (first_dead _ _ (long_dead h name v (name_in x.grammar name) e))
  dead_long h positional p word name v is e = rw (is.no_dashes, is.long, ok.no_override) (first_dead _ _ (long_dead h name v (name_in x.grammar name) e))

  pub dead_short : (rows : List Row) (pending : Pending) (waiting : Waiting) (p : ℕ) (word : Word) (b : ℕ) (bytes : Word) → IsUtf8 (b ∷ bytes) → Short x.grammar word b bytes
      → none (settles x (hold rows pending)) ≡ false → none (turn_fault x.shape [] (walk_at (hold rows pending) waiting p false) word) ≡ false
  dead_short rows pending idle p word b bytes text is e =
      rw (is.no_dashes, is.no_long, is.short, ok.no_override) (first_dead _ _ (short_dead rows pending b bytes (ok.initial b bytes text) e))
  dead_short rows pending (option i) p word b bytes text is e =
      rw (is.no_dashes, is.no_long, is.short, ok.no_override) (first_dead _ _ (short_dead rows pending b bytes (ok.initial b bytes text) e))
  dead_short rows pending positional p word b bytes text is e =
      rw (is.no_dashes, is.no_long, is.short, ok.no_override) (first_dead _ _ (short_dead rows pending b bytes (ok.initial b bytes text) e))

  -- ---- so does a positional word

  place_by : (rows : List Row) (pending : Pending) (p : ℕ) → Nth x p → none (settles x (hold rows pending)) ≡ false → none (place_fault x rows pending p) ≡ false
  place_by rows pending p (a_place r by at is takes few next) e = ap none (at_place_turn x ok r takes rows pending p by) ∙ e
  place_by rows pending p (no_place by many) e = stray_turn x ok rows pending p by

  place_dead : (rows : List Row) (pending : Pending) (p : ℕ) → 0 < p → none (settles x (hold rows pending)) ≡ false → none (place_fault x rows pending p) ≡ false
  place_dead rows pending p lt e = place_by rows pending p (ok.nth p lt) e

  -- ---- the rest of the words

  dead_word : (rows : List Row) (pending : Pending) (p : ℕ) (word : Word) → 0 < p → Kind x.grammar word → none (settles x (hold rows pending)) ≡ false
      → Dead x (walk_at (hold rows pending) idle p false) word
  dead_word rows pending p word lt (plain _ is) e = inl (ap none (plain_turn x ok rows pending p word is) ∙ place_dead rows pending p lt e)
  dead_word rows pending p _ lt two_dashes e = inr (subst (Doomed x) (sym (dashes_walk x ok (hold rows pending) p)) (behind rows pending idle p lt e))
  dead_word rows pending p word lt (long _ name v is) e = inl (dead_long (hold rows pending) idle p word name v is e)
  dead_word rows pending p word lt (short _ b bytes text is) e = inl (dead_short rows pending idle p word b bytes text is e)

  dead_turn : (w : Walk) (word : Word) → Doomed x w → IsUtf8 word → Dead x w word
  dead_turn _ word (before rows pending p lt e) text = dead_word rows pending p word lt (kind_of x.grammar word text) e
  dead_turn _ word (behind rows pending waiting p lt e) text = inl (ap none (behind_turn x ok rows pending waiting p word) ∙ place_dead rows pending p lt e)

  pub dead_step : (w : Walk) (word : Word) (words : List Word) → Dead x w word → (Doomed x (walked x.shape.rules [] w word) → none (ends x (walked x.shape.rules [] w word) words) ≡ false)
      → none (ends x w (word ∷ words)) ≡ false
  unfolding walk_fault
  dead_step w word words (inl e) rest = first_dead _ _ (first_dead _ _ e)
  dead_step w word words (inr d) rest = later_dead (turn_fault x.shape [] w word) _ _ (rest d)

  dead_end : (w : Walk) → Doomed x w → none (ends x w []) ≡ false
  unfolding walk_fault
  dead_end _ (before rows pending p lt e) = e
  dead_end _ (behind rows pending waiting p lt e) = e

  pub doomed : (words : List Word) (w : Walk) → Texts words → Doomed x w → none (ends x w words) ≡ false
  doomed [] w texts d = dead_end w d
  doomed (word ∷ words) w texts d = dead_step w word words (dead_turn w word d (All-head IsUtf8 word words texts)) (doomed words (walked x.shape.rules [] w word) (All-tail IsUtf8 word words texts))
