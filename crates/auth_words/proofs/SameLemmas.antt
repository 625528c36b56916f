-- Clap's walk and the rule give the same.
use Rattle.std.proofs.Common.{◌≡◌, ℕ, ◌==◌, Bool, true, false, cond, ◌&&◌, List, [], ◌∷◌, ◌++◌, codes, refl, sym, ap, ◌∙◌, subst, arith, append-nil, append_assoc, Option, Some, None, inl, inr, ◌⊎◌}
use Rattle.std.specs.Prelude.{fold, is_some, option_and_then, if◌then◌else◌}
use Rattle.std.specs.Option.{option_map}
use Rattle.std.specs.Str.{IsUtf8}
use Rattle.std.proofs.lemmas.List.Elements.{All-head, All-tail}
use Rattle.clap.specs.Kinds.{or_else}
use Rattle.clap.specs.Words.{Kinds, Row, Rule}
use Rattle.clap.specs.Walk.{Held, Walk, Waiting, idle, option, walked, attached_value, settled}
use Rattle.clap.specs.Faults.{turn_fault, react_fault, option_fault, walk_fault}
use Rattle.auth_words.specs.Arguments.{Argument, Place, Between, Waiting as Awaiting, Behind, arguments_from, between, then_rest, is_value}
use Rattle.auth_words.specs.Arguments as argument
use Rattle.auth_words.specs.Form.{Form, is_among, option_form, option_lettered, form_of, dashed_form, long_form, attached}
use Rattle.auth_words.specs.Form as form
use Rattle.auth_words.proofs.ReaderLemmas.{Reader, Reads, IsRule, IsOption, IsFlag, TakesOne, IsSwitch, Initial, a_letter, no_letter, Nth, a_place, no_place, conflict, none, put, start}
use Rattle.auth_words.proofs.ShapeLemmas.{Word, Kind, plain, two_dashes, long, short, Long, Short, Name, an_option, a_flag, another, by_name, kind_of, name_in, option_is, other_is, flag_is, valued_flag_is}
use Rattle.auth_words.proofs.RowLemmas.{value, Sees, Changes, row_seen, sees_put, sees_nothing}
use Rattle.auth_words.proofs.ChangeLemmas.{is_fine, still_bad, Put, taken, fresh, put_value, put_flag, put_word, word_fine, word_bad, place, place_after, place_same}
use Rattle.auth_words.proofs.TurnLemmas.{Pending, hold, walk_at, settles, in_rows, with_pending, place_fault, to_place, option_walk, at_place, at_place_turn, stray_turn, plain_walk, plain_turn, behind_walk, behind_turn, dashes_walk, dashes_turn, waiting_dashes_walk, long_walk, long_turn, valued_walk, asking_walk, flag_walk, flag_turn, flag_value_turn, unknown_turn, letter_walk, letter_turn, no_letter_turn, value_walk, value_turn}
use Rattle.auth_words.proofs.DoomLemmas.{Doomed, before, behind, dead_long, dead_short, dead_step, ends, Texts, doomed}

-- ---- the rule, a word at a time

-- the arguments so far and the place, after one more word
abbrev pub Next : Type 0
Next = Option (List Argument × Place)

abbrev pub more : List Argument → Argument → Place → Next
more g a p = Some (g ++ a ∷ [], p)

-- a word between arguments
unfoldable pub after_form : List Argument → Form → Word → Next
after_form g form.positional word = more g (argument.positional word) Between
after_form g (form.valued name v) word = more g (argument.valued name v) Between
after_form g (form.asking name) word = Some (g, Awaiting name)
after_form g (form.flag name) word = more g (argument.flag name) Between
after_form g form.ending word = Some (g, Behind)
after_form g form.unknown word = None

module _ (x : Reader) where
  -- a word at a place
  unfoldable pub after_word : List Argument → Place → Word → Next
  after_word g Between word = after_form g (form_of x.grammar word) word
  after_word g (Awaiting name) word = if is_value word then more g (argument.valued name word) Between else None
  after_word g Behind word = more g (argument.positional word) Behind

  -- the arguments so far, and those of more words
  abbrev pub total : List Argument → Place → List Word → Option (List Argument)
  total g p words = option_map (λ arguments. g ++ arguments) (arguments_from x.grammar p words)

  -- what words leave when read one at a time
  abbrev onward : List Word → Next → Option (List Argument)
  onward words next = option_and_then (λ y. total y.0 y.1 words) next

  one_argument : (g : List Argument) (a : Argument) (rest : Option (List Argument)) → option_map (λ arguments. g ++ arguments) (then_rest a rest) ≡ option_map (λ arguments. (g ++ a ∷ []) ++ arguments) rest
  one_argument g a None = refl
  one_argument g a (Some arguments) = ap Some (sym (append_assoc g (a ∷ []) arguments))

  by_form : (f : Form) (g : List Argument) (word : Word) (words : List Word)
      → option_map (λ arguments. g ++ arguments) (between f word (λ place. arguments_from x.grammar place words)) ≡ onward words (after_form g f word)
  unfolding after_form
  by_form form.positional g word words = one_argument g (argument.positional word) (arguments_from x.grammar Between words)
  by_form (form.valued name v) g word words = one_argument g (argument.valued name v) (arguments_from x.grammar Between words)
  by_form (form.asking name) g word words = refl
  by_form (form.flag name) g word words = one_argument g (argument.flag name) (arguments_from x.grammar Between words)
  by_form form.ending g word words = refl
  by_form form.unknown g word words = refl

  by_value : (t : Bool) (g : List Argument) (name word : Word) (words : List Word) → is_value word ≡ t
      → total g (Awaiting name) (word ∷ words) ≡ onward words (after_word g (Awaiting name) word)
  unfolding after_word
  by_value true g name word words e = rw e (one_argument g (argument.valued name word) (arguments_from x.grammar Between words))
  by_value false g name word words e = rw e

  pub onwards : (p : Place) (g : List Argument) (word : Word) (words : List Word) → total g p (word ∷ words) ≡ onward words (after_word g p word)
  unfolding after_word
  onwards Between g word words = by_form (form_of x.grammar word) g word words
  onwards (Awaiting name) g word words = by_value (is_value word) g name word words refl
  onwards Behind g word words = one_argument g (argument.positional word) (arguments_from x.grammar Behind words)

  -- ---- a walk and the arguments so far

  -- the walk that stands at a place
  abbrev pub walk_of : Place → List Argument → List Row → Pending → Walk
  walk_of Between g rows pending = walk_at (hold rows pending) idle (place g) false
  walk_of (Awaiting name) g rows pending = walk_at (hold rows pending) (option name) (place g) false
  walk_of Behind g rows pending = walk_at (hold rows pending) idle (place g) true

  -- what is held is settled without a fault, and then is what is given
  pub record Ready (g : List Argument) (rows : List Row) (pending : Pending) : Type 0 where
    pub settled : settles x (hold rows pending) ≡ []
    pub sees : Sees x (in_rows x rows pending) g
    pub fine : is_fine x g ≡ true

  pub record Awaits (name : Word) (g : List Argument) (rows : List Row) (pending : Pending) : Type 0 where
    pub waits : pending ≡ Some (name, [])
    pub sees : Sees x rows g
    pub fine : is_fine x g ≡ true
    pub among : is_among x.grammar.options name ≡ true

  pub Live : Place → List Argument → List Row → Pending → Type 0
  Live Between g rows pending = Ready g rows pending
  Live (Awaiting name) g rows pending = Awaits name g rows pending
  Live Behind g rows pending = Ready g rows pending

  abbrev Gone : Walk → Kinds → Type 0
  Gone w fault = (none fault ≡ false) ⊎ Doomed x w

  -- where a word leads: nowhere, to arguments that may not be accepted, or to a place with arguments
  data Turn (w : Walk) (fault : Kinds) : Next → Type 0 where
    dead : Gone w fault → Turn w fault None
    over : (g : List Argument) (p : Place) → Gone w fault → is_fine x g ≡ false → Turn w fault (Some (g, p))
    live : (g : List Argument) (p : Place) (rows : List Row) (pending : Pending) → none fault ≡ true → w ≡ walk_of p g rows pending → Live p g rows pending → Turn w fault (Some (g, p))

  -- what a walk ends with: no fault and the rows of the arguments, or a fault
  abbrev pub end_rows : Walk → List Word → List Row
  end_rows w words = (settled x.shape.rules (fold (walked x.shape.rules []) w words).held).rows

  pub data Result (w : Walk) (words : List Word) : Option (List Argument) → Type 0 where
    refused : none (ends x w words) ≡ false → Result w words None
    too_many : (g : List Argument) → none (ends x w words) ≡ false → is_fine x g ≡ false → Result w words (Some g)
    taken_so : (g : List Argument) → none (ends x w words) ≡ true → Sees x (end_rows w words) g → is_fine x g ≡ true → Result w words (Some g)

attached_test : (b : ℕ) (bytes : Word) (t : Bool) → (b == 61) ≡ t → attached_value (b ∷ bytes) ≡ attached (b ∷ bytes)
attached_test b bytes true e = rw e refl
attached_test b bytes false e = rw e refl

same_value : (bytes : Word) → attached_value bytes ≡ attached bytes
same_value [] = refl
same_value (b ∷ bytes) = attached_test b bytes (b == 61) refl

none_three : (a b c : Kinds) → none (or_else (or_else a b) c) ≡ (none a && none (or_else b c))
none_three [] b c = refl
none_three (k ∷ ks) b c = refl

module _ (x : Reader) (ok : Reads x) where
  -- ---- a value is given

  -- an argument that takes a value has it pending
  pending_settles : (g : List Argument) (r : Rule) (v : Word) (rows : List Row) → IsRule x r → TakesOne r → Sees x rows g
      → settles x (with_pending r v rows) ≡ conflict (is_some (value g r))
  pending_settles g r v rows is takes sees = rw is.by_id (takes.use_one v rows ∙ ap conflict (row_seen x g r rows is sees))

  pending_rows : (r : Rule) (v : Word) (rows : List Row) → IsRule x r → TakesOne r → in_rows x rows (Some (r.id, v ∷ [])) ≡ put r v rows
  pending_rows r v rows is takes = rw is.by_id (takes.used_one v rows)

  pending_ready : (g after : List Argument) (r : Rule) (v : Word) (rows : List Row) → IsRule x r → TakesOne r → Sees x rows g → Changes x g after r v → is_fine x after ≡ true
      → Ready x after rows (Some (r.id, v ∷ []))
  pending_ready g after r v rows is takes sees change fine = record {
    settled = pending_settles g r v rows is takes sees ∙ ap (λ o. conflict (is_some o)) change.none;
    sees = subst (λ (q : List Row). Sees x q after) (sym (pending_rows r v rows is takes)) (sees_put x g after r v rows is sees change);
    fine = fine;
  }

  -- an argument is used at once
  used_ready : (g after : List Argument) (r : Rule) (v : Word) (rows : List Row) → IsRule x r → Sees x rows g → Changes x g after r v → is_fine x after ≡ true → Ready x after (put r v rows) None
  used_ready g after r v rows is sees change fine = record { settled = refl; sees = sees_put x g after r v rows is sees change; fine = fine }

  -- ---- turns carried along equations

  gone_by : (w v : Walk) (f k : Kinds) → w ≡ v → none f ≡ none k → Gone x v k → Gone x w f
  gone_by w v f k e d (inl n) = inl (d ∙ n)
  gone_by w v f k e d (inr doom) = inr (subst (Doomed x) (sym e) doom)

  carry : (w v : Walk) (f k : Kinds) (o : Next) → w ≡ v → none f ≡ none k → Turn x v k o → Turn x w f o
  carry w v f k _ e d (dead gone) = dead (gone_by w v f k e d gone)
  carry w v f k _ e d (over g p gone bad) = over g p (gone_by w v f k e d gone) bad
  carry w v f k _ e d (live g p rows pending n is alive) = live g p rows pending (d ∙ n) (e ∙ is) alive

  led : (w : Walk) (f : Kinds) (o q : Next) → o ≡ q → Turn x w f q → Turn x w f o
  led w f o q e turn = subst (λ (y : Next). Turn x w f y) (sym e) turn

  -- ---- a positional word

  abbrev side : Bool → Place
  side false = Between
  side true = Behind

  side_walk : (t : Bool) (g : List Argument) (rows : List Row) (pending : Pending) → walk_at (hold rows pending) idle (place g) t ≡ walk_of x (side t) g rows pending
  side_walk false g rows pending = refl
  side_walk true g rows pending = refl

  side_live : (t : Bool) (g : List Argument) (rows : List Row) (pending : Pending) → Ready x g rows pending → Live x (side t) g rows pending
  unfolding Live
  side_live false g rows pending ready = ready
  side_live true g rows pending ready = ready

  word_by : (t : Bool) (g : List Argument) (rows : List Row) (pending : Pending) (word : Word) → Nth x (place g) → Ready x g rows pending
      → Turn x (to_place x rows pending idle (place g) t word) (place_fault x rows pending (place g)) (more g (argument.positional word) (side t))
  word_by t g rows pending word (a_place r by at is takes few next) ready =
      let after : List Argument = g ++ argument.positional word ∷ [] in
      live after (side t) (in_rows x rows pending) (Some (r.id, word ∷ []))
      (ap none (at_place_turn x ok r takes rows pending (place g) by ∙ ready.settled))
      (at_place x ok r takes rows pending idle (place g) t word by ∙ ap (λ n. walk_at (with_pending r word (in_rows x rows pending)) idle n t) (next ∙ sym (place_after g word))
      ∙ side_walk t after (in_rows x rows pending) (Some (r.id, word ∷ [])))
      (side_live t _ _ _ (pending_ready g after r word (in_rows x rows pending) is takes ready.sees (put_word x g word r is at few ready.fine) (word_fine x g word few ready.fine)))
  word_by t g rows pending word (no_place by many) ready =
      over (g ++ argument.positional word ∷ []) (side t) (inl (stray_turn x ok rows pending (place g) by)) (word_bad x g word many)

  word_turn : (t : Bool) (g : List Argument) (rows : List Row) (pending : Pending) (word : Word) → Ready x g rows pending
      → Turn x (to_place x rows pending idle (place g) t word) (place_fault x rows pending (place g)) (more g (argument.positional word) (side t))
  word_turn t g rows pending word ready = word_by t g rows pending word (ok.nth (place g) (omega arith)) ready

  behind_step : (g : List Argument) (rows : List Row) (pending : Pending) (word : Word) → Ready x g rows pending
      → Turn x (walked x.shape.rules [] (walk_of x Behind g rows pending) word) (turn_fault x.shape [] (walk_of x Behind g rows pending) word) (after_word x g Behind word)
  unfolding after_word
  behind_step g rows pending word ready =
      carry _ _ _ _ _ (behind_walk x ok rows pending idle (place g) word) (ap none (behind_turn x ok rows pending idle (place g) word)) (word_turn true g rows pending word ready)

  -- ---- a word where an option waits for its value

  placed : (g after : List Argument) → place after ≡ place g → (h : Held) (i : Waiting) (t : Bool) → walk_at h i (place g) t ≡ walk_at h i (place after) t
  placed g after e h i t = ap (λ n. walk_at h i n t) (sym e)

  value_step : (name : Word) (r : Rule) (g : List Argument) (rows : List Row) (word : Word) → IsOption x name r → Put x g (argument.valued name word) r word → Sees x rows g
      → Turn x (walk_at (with_pending r word rows) idle (place g) false) [] (more g (argument.valued name word) Between)
  unfolding Live
  value_step name r g rows word is (taken u e bad) sees =
      over _ Between (inr (before rows (Some (r.id, word ∷ [])) (place g) (omega arith) (ap none (pending_settles g r word rows is.is is.takes sees ∙ ap (λ o. conflict (is_some o)) e)))) bad
  value_step name r g rows word is (fresh change fine) sees =
      let after : List Argument = g ++ argument.valued name word ∷ [] in
      live after Between rows (Some (r.id, word ∷ [])) refl (placed g after (place_same g (argument.valued name word) refl) (with_pending r word rows) idle false)
      (pending_ready g after r word rows is.is is.takes sees change fine)

  waiting_none : (r : Rule) (rows : List Row) → IsRule x r → TakesOne r → none (settles x (hold rows (Some (r.id, [])))) ≡ false
  waiting_none r rows is takes = rw is.by_id (ap none (takes.use_none rows))

  waiting_by : (r : Rule) (g : List Argument) (rows : List Row) (word : Word) → IsOption x r.id r → Kind x.grammar word → is_among x.grammar.options r.id ≡ true → Sees x rows g → is_fine x g ≡ true
      → Turn x (walked x.shape.rules [] (walk_of x (Awaiting r.id) g rows (Some (r.id, []))) word)
      (turn_fault x.shape [] (walk_of x (Awaiting r.id) g rows (Some (r.id, []))) word) (after_word x g (Awaiting r.id) word)
  unfolding after_word
  waiting_by r g rows word is (plain _ a) among sees fine =
      led _ _ _ (more g (argument.valued r.id word) Between) (ap (λ t. cond t (more g (argument.valued r.id word) Between) None) a.is_value)
      (carry _ _ _ _ _ (value_walk x ok r is.is is.takes rows (place g) word a) (ap none (value_turn x ok r rows (place g) word a))
      (value_step r.id r g rows word is (put_value x g r.id word r is among fine) sees))
  waiting_by r g rows _ is two_dashes among sees fine =
      dead (inr (subst (Doomed x) (sym (waiting_dashes_walk x ok (hold rows (Some (r.id, []))) r.id (place g)))
      (behind rows (Some (r.id, [])) (option r.id) (place g) (omega arith) (waiting_none r rows is.is is.takes))))
  waiting_by r g rows word is (long _ name v a) among sees fine =
      led _ _ _ None (ap (λ t. cond t (more g (argument.valued r.id word) Between) None) a.no_value)
      (dead (inl (dead_long x ok (hold rows (Some (r.id, []))) (option r.id) (place g) word name v a (waiting_none r rows is.is is.takes))))
  waiting_by r g rows word is (short _ b bytes text a) among sees fine =
      led _ _ _ None (ap (λ t. cond t (more g (argument.valued r.id word) Between) None) a.no_value)
      (dead (inl (dead_short x ok rows (Some (r.id, [])) (option r.id) (place g) word b bytes text a (waiting_none r rows is.is is.takes))))

  Waits : Word → List Argument → List Row → Word → Type 0
  Waits name g rows word = Turn x (walked x.shape.rules [] (walk_of x (Awaiting name) g rows (Some (name, []))) word)
      (turn_fault x.shape [] (walk_of x (Awaiting name) g rows (Some (name, []))) word) (after_word x g (Awaiting name) word)

  waiting_word : (name : Word) (g : List Argument) (rows : List Row) (word : Word) → IsUtf8 word → is_among x.grammar.options name ≡ true → Sees x rows g → is_fine x g ≡ true → Waits name g rows word
  unfolding Waits
  waiting_word name g rows word text among sees fine =
      let r = ok.option name among in
      subst (λ (n : Word). Waits n g rows word) r.1.id
      (waiting_by r.0 g rows word (subst (λ (n : Word). IsOption x n r.0) (sym r.1.id) r.1) (kind_of x.grammar word text) (ap (is_among x.grammar.options) r.1.id ∙ among) sees fine)

  -- ---- an option

  use_none_of : (g : List Argument) (r : Rule) (v : Word) (rows : List Row) (pending : Pending) → IsRule x r → TakesOne r → Ready x g rows pending
      → none (option_fault x.shape.rules false r (Some v) (hold rows pending)) ≡ none (conflict (is_some (value g r)))
  use_none_of g r v rows pending is takes ready =
      rw ready.settled (ap none (takes.use_one v (in_rows x rows pending) ∙ ap conflict (row_seen x g r (in_rows x rows pending) is ready.sees)))

  valued_step : (name : Word) (r : Rule) (g : List Argument) (rows : List Row) (pending : Pending) (word v : Word) (f : Kinds) → IsOption x name r → Put x g (argument.valued name v) r v
      → Ready x g rows pending → none f ≡ none (option_fault x.shape.rules false r (Some v) (hold rows pending))
      → Turn x (option_walk x r (Some v) (hold rows pending) (place g) word) f (more g (argument.valued name v) Between)
  unfolding Live
  valued_step name r g rows pending word v f is (taken u e bad) ready fault =
      over _ Between (inl (fault ∙ use_none_of g r v rows pending is.is is.takes ready ∙ ap (λ o. none (conflict (is_some o))) e)) bad
  valued_step name r g rows pending word v f is (fresh change fine) ready fault =
      let after : List Argument = g ++ argument.valued name v ∷ [] in
      live after Between (put r v (in_rows x rows pending)) None
      (fault ∙ use_none_of g r v rows pending is.is is.takes ready ∙ ap (λ o. none (conflict (is_some o))) change.none)
      (valued_walk x ok r v rows pending (place g) word ∙ ap (λ q. walk_at (hold q None) idle (place g) false) (is.takes.used_one v (in_rows x rows pending))
      ∙ placed g after (place_same g (argument.valued name v) refl) (hold (put r v (in_rows x rows pending)) None) idle false)
      (used_ready g after r v (in_rows x rows pending) is.is ready.sees change fine)

  asks : (name : Word) (r : Rule) (rows : List Row) (g : List Argument) → r.id ≡ name
      → walk_at (hold rows (Some (r.id, []))) (option r.id) (place g) false ≡ walk_at (hold rows (Some (name, []))) (option name) (place g) false
  asks name r rows g e = ap (λ i. walk_at (hold rows (Some (i, []))) (option i) (place g) false) e

  option_step : (name : Word) (r : Rule) (v : Option Word) (g : List Argument) (rows : List Row) (pending : Pending) (word : Word) (f : Kinds) → IsOption x name r → is_among x.grammar.options name ≡ true
      → Ready x g rows pending → none f ≡ none (option_fault x.shape.rules false r v (hold rows pending))
      → Turn x (option_walk x r v (hold rows pending) (place g) word) f (after_form g (option_form (Some name) v) word)
  unfolding after_form Live
  option_step name r None g rows pending word f is among ready fault =
      live g (Awaiting name) (in_rows x rows pending) (Some (name, [])) (fault ∙ ap none ready.settled)
      (asking_walk x ok r rows pending (place g) word ∙ asks name r (in_rows x rows pending) g is.id)
      (record { waits = refl; sees = ready.sees; fine = ready.fine; among = among })
  option_step name r (Some v) g rows pending word f is among ready fault = valued_step name r g rows pending word v f is (put_value x g name v r is among ready.fine) ready fault

  -- ---- a flag

  flag_none : (g : List Argument) (r : Rule) (rows : List Row) (pending : Pending) → IsRule x r → IsSwitch r → Ready x g rows pending
      → none (react_fault x.shape.rules false r [] (hold rows pending)) ≡ none (conflict (is_some (value g r)))
  flag_none g r rows pending is switch ready =
      rw ready.settled (ap none (switch.use_it (in_rows x rows pending) ∙ ap conflict (row_seen x g r (in_rows x rows pending) is ready.sees)))

  flag_step : (name : Word) (r : Rule) (g : List Argument) (rows : List Row) (pending : Pending) (word : Word) → IsFlag x name r → Put x g (argument.flag name) r (codes "true")
      → Ready x g rows pending → Long x.grammar word name None
      → Turn x (walked x.shape.rules [] (walk_of x Between g rows pending) word) (turn_fault x.shape [] (walk_of x Between g rows pending) word) (more g (argument.flag name) Between)
  unfolding Live
  flag_step name r g rows pending word is (taken u e bad) ready a =
      over _ Between (inl (flag_turn x ok r is.switch rows pending (place g) word name a is.long ∙ flag_none g r rows pending is.is is.switch ready ∙ ap (λ o. none (conflict (is_some o))) e)) bad
  flag_step name r g rows pending word is (fresh change fine) ready a =
      let after : List Argument = g ++ argument.flag name ∷ [] in
      live after Between (put r (codes "true") (in_rows x rows pending)) None
      (flag_turn x ok r is.switch rows pending (place g) word name a is.long ∙ flag_none g r rows pending is.is is.switch ready ∙ ap (λ o. none (conflict (is_some o))) change.none)
      (flag_walk x ok r is.switch rows pending (place g) word name a is.long ∙ ap (λ q. walk_at (hold q None) idle (place g) false) (is.switch.used_so (in_rows x rows pending))
      ∙ placed g after (place_same g (argument.flag name) refl) (hold (put r (codes "true") (in_rows x rows pending)) None) idle false)
      (used_ready g after r (codes "true") (in_rows x rows pending) is.is ready.sees change fine)

  -- ---- a name

  Steps : List Argument → List Row → Pending → Word → Form → Type 0
  Steps g rows pending word f = Turn x (walked x.shape.rules [] (walk_of x Between g rows pending) word) (turn_fault x.shape [] (walk_of x Between g rows pending) word) (after_form g f word)

  long_step : (g : List Argument) (rows : List Row) (pending : Pending) (word name : Word) (v : Option Word) → Name x.grammar name → Ready x g rows pending → Long x.grammar word name v
      → Steps g rows pending word (by_name x.grammar name v)
  unfolding Steps after_form
  long_step g rows pending word name v (an_option f o) ready is =
      let r = ok.option name o in
      led _ _ _ (after_form g (option_form (Some name) v) word) (ap (λ f. after_form g f word) (option_is x.grammar name v f o))
      (carry _ _ _ _ _ (long_walk x ok r.0 r.1.takes (hold rows pending) (place g) word name v is r.1.long) refl
      (option_step name r.0 v g rows pending word _ r.1 o ready (long_turn x ok r.0 r.1.takes (hold rows pending) (place g) word name v is r.1.long)))
  long_step g rows pending word name None (a_flag f) ready is =
      let r = ok.flag name f in
      led _ _ _ (more g (argument.flag name) Between) (ap (λ f. after_form g f word) (flag_is x.grammar name f))
      (flag_step name r.0 g rows pending word r.1 (put_flag x g name r.0 r.1 f ready.fine) ready is)
  long_step g rows pending word name (Some v) (a_flag f) ready is =
      let r = ok.flag name f in
      led _ _ _ None (ap (λ f. after_form g f word) (valued_flag_is x.grammar name v (ok.apart name f)))
      (dead (inl (flag_value_turn x ok r.0 r.1.switch (hold rows pending) (place g) word name v is r.1.long)))
  long_step g rows pending word name v (another f o) ready is =
      led _ _ _ None (ap (λ f. after_form g f word) (other_is x.grammar name v f o))
      (dead (inl (unknown_turn x ok (hold rows pending) (place g) word name v is (ok.other name o f))))

  -- ---- a letter

  short_step : (g : List Argument) (rows : List Row) (pending : Pending) (word : Word) (b : ℕ) (bytes : Word) → Initial x b bytes → Ready x g rows pending → Short x.grammar word b bytes
      → Steps g rows pending word (option_form (option_lettered x.grammar b) (attached bytes))
  unfolding Steps after_form
  short_step g rows pending word b bytes (a_letter name r lettered among is char by small) ready a =
      led _ _ _ (after_form g (option_form (Some name) (attached_value bytes)) word)
      (ap (λ o. after_form g (option_form o (attached bytes)) word) lettered ∙ ap (λ v. after_form g (option_form (Some name) v) word) (sym (same_value bytes)))
      (carry _ _ _ _ _ (letter_walk x ok r is.takes rows pending (place g) word b bytes a char by small) refl
      (option_step name r (attached_value bytes) g rows pending word _ is among ready (letter_turn x ok r is.takes rows pending (place g) word b bytes a char by small)))
  short_step g rows pending word b bytes (no_letter c lettered char by) ready a =
      led _ _ _ None (ap (λ o. after_form g (option_form o (attached bytes)) word) lettered)
      (dead (inl (no_letter_turn x ok rows pending (place g) word b c bytes a char by)))

  between_word : (g : List Argument) (rows : List Row) (pending : Pending) (word : Word) → Kind x.grammar word → Ready x g rows pending → Steps g rows pending word (form_of x.grammar word)
  unfolding Steps after_form form_of dashed_form long_form Live
  between_word g rows pending word (plain _ is) ready =
      led _ _ _ (more g (argument.positional word) Between) (ap (λ f. after_form g f word) is.form)
      (carry _ _ _ _ _ (plain_walk x ok rows pending (place g) word is) (ap none (plain_turn x ok rows pending (place g) word is)) (word_turn false g rows pending word ready))
  between_word g rows pending _ two_dashes ready =
      live g Behind rows pending (ap none (dashes_turn x ok (hold rows pending) (place g))) (dashes_walk x ok (hold rows pending) (place g)) ready
  between_word g rows pending word (long _ name v is) ready =
      led _ _ _ (after_form g (by_name x.grammar name v) word) (ap (λ f. after_form g f word) is.form) (long_step g rows pending word name v (name_in x.grammar name) ready is)
  between_word g rows pending word (short _ b bytes text is) ready =
      led _ _ _ (after_form g (option_form (option_lettered x.grammar b) (attached bytes)) word) (ap (λ f. after_form g f word) is.form)
      (short_step g rows pending word b bytes (ok.initial b bytes text) ready is)

  -- ---- any word at any place

  step : (p : Place) (g : List Argument) (rows : List Row) (pending : Pending) (word : Word) → IsUtf8 word → Live x p g rows pending
      → Turn x (walked x.shape.rules [] (walk_of x p g rows pending) word) (turn_fault x.shape [] (walk_of x p g rows pending) word) (after_word x g p word)
  unfolding Live Steps after_word Waits
  step Between g rows pending word text ready = between_word g rows pending word (kind_of x.grammar word text) ready
  step (Awaiting name) g rows pending word text waits =
      subst (λ (q : Pending). Turn x (walked x.shape.rules [] (walk_of x (Awaiting name) g rows q) word) (turn_fault x.shape [] (walk_of x (Awaiting name) g rows q) word) (after_word x g (Awaiting name) word))
      (sym waits.waits) (waiting_word name g rows word text waits.among waits.sees waits.fine)
  step Behind g rows pending word text ready = behind_step g rows pending word ready

  -- ---- all words

  waited : (name : Word) (g : List Argument) (rows : List Row) (pending : Pending) → Awaits x name g rows pending → none (settles x (hold rows pending)) ≡ false
  waited name g rows pending waits =
      let r = ok.option name waits.among in
      subst (λ (q : Pending). none (settles x (hold rows q)) ≡ false) (ap (λ i. Some (i, [])) r.1.id ∙ sym waits.waits) (waiting_none r.0 rows r.1.is r.1.takes)

  at_last : (p : Place) (g : List Argument) (rows : List Row) (pending : Pending) → Live x p g rows pending → Result x (walk_of x p g rows pending) [] (total x g p [])
  unfolding Live walk_fault
  at_last Between g rows pending ready = taken_so _ (ap none ready.settled) (subst (Sees x (in_rows x rows pending)) (sym (append-nil g)) ready.sees) (ap (is_fine x) (append-nil g) ∙ ready.fine)
  at_last (Awaiting name) g rows pending waits = refused (waited name g rows pending waits)
  at_last Behind g rows pending ready = taken_so _ (ap none ready.settled) (subst (Sees x (in_rows x rows pending)) (sym (append-nil g)) ready.sees) (ap (is_fine x) (append-nil g) ∙ ready.fine)

  fault_then : (w : Walk) (word : Word) (words : List Word) → none (ends x w (word ∷ words)) ≡ (none (turn_fault x.shape [] w word) && none (ends x (walked x.shape.rules [] w word) words))
  unfolding walk_fault
  fault_then w word words = none_three (turn_fault x.shape [] w word) _ _

  on : (w : Walk) (word : Word) (words : List Word) (o : Option (List Argument)) → none (turn_fault x.shape [] w word) ≡ true → Result x (walked x.shape.rules [] w word) words o → Result x w (word ∷ words) o
  on w word words _ n (refused e) = refused (fault_then w word words ∙ ap (λ t. t && none (ends x (walked x.shape.rules [] w word) words)) n ∙ e)
  on w word words _ n (too_many g e bad) = too_many g (fault_then w word words ∙ ap (λ t. t && none (ends x (walked x.shape.rules [] w word) words)) n ∙ e) bad
  on w word words _ n (taken_so g e sees fine) = taken_so g (fault_then w word words ∙ ap (λ t. t && none (ends x (walked x.shape.rules [] w word) words)) n ∙ e) sees fine

  whatever : (w : Walk) (words : List Word) (g : List Argument) (rest : Option (List Argument)) → none (ends x w words) ≡ false → is_fine x g ≡ false
      → Result x w words (option_map (λ arguments. g ++ arguments) rest)
  whatever w words g None e bad = refused e
  whatever w words g (Some arguments) e bad = too_many (g ++ arguments) e (still_bad x g arguments bad)

  next : (w : Walk) (word : Word) (words : List Word) (o : Next) → Turn x (walked x.shape.rules [] w word) (turn_fault x.shape [] w word) o → Texts words
      → ((p : Place) (g : List Argument) (rows : List Row) (pending : Pending) → Live x p g rows pending → Result x (walk_of x p g rows pending) words (total x g p words))
      → Result x w (word ∷ words) (option_and_then (λ y. total x y.0 y.1 words) o)
  next w word words _ (dead gone) texts rest = refused (dead_step x ok w word words gone (λ d. doomed x ok words (walked x.shape.rules [] w word) texts d))
  next w word words _ (over g p gone bad) texts rest =
      whatever w (word ∷ words) g (arguments_from x.grammar p words) (dead_step x ok w word words gone (λ d. doomed x ok words (walked x.shape.rules [] w word) texts d)) bad
  next w word words _ (live g p rows pending n is alive) texts rest =
      on w word words (total x g p words) n (subst (λ (v : Walk). Result x v words (total x g p words)) (sym is) (rest p g rows pending alive))

  pub walks : (words : List Word) → Texts words → (p : Place) (g : List Argument) (rows : List Row) (pending : Pending) → Live x p g rows pending
      → Result x (walk_of x p g rows pending) words (total x g p words)
  walks [] texts p g rows pending alive = at_last p g rows pending alive
  walks (word ∷ words) texts p g rows pending alive =
      subst (λ (o : Option (List Argument)). Result x (walk_of x p g rows pending) (word ∷ words) o) (sym (onwards x p g word words))
      (next (walk_of x p g rows pending) word words (after_word x g p word) (step p g rows pending word (All-head IsUtf8 word words texts) alive) (All-tail IsUtf8 word words texts)
      (walks words (All-tail IsUtf8 word words texts)))

  same_total : (o : Option (List Argument)) → option_map (λ arguments. [] ++ arguments) o ≡ o
  same_total None = refl
  same_total (Some arguments) = refl

  -- the words of a command, from the first on
  pub from_first : (words : List Word) → Texts words → is_fine x [] ≡ true → Result x start words (arguments_from x.grammar Between words)
  unfolding Live
  from_first words texts fine =
      subst (λ (o : Option (List Argument)). Result x start words o) (same_total (arguments_from x.grammar Between words))
      (walks words texts Between [] [] None (record { settled = refl; sees = sees_nothing x; fine = fine }))
