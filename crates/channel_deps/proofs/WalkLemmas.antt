-- The channels of a set, taken one after another.
use Rattle.std.proofs.Common.{◌≡◌, ◌⊎◌, inl, inr, ⊎_elim, ℕ, suc, ◌+◌, ◌<◌, ◌≤◌, List, [], ◌∷◌, ◌++◌, map, length, length-append, take, drop, drop-cons, add-one, Ok, Err, refl, sym, ap, subst, ◌∙◌, append_assoc, arith}
use Rattle.std.specs.Prelude.{flat_map}
use Rattle.std.proofs.lemmas.List.{append-nil, take-append-drop, take-append-le, take_more}
use Rattle.child_ports.specs.Keeper.{Kept}
use Rattle.child_ports.specs.declared.git.GitRow.{GitRow}
use Rattle.child_ports.specs.declared.sig.SigRow.{SigRow}
use Rattle.channel_file.specs.declared.channel.Channel.{Channel}
use Rattle.channel_deps.specs.declared.set.SetTask.{SetTask}
use Rattle.channel_deps.specs.declared.known.Taken.{Taken}
use Rattle.channel_deps.specs.declared.walking.Walk.{Walk}
use Rattle.channel_deps.specs.Members.{with_mentions}
use Rattle.channel_deps.specs.Outcome.{IsTakenAs, AreTakenAs, HasTaken, ComesTo, HasTooMany, IsRefusedAt, IsSetVerdict, IsSetOutcome, listed}
use Rattle.channel_deps.specs.declared.set.SetVerdict.{SetVerdict}
use Rattle.channel_deps.specs.declared.set_fail.SetFail.{SetFail}
use Rattle.channel_deps.specs.declared.set_fail.SetFail.TheVariants as fail
use Rattle.channel_deps.specs.Answers.{OnFinding}
use Rattle.channel_deps.specs.Outside.{Outside, outside}
use Rattle.channel_deps.specs.Steps.{IsAt, HasTakenUp, TakesNext}
use Rattle.channel_deps.proofs.MemberLemmas.{mentions_after, only_append, no_shorter}

-- the channels before a place were taken, and the walk has what was found of them
pub record HasWalked (o : Outside) (s : SetTask) (i : ℕ) (walk : Walk) : Type 0 where
  pub taken : List Taken
  pub front : HasTaken o s (take i walk.list) taken (drop i walk.list)
  pub members : walk.members ≡ map (λ (t : Taken). t.member) taken
  pub store : walk.store ≡ flat_map (λ (t : Taken). t.store) taken
  pub count : length taken ≡ i
  pub within : i ≤ length walk.list

-- ---- lists with one more behind them

pub map_more : (xs : List Taken) (t : Taken) → map (λ (x : Taken). x.member) (xs ++ t ∷ []) ≡ map (λ (x : Taken). x.member) xs ++ t.member ∷ []
map_more [] t = refl
map_more (x ∷ xs) t = ap (λ l. x.member ∷ l) (map_more xs t)

pub flat_more : {A : Type 0} (f : Taken → List A) (xs : List Taken) (t : Taken) → flat_map f (xs ++ t ∷ []) ≡ flat_map f xs ++ f t
flat_more f [] t = append-nil (f t)
flat_more f (x ∷ xs) t = ap (λ l. f x ++ l) (flat_more f xs t) ∙ sym (append_assoc (f x) (flat_map f xs) (f t))

taken_more : (o : Outside) (s : SetTask) (cs : List Channel) (ts : List Taken) (c : Channel) (t : Taken) → AreTakenAs o s cs ts → IsTakenAs o s c (Ok t) → AreTakenAs o s (cs ++ c ∷ []) (ts ++ t ∷ [])
taken_more o s [] [] c t all one = (one, tt)
taken_more o s [] (x ∷ ts) c t all one = absurd all
taken_more o s (d ∷ cs) [] c t all one = absurd all
taken_more o s (d ∷ cs) (x ∷ ts) c t all one = (all.0, taken_more o s cs ts c t all.1 one)

pub listed_more : (s : SetTask) (ts : List Taken) (t : Taken) → listed s (ts ++ t ∷ []) ≡ with_mentions (listed s ts) t.mentions
listed_more s ts t = ap (λ (l : List Channel). with_mentions s.channels l) (flat_more (λ (x : Taken). x.mentions) ts t) ∙ mentions_after s.channels (flat_map (λ (x : Taken). x.mentions) ts) t.mentions

-- where a list with one more behind it is cut, the cut is in the front, or before the last
cut : (ts : List Taken) (t u : Taken) (before after : List Taken) → ts ++ t ∷ [] ≡ before ++ u ∷ after → ((rest : List Taken) × (ts ≡ before ++ u ∷ rest)) ⊎ (before ≡ ts)
cut [] t u [] after is = inr refl
cut [] t u (b ∷ []) after is = absurd (cc)
cut [] t u (b ∷ (d ∷ before)) after is = absurd (cc)
cut (x ∷ ts) t u [] after is = let same : x ≡ u = cc in inl (ts, ap (λ (y : Taken). y ∷ ts) same)
cut (x ∷ ts) t u (b ∷ before) after is =
    let first : x ≡ b = cc in
    let rest : ts ++ t ∷ [] ≡ before ++ u ∷ after = cc in
    ⊎_elim
    (λ inside. inl (inside.0, ap (λ (y : Taken). y ∷ ts) first ∙ ap (λ (l : List Taken). b ∷ l) inside.1))
    (λ last. inr (ap (λ (l : List Taken). b ∷ l) last ∙ ap (λ (y : Taken). y ∷ ts) (sym first)))
    (cut ts t u before after rest)

no_cut : (before after : List Taken) (t : Taken) → [] ≡ before ++ t ∷ after → ⊥
no_cut [] after t is = absurd (cc)
no_cut (b ∷ before) after t is = absurd (cc)

-- ---- where each channel is known from

-- each was mentioned by one before it, or given
abbrev pub AreKnown : SetTask → List Taken → Type 0
AreKnown s taken = (before after : List Taken) (t : Taken) → taken ≡ before ++ t ∷ after → length before < length (listed s before)

pub known_none : (s : SetTask) → AreKnown s []
known_none s before after t split = absurd (no_cut before after t split)

pub known_more : (s : SetTask) (ts : List Taken) (t : Taken) → AreKnown s ts → length ts < length (listed s ts) → AreKnown s (ts ++ t ∷ [])
known_more s ts t known low before after u split = ⊎_elim
    (λ inside. known before inside.0 u inside.1)
    (λ last. subst (λ (b : List Taken). length b < length (listed s b)) (sym last) low)
    (cut ts t u before after split)

-- ---- one more channel

-- the channels up to the next
pub front_channels : (i : ℕ) (walk : Walk) (channel : Channel) → IsAt walk.list i channel → (t : Taken) (new : Walk) → HasTakenUp walk t new → take (i + 1) new.list ≡ take i walk.list ++ channel ∷ []
front_channels i walk channel at t new up =
    let more = only_append walk.list t.mentions in
    let low = at.within in
    let old : take (i + 1) new.list ≡ take (i + 1) walk.list = ap (λ (l : List Channel). take (i + 1) l) (up.list ∙ more.1) ∙ take-append-le (i + 1) walk.list more.0 (omega arith) in
    old ∙ take_more walk.list i channel low ∙ ap (λ (c : Channel). take i walk.list ++ c ∷ []) (sym at.here)

-- the channels from the next on
pub next_channels : (i : ℕ) (walk : Walk) (channel : Channel) → IsAt walk.list i channel → drop i walk.list ≡ channel ∷ drop (i + 1) walk.list
next_channels i walk channel at =
    let low = at.within in
    drop-cons walk.list i channel low ∙ ap (λ (c : Channel). c ∷ drop (suc i) walk.list) (sym at.here) ∙ ap (λ (n : ℕ). channel ∷ drop n walk.list) (sym (add-one i))

module _ (o : Outside) (s : SetTask) (i : ℕ) (walk : Walk) (walked : HasWalked o s i walk) (channel : Channel) (at : IsAt walk.list i channel) (t : Taken) (is : IsTakenAs o s channel (Ok t)) (new : Walk) (up : HasTakenUp walk t new) where
  whole : listed s walked.taken ≡ walk.list
  whole = walked.front.list ∙ take-append-drop i walk.list

  grown : listed s (walked.taken ++ t ∷ []) ≡ new.list
  grown = listed_more s walked.taken t ∙ ap (λ (l : List Channel). with_mentions l t.mentions) whole ∙ sym up.list

  pub walked_more : HasWalked o s (i + 1) new
  walked_more = record {
    taken = walked.taken ++ t ∷ [];
    front = record {
      found = subst (λ (cs : List Channel). AreTakenAs o s cs (walked.taken ++ t ∷ [])) (sym (front_channels i walk channel at t new up)) (taken_more o s (take i walk.list) walked.taken channel t walked.front.found is);
      list = grown ∙ sym (take-append-drop (i + 1) new.list);
      few = subst (λ (l : List Channel). length l ≤ 256) (sym (take-append-drop (i + 1) new.list)) up.few;
      known = known_more s walked.taken t walked.front.known (let low = at.within in omega (arith, walked.count, ap length whole));
    };
    members = up.members ∙ ap (λ l. l ++ t.member ∷ []) walked.members ∙ sym (map_more walked.taken t);
    store = up.store ∙ ap (λ l. l ++ t.store) walked.store ∙ sym (flat_more (λ (x : Taken). x.store) walked.taken t);
    count = omega (arith, length-append walked.taken (t ∷ []), walked.count);
    within = let low = at.within in omega (arith, ap length up.list, no_shorter walk.list t.mentions);
  }

-- ---- how a walk begins and ends

pub drop_whole : {A : Type 0} (l : List A) → drop (length l) l ≡ []
drop_whole [] = refl
drop_whole (x ∷ l) = drop_whole l

pub take_whole : {A : Type 0} (l : List A) → take (length l) l ≡ l
take_whole [] = refl
take_whole (x ∷ l) = ap (λ (r : List _). x ∷ r) (take_whole l)

-- nothing was taken yet
pub none_walked : (o : Outside) (s : SetTask) (walk : Walk) → walk ≡ record { list = s.channels; members = []; store = [] } → length s.channels ≤ 256 → HasWalked o s 0 walk
none_walked o s walk is few = subst (λ (w : Walk). HasWalked o s 0 w) (sym is) (record {
  taken = [];
  front = record { found = tt; list = refl; few = few; known = known_none s };
  members = refl;
  store = refl;
  count = refl;
  within = omega arith;
})

-- all of the list were taken
pub all_walked : (o : Outside) (s : SetTask) (i : ℕ) (walk : Walk) (verdict : SetVerdict) → HasWalked o s i walk → length walk.list ≤ i → verdict.members ≡ walk.members → verdict.store ≡ walk.store → IsSetVerdict o s verdict
all_walked o s i walk verdict walked all members store =
    let is : i ≡ length walk.list = omega (arith, walked.within, all) in
    let before = subst (λ (n : ℕ). HasTaken o s (take n walk.list) walked.taken (drop n walk.list)) is walked.front in
    let taken = subst (λ (l : List Channel). HasTaken o s l walked.taken (drop (length walk.list) walk.list)) (take_whole walk.list) before in
    record {
      channels = walk.list;
      taken = walked.taken;
      whole = subst (λ (l : List Channel). HasTaken o s walk.list walked.taken l) (drop_whole walk.list) taken;
      members = members ∙ walked.members;
      store = store ∙ walked.store;
    }

-- the check comes to the next channel
pub next_comes : (o : Outside) (s : SetTask) (i : ℕ) (walk : Walk) (channel : Channel) (walked : HasWalked o s i walk) → IsAt walk.list i channel → ComesTo o s channel
next_comes o s i walk channel walked at =
    record {
      channels = take i walk.list;
      taken = walked.taken;
      left = drop (i + 1) walk.list;
      front = subst (λ (l : List Channel). HasTaken o s (take i walk.list) walked.taken l) (next_channels i walk channel at) walked.front;
    }

-- its mentions are too many
pub too_many_left : (o : Outside) (s : SetTask) (i : ℕ) (walk : Walk) (channel : Channel) (walked : HasWalked o s i walk) → IsAt walk.list i channel → (t : Taken) → IsTakenAs o s channel (Ok t) → 256 < length (with_mentions walk.list t.mentions) → HasTooMany o s
unfolding next_comes
too_many_left o s i walk channel walked at t is many = record {
  channel = channel;
  comes = next_comes o s i walk channel walked at;
  last = t;
  found = is;
  many = subst (λ (l : List Channel). 256 < length l) (sym (listed_more s walked.taken t ∙ ap (λ (l : List Channel). with_mentions l t.mentions) (walked.front.list ∙ take-append-drop i walk.list))) many;
}

-- it is refused
pub refused_left : (o : Outside) (s : SetTask) (i : ℕ) (walk : Walk) (channel : Channel) (walked : HasWalked o s i walk) → IsAt walk.list i channel → (e : SetFail) → IsTakenAs o s channel (Err e) → IsRefusedAt o s e
refused_left o s i walk channel walked at e is = record { channel = channel; comes = next_comes o s i walk channel walked at; refused = is }

-- ---- a step of the walk

pub next_walked : (o : Outside) (s : SetTask) (i : ℕ) (walk new : Walk) → HasWalked o s i walk → TakesNext o s i walk (Ok new) → HasWalked o s (i + 1) new
next_walked o s i walk new walked next = let one = next.2 in walked_more o s i walk walked next.0 next.1 one.0 one.1 new one.2

pub next_refused : (o : Outside) (s : SetTask) (i : ℕ) (walk : Walk) (e : SetFail) → HasWalked o s i walk → OnFinding {T = Walk} (Err e) (TakesNext o s i walk (Err e)) → OnFinding {T = SetVerdict} (Err e) (IsSetOutcome o s (Err e))
next_refused o s i walk fail.GitFault walked next = tt
next_refused o s i walk fail.SigFault walked next = tt
next_refused o s i walk fail.KeepFault walked next = tt
next_refused o s i walk fail.Memory walked next = tt
next_refused o s i walk fail.TooManyChannels walked next = let one = next.2 in too_many_left o s i walk next.0 walked next.1 one.0 one.1 one.2
next_refused o s i walk e walked next = refused_left o s i walk next.0 walked next.1 e next.2

-- what is found outside stays
pub same_outside : (answers answers' : List GitRow) (verdicts verdicts' : List SigRow) (kept kept' : Kept) → answers ≡ answers' → verdicts ≡ verdicts' → kept ≡ kept' → outside answers verdicts kept ≡ outside answers' verdicts' kept'
same_outside answers answers' verdicts verdicts' kept kept' a v k = rw (a, v, k) refl
