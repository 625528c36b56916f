-- What the reading finds is in the grammar: at each place, what the rest of the bytes must be for what comes out.
use Rattle.std.proofs.Common.{◌≡◌, ◌≢◌, ◌<◌, ◌≤◌, ◌+◌, ℕ, true, List, [], ◌∷◌, ◌++◌, length, Option, Some, None, Result, Ok, Err, ap, sym, ◌∙◌, refl, inl, inr, ◌==◌, arith, subst, nat_lt, append-nil, append_assoc}
use Rattle.std.specs.List.{list_all}
use Rattle.std.proofs.lemmas.Bool.{cases_Bool, ltb-true, eqb-true, eqb-false, or_from, and_from, not_from_false}
use Rattle.sexp_reader.specs.declared.fail.Cause.{Cause}
use Rattle.sexp_reader.specs.declared.fail.Cause.TheVariants.{Hash, Deep}
use Rattle.sexp_reader.specs.Grammar.{is_blank, is_refused, ends_token, in_token, EndsToken, skip, skip_from, escaped, IsQuoted, IsDatum, AreData, quote_symbol, StandsFirst}
use Rattle.sexp_reader.specs.Reading.{Level, listed, quoting, between, comment, token, quoted, escape, Step, on, stop, Reading, nothing, first, fault, read, taken, begin, after_token, after_escape, datum_of}
use Rattle.sexp_reader.specs.Tree.{Tree, Trees, text, list, none, more, trees_of, depth_of, depths_of}
use Rattle.sexp_reader.proofs.DescentLemmas.{token-datum, depth-token, depths-append}
use Rattle.sexp_reader.proofs.PutLemmas.{put, taken-add, prepended, prepended-none, prepended-append}
use Rattle.sexp_reader.proofs.ShorterLemmas.{IsDatum-same, AreData-same}
use Rattle.sexp_reader.proofs.TokenLemmas.{read-token_end}

-- ---- what must stand there, by what comes out

-- a datum is whole in these levels: what must follow, so that this first datum comes out
abbrev EndsFirst : List Level → Tree → List ℕ → Tree → List ℕ → Type 0
EndsFirst [] d bytes t rest = (d ≡ t) × (bytes ≡ rest) × (depth_of d ≤ 128)
EndsFirst (listed xs ∷ levels) d bytes t rest = (us : Trees) × (next : List ℕ) × AreData us bytes next × EndsFirst levels (list (prepended (xs ++ d ∷ []) us)) next t rest
EndsFirst (quoting ∷ levels) d bytes t rest = EndsFirst levels (list (more quote_symbol (more d none))) bytes t rest

-- the same between data
abbrev GoesFirst : List Level → List ℕ → Tree → List ℕ → Type 0
GoesFirst [] bytes t rest = StandsFirst bytes t rest
GoesFirst (listed xs ∷ levels) bytes t rest = (us : Trees) × (next : List ℕ) × AreData us bytes next × EndsFirst levels (list (prepended xs us)) next t rest
GoesFirst (quoting ∷ levels) bytes t rest = (d : Tree) × (next : List ℕ) × IsDatum d bytes next × EndsFirst levels (list (more quote_symbol (more d none))) next t rest

abbrev Ends : List Level → Tree → List ℕ → Reading → Type 0
Ends levels d bytes nothing = ⊥
Ends levels d bytes (first t rest) = EndsFirst levels d bytes t rest
Ends levels d bytes (fault cause here) = Unit {0}

abbrev pub Goes : List Level → List ℕ → Reading → Type 0
Goes levels bytes nothing = (levels ≡ []) × (skip bytes ≡ [])
Goes levels bytes (first t rest) = GoesFirst levels bytes t rest
Goes levels bytes (fault cause here) = Unit {0}

abbrev TokenGoes : List ℕ → List Level → List ℕ → Reading → Type 0
TokenGoes s levels bytes nothing = ⊥
TokenGoes s levels bytes (first t rest) = (others next : List ℕ) × (d : Tree) × (bytes ≡ others ++ next) × (list_all in_token others ≡ true) × EndsToken next × (datum_of (s ++ others) ≡ Ok d) × EndsFirst levels d next t rest
TokenGoes s levels bytes (fault cause here) = Unit {0}

abbrev QuotedGoes : List ℕ → List Level → List ℕ → Reading → Type 0
QuotedGoes s levels bytes nothing = ⊥
QuotedGoes s levels bytes (first t rest) = (written others next : List ℕ) × (bytes ≡ written ++ 34 ∷ next) × IsQuoted others written × EndsFirst levels (text (s ++ others)) next t rest
QuotedGoes s levels bytes (fault cause here) = Unit {0}

abbrev EscapeGoes : List ℕ → List Level → List ℕ → Reading → Type 0
EscapeGoes s levels bytes nothing = ⊥
EscapeGoes s levels bytes (first t rest) = (e c : ℕ) × (bs : List ℕ) × (bytes ≡ e ∷ bs) × (escaped e ≡ Some c) × QuotedGoes (s ++ c ∷ []) levels bs (first t rest)
EscapeGoes s levels bytes (fault cause here) = Unit {0}

-- the open levels leave room for what is in them
abbrev pub Room : List Level → Type 0
Room [] = Unit {0}
Room (listed xs ∷ levels) = (length levels + 1 + depths_of (trees_of xs) ≤ 128) × Room levels
Room (quoting ∷ levels) = (length levels < 128) × Room levels

room-low : (levels : List Level) → Room levels → length levels ≤ 128
room-low [] room = omega arith
room-low (listed xs ∷ levels) room = omega (arith, room.0)
room-low (quoting ∷ levels) room = omega (arith, room.0)

-- ---- a whole datum

joins_first : (levels : List Level) (d : Tree) (bytes next : List ℕ) (t : Tree) (rest : List ℕ) → IsDatum d bytes next → EndsFirst levels d next t rest → GoesFirst levels bytes t rest
joins_first [] d bytes next t rest is (same, end, low) =
    (subst (λ x. IsDatum x bytes rest) same (subst (λ n. IsDatum d bytes n) end is), subst (λ x. depth_of x ≤ 128) same low)
joins_first (listed xs ∷ levels) d bytes next t rest is (us, after, data_, ends) =
    (more d us, after, (next, is, data_), subst (λ ts. EndsFirst levels (list ts) after t rest) (prepended-append xs d us) ends)
joins_first (quoting ∷ levels) d bytes next t rest is ends = (d, next, is, ends)

ends-listed : (xs : List Tree) (levels : List Level) (d : Tree) (bytes : List ℕ) (r : Reading) → Goes (listed (xs ++ d ∷ []) ∷ levels) bytes r → Ends (listed xs ∷ levels) d bytes r
ends-listed xs levels d bytes nothing (never, is) = absurd (cc)
ends-listed xs levels d bytes (first t rest) goes = goes
ends-listed xs levels d bytes (fault cause here) goes = tt

ends-quoting : (levels : List Level) (d : Tree) (bytes : List ℕ) (r : Reading) → Ends levels (list (more quote_symbol (more d none))) bytes r → Ends (quoting ∷ levels) d bytes r
ends-quoting levels d bytes nothing never = never
ends-quoting levels d bytes (first t rest) ends = ends
ends-quoting levels d bytes (fault cause here) ends = tt

put-ends : (levels : List Level) (d : Tree) (bytes : List ℕ) → ((ls : List Level) → Room ls → Goes ls bytes (read between ls bytes)) → Room levels → length levels + depth_of d ≤ 128 → Ends levels d bytes (put d levels bytes)
put-ends [] d bytes go room low = (refl, refl, omega arith)
put-ends (listed xs ∷ levels) d bytes go room low =
    ends-listed xs levels d bytes (read between (listed (xs ++ d ∷ []) ∷ levels) bytes) (go (listed (xs ++ d ∷ []) ∷ levels) (omega (arith, depths-append xs d, room.0), room.1))
put-ends (quoting ∷ levels) d bytes go room low =
    ends-quoting levels d bytes (put (list (more quote_symbol (more d none))) levels bytes) (put-ends levels (list (more quote_symbol (more d none))) bytes go room.1 (omega arith))

-- ---- blanks

goes_first-same : (levels : List Level) (bytes whole : List ℕ) (t : Tree) (rest : List ℕ) → skip whole ≡ skip bytes → GoesFirst levels bytes t rest → GoesFirst levels whole t rest
goes_first-same [] bytes whole t rest same (is, low) = (IsDatum-same t bytes whole rest same is, low)
goes_first-same (listed xs ∷ levels) bytes whole t rest same (us, next, data_, ends) = (us, next, AreData-same us bytes whole next same data_, ends)
goes_first-same (quoting ∷ levels) bytes whole t rest same (d, next, is, ends) = (d, next, IsDatum-same d bytes whole next same is, ends)

goes-same : (levels : List Level) (bytes whole : List ℕ) (r : Reading) → skip whole ≡ skip bytes → Goes levels bytes r → Goes levels whole r
goes-same levels bytes whole nothing same (none_, is) = (none_, same ∙ is)
goes-same levels bytes whole (first t rest) same goes = goes_first-same levels bytes whole t rest same goes
goes-same levels bytes whole (fault cause here) same goes = tt

-- ---- brackets, quotes, tokens and texts

goes-list : (levels : List Level) (bs : List ℕ) (r : Reading) → Goes (listed [] ∷ levels) bs r → Goes levels (40 ∷ bs) r
goes-list levels bs nothing (never, is) = absurd (cc)
goes-list levels bs (first t rest) (us, next, data_, ends) = joins_first levels (list us) (40 ∷ bs) next t rest (inl (bs, refl, data_)) ends
goes-list levels bs (fault cause here) goes = tt

goes-quote : (levels : List Level) (bs : List ℕ) (r : Reading) → Goes (quoting ∷ levels) bs r → Goes levels (39 ∷ bs) r
goes-quote levels bs nothing (never, is) = absurd (cc)
goes-quote levels bs (first t rest) (d, next, is, ends) = joins_first levels (list (more quote_symbol (more d none))) (39 ∷ bs) next t rest (inr (bs, refl, (refl, is))) ends
goes-quote levels bs (fault cause here) goes = tt

goes-closed : (xs : List Tree) (levels : List Level) (bs : List ℕ) (r : Reading) → Ends levels (list (trees_of xs)) bs r → Goes (listed xs ∷ levels) (41 ∷ bs) r
goes-closed xs levels bs nothing never = absurd never
goes-closed xs levels bs (first t rest) ends = (none, bs, refl, subst (λ us. EndsFirst levels (list us) bs t rest) (sym (prepended-none xs)) ends)
goes-closed xs levels bs (fault cause here) ends = tt

goes-text : (levels : List Level) (bs : List ℕ) (r : Reading) → QuotedGoes [] levels bs r → Goes levels (34 ∷ bs) r
goes-text levels bs nothing never = absurd never
goes-text levels bs (first t rest) (written, others, next, is, quoted_, ends) = joins_first levels (text others) (34 ∷ bs) next t rest (written, ap (λ x. 34 ∷ x) is, quoted_) ends
goes-text levels bs (fault cause here) goes = tt

goes-token : (levels : List Level) (b : ℕ) (bs : List ℕ) (r : Reading) → in_token b ≡ true → b ≢ 39 → skip (b ∷ bs) ≡ b ∷ bs → TokenGoes (b ∷ []) levels bs r → Goes levels (b ∷ bs) r
goes-token levels b bs nothing inside no_quote whole never = absurd never
goes-token levels b bs (first t rest) inside no_quote whole (others, next, d, is, all, end, datum, ends) =
    joins_first levels d (b ∷ bs) next t rest
    (token-datum d b others (b ∷ bs) next datum (and_from (in_token b) (list_all in_token others) inside all) no_quote (whole ∙ ap (λ x. b ∷ x) is) end) ends
goes-token levels b bs (fault cause here) inside no_quote whole goes = tt

-- ---- a token

token-put : (s : List ℕ) (levels : List Level) (bytes : List ℕ) (d : Tree) (r : Reading) → EndsToken bytes → datum_of s ≡ Ok d → Ends levels d bytes r → TokenGoes s levels bytes r
token-put s levels bytes d nothing end is never = absurd never
token-put s levels bytes d (first t rest) end is ends = ([], bytes, d, refl, refl, end, ap datum_of (append-nil s) ∙ is, ends)
token-put s levels bytes d (fault cause here) end is ends = tt

token-read : (s : List ℕ) (levels : List Level) (bytes : List ℕ) (found : Result Tree Cause) → datum_of s ≡ found → EndsToken bytes →
    ((ls : List Level) → Room ls → Goes ls bytes (read between ls bytes)) → Room levels → TokenGoes s levels bytes (after_token found levels (s ++ bytes) bytes (λ ls. read between ls bytes))
token-read s levels bytes (Ok d) is end go room =
    subst (TokenGoes s levels bytes) (sym (taken-add d levels (s ++ bytes) bytes (λ place ls. read between ls bytes) (λ ls. refl)))
    (token-put s levels bytes d (put d levels bytes) end is (put-ends levels d bytes go room (omega (arith, depth-token d s is, room-low levels room))))
token-read s levels bytes (Err cause) is end go room = tt

token-ends : (s : List ℕ) (levels : List Level) (bytes : List ℕ) → EndsToken bytes → ((ls : List Level) → Room ls → Goes ls bytes (read between ls bytes)) → Room levels → TokenGoes s levels bytes (read (token s) levels bytes)
token-ends s levels bytes end go room =
    subst (TokenGoes s levels bytes) (sym (read-token_end s levels bytes end)) (token-read s levels bytes (datum_of s) refl end go room)

token-more : (s : List ℕ) (levels : List Level) (b : ℕ) (bs : List ℕ) (r : Reading) → in_token b ≡ true → TokenGoes (s ++ b ∷ []) levels bs r → TokenGoes s levels (b ∷ bs) r
token-more s levels b bs nothing inside never = never
token-more s levels b bs (first t rest) inside (others, next, d, is, all, end, datum, ends) =
    (b ∷ others, next, d, ap (λ x. b ∷ x) is, and_from (in_token b) (list_all in_token others) inside all, end, ap datum_of (sym (append_assoc s (b ∷ []) others)) ∙ datum, ends)
token-more s levels b bs (fault cause here) inside goes = tt

-- ---- a text

quoted-put : (s : List ℕ) (levels : List Level) (bs : List ℕ) (r : Reading) → Ends levels (text s) bs r → QuotedGoes s levels (34 ∷ bs) r
quoted-put s levels bs nothing never = never
quoted-put s levels bs (first t rest) ends = ([], [], bs, refl, refl, subst (λ x. EndsFirst levels (text x) bs t rest) (sym (append-nil s)) ends)
quoted-put s levels bs (fault cause here) ends = tt

quoted-plain : (s : List ℕ) (levels : List Level) (b : ℕ) (bs : List ℕ) (r : Reading) → b ≢ 34 → b ≢ 92 → QuotedGoes (s ++ b ∷ []) levels bs r → QuotedGoes s levels (b ∷ bs) r
quoted-plain s levels b bs nothing no_quote no_slash never = never
quoted-plain s levels b bs (first t rest) no_quote no_slash (written, others, next, is, quoted_, ends) =
    (b ∷ written, b ∷ others, next, ap (λ x. b ∷ x) is, (b ∷ [], written, refl, inl (refl, no_quote, no_slash), quoted_), subst (λ x. EndsFirst levels (text x) next t rest) (append_assoc s (b ∷ []) others) ends)
quoted-plain s levels b bs (fault cause here) no_quote no_slash goes = tt

quoted-escape : (s : List ℕ) (levels : List Level) (bs : List ℕ) (r : Reading) → EscapeGoes s levels bs r → QuotedGoes s levels (92 ∷ bs) r
quoted-escape s levels bs nothing never = never
quoted-escape s levels bs (first t rest) (e, c, after, is, stands, (written, others, next, same, quoted_, ends)) = (
  92 ∷ e ∷ written,
  c ∷ others,
  next,
  ap (λ x. 92 ∷ x) (is ∙ ap (λ x. e ∷ x) same),
  (92 ∷ e ∷ [], written, refl, inr (e, refl, stands), quoted_),
  subst (λ x. EndsFirst levels (text x) next t rest) (append_assoc s (c ∷ []) others) ends,
)
quoted-escape s levels bs (fault cause here) goes = tt

escape-goes : (s : List ℕ) (levels : List Level) (b c : ℕ) (bs : List ℕ) (r : Reading) → escaped b ≡ Some c → QuotedGoes (s ++ c ∷ []) levels bs r → EscapeGoes s levels (b ∷ bs) r
escape-goes s levels b c bs nothing is never = never
escape-goes s levels b c bs (first t rest) is goes = (b, c, bs, refl, is, goes)
escape-goes s levels b c bs (fault cause here) is goes = tt

-- ---- at each place

record Sound (bytes : List ℕ) : Type 0 where
  data_ : (levels : List Level) → Room levels → Goes levels bytes (read between levels bytes)
  comment_ : (levels : List Level) (whole : List ℕ) → Room levels → skip whole ≡ skip_from true bytes → Goes levels whole (read comment levels bytes)
  token_ : (s : List ℕ) (levels : List Level) → Room levels → TokenGoes s levels bytes (read (token s) levels bytes)
  quoted_ : (s : List ℕ) (levels : List Level) → Room levels → QuotedGoes s levels bytes (read (quoted s) levels bytes)
  escape_ : (s : List ℕ) (levels : List Level) → Room levels → EscapeGoes s levels bytes (read (escape s) levels bytes)

begin-goes : (levels : List Level) (b : ℕ) (bs : List ℕ) (step : Step) → begin levels b ≡ step → Goes levels (b ∷ bs) (taken step (b ∷ bs) bs (λ place ls. read place ls bs)) → Goes levels (b ∷ bs) (read between levels (b ∷ bs))
unfolding read
begin-goes levels b bs step is goes = subst (Goes levels (b ∷ bs)) (sym (ap (λ s. taken s (b ∷ bs) bs (λ place ls. read place ls bs)) is)) goes

data-end : (levels : List Level) → Goes levels [] (read between levels [])
unfolding read
data-end [] = (refl, refl)
data-end (level ∷ levels) = tt

comment-end : (levels : List Level) (whole : List ℕ) → skip whole ≡ [] → Goes levels whole (read comment levels [])
unfolding read
comment-end [] whole is = (refl, is)
comment-end (level ∷ levels) whole is = tt

quoted-end : (s : List ℕ) (levels : List Level) → QuotedGoes s levels [] (read (quoted s) levels [])
unfolding read
quoted-end s levels = tt

escape-end : (s : List ℕ) (levels : List Level) → EscapeGoes s levels [] (read (escape s) levels [])
unfolding read
escape-end s levels = tt

sound-end : Sound []
sound-end = record {
  data_ = λ levels room. data-end levels;
  comment_ = λ levels whole room is. comment-end levels whole is;
  token_ = λ s levels room. token-ends s levels [] tt (λ ls room. data-end ls) room;
  quoted_ = λ s levels room. quoted-end s levels;
  escape_ = λ s levels room. escape-end s levels;
}

data-text : (levels : List Level) (bs : List ℕ) → Sound bs → Room levels → Goes levels (34 ∷ bs) (read between levels (34 ∷ bs))
unfolding read
data-text levels bs sound room = goes-text levels bs (read (quoted []) levels bs) (sound.quoted_ [] levels room)

data-comment : (levels : List Level) (bs : List ℕ) → Sound bs → Room levels → Goes levels (59 ∷ bs) (read between levels (59 ∷ bs))
unfolding read
data-comment levels bs sound room = sound.comment_ levels (59 ∷ bs) room refl

data-list : (levels : List Level) (bs : List ℕ) → Sound bs → Room levels → Goes levels (40 ∷ bs) (read between levels (40 ∷ bs))
data-list levels bs sound room = elim (cases_Bool (nat_lt (length levels) 128)) [
  | inl low ↦
      (let fits : length levels < 128 = ltb-true (length levels) 128 low in
      begin-goes levels 40 bs (on between (listed [] ∷ levels)) (rw low refl) (goes-list levels bs (read between (listed [] ∷ levels) bs) (sound.data_ (listed [] ∷ levels) (omega arith, room))))
  | inr full ↦ begin-goes levels 40 bs (stop Deep) (rw full refl) tt
]

data-quote : (levels : List Level) (bs : List ℕ) → Sound bs → Room levels → Goes levels (39 ∷ bs) (read between levels (39 ∷ bs))
data-quote levels bs sound room = elim (cases_Bool (nat_lt (length levels) 128)) [
  | inl low ↦
      begin-goes levels 39 bs (on between (quoting ∷ levels)) (rw low refl) (goes-quote levels bs (read between (quoting ∷ levels) bs) (sound.data_ (quoting ∷ levels) (ltb-true (length levels) 128 low, room)))
  | inr full ↦ begin-goes levels 39 bs (stop Deep) (rw full refl) tt
]

data-close : (levels : List Level) (bs : List ℕ) → Sound bs → Room levels → Goes levels (41 ∷ bs) (read between levels (41 ∷ bs))
unfolding read
data-close [] bs sound room = tt
data-close (listed xs ∷ levels) bs sound room =
    subst (Goes (listed xs ∷ levels) (41 ∷ bs)) (sym (taken-add (list (trees_of xs)) levels (41 ∷ bs) bs (λ place ls. read place ls bs) (λ ls. refl)))
    (goes-closed xs levels bs (put (list (trees_of xs)) levels bs) (put-ends levels (list (trees_of xs)) bs sound.data_ room.1 (omega (arith, room.0))))
data-close (quoting ∷ levels) bs sound room = tt

data-step : (b : ℕ) (bs : List ℕ) → Sound bs → (levels : List Level) → Room levels → Goes levels (b ∷ bs) (read between levels (b ∷ bs))
data-step b bs sound levels room = elim (cases_Bool (is_blank b)) [
  | inl blank ↦ begin-goes levels b bs (on between levels) (rw blank refl) (goes-same levels bs (b ∷ bs) (read between levels bs) (rw blank refl) (sound.data_ levels room))
  | inr other ↦ elim (cases_Bool (b == 59)) [
    | inl e ↦ subst (λ x. Goes levels (x ∷ bs) (read between levels (x ∷ bs))) (sym (eqb-true b 59 e)) (data-comment levels bs sound room)
    | inr n59 ↦ elim (cases_Bool (b == 34)) [
      | inl e ↦ subst (λ x. Goes levels (x ∷ bs) (read between levels (x ∷ bs))) (sym (eqb-true b 34 e)) (data-text levels bs sound room)
      | inr n34 ↦ elim (cases_Bool (b == 40)) [
        | inl e ↦ subst (λ x. Goes levels (x ∷ bs) (read between levels (x ∷ bs))) (sym (eqb-true b 40 e)) (data-list levels bs sound room)
        | inr n40 ↦ elim (cases_Bool (b == 41)) [
          | inl e ↦ subst (λ x. Goes levels (x ∷ bs) (read between levels (x ∷ bs))) (sym (eqb-true b 41 e)) (data-close levels bs sound room)
          | inr n41 ↦ elim (cases_Bool (b == 39)) [
            | inl e ↦ subst (λ x. Goes levels (x ∷ bs) (read between levels (x ∷ bs))) (sym (eqb-true b 39 e)) (data-quote levels bs sound room)
            | inr n39 ↦ elim (cases_Bool (is_refused b)) [
              | inl refused ↦ begin-goes levels b bs (stop Hash) (rw (other, n59, n34, n40, n41, n39, refused) refl) tt
              | inr fine ↦
                  (let inside : in_token b ≡ true = not_from_false (ends_token b) (or_from _ _ (or_from _ _ (or_from _ _ (or_from _ _ (or_from _ _ other n40) n41) n34) n59) fine) in
                  begin-goes levels b bs (on (token (b ∷ [])) levels) (rw (other, n59, n34, n40, n41, n39, fine) refl)
                  (goes-token levels b bs (read (token (b ∷ [])) levels bs) inside (eqb-false b 39 n39) (rw (other, n59) refl) (sound.token_ (b ∷ []) levels room)))
            ]
          ]
        ]
      ]
    ]
  ]
]

comment-step : (b : ℕ) (bs : List ℕ) → Sound bs → (levels : List Level) (whole : List ℕ) → Room levels → skip whole ≡ skip_from true (b ∷ bs) → Goes levels whole (read comment levels (b ∷ bs))
unfolding read
comment-step b bs sound levels whole room is = elim (cases_Bool (b == 10)) [
  | inl ends ↦
      (let same : skip_from true (b ∷ bs) ≡ skip bs = rw ends refl in
      rw ends (goes-same levels bs whole (read between levels bs) (is ∙ same) (sound.data_ levels room)))
  | inr other ↦
      (let same : skip_from true (b ∷ bs) ≡ skip_from true bs = rw other refl in
      rw other (sound.comment_ levels whole room (is ∙ same)))
]

token-step : (b : ℕ) (bs : List ℕ) → Sound bs → (s : List ℕ) (levels : List Level) → Room levels → TokenGoes s levels (b ∷ bs) (read (token s) levels (b ∷ bs))
unfolding read
token-step b bs sound s levels room = elim (cases_Bool (ends_token b)) [
  | inl ends ↦ token-ends s levels (b ∷ bs) ends (λ ls room. data-step b bs sound ls room) room
  | inr other ↦
      (let step : read (token s) levels (b ∷ bs) ≡ read (token (s ++ b ∷ [])) levels bs = rw other refl in
      subst (TokenGoes s levels (b ∷ bs)) (sym step) (token-more s levels b bs (read (token (s ++ b ∷ [])) levels bs) (not_from_false (ends_token b) other) (sound.token_ (s ++ b ∷ []) levels room)))
]

quoted-close : (s : List ℕ) (levels : List Level) (bs : List ℕ) → Sound bs → Room levels → QuotedGoes s levels (34 ∷ bs) (read (quoted s) levels (34 ∷ bs))
unfolding read
quoted-close s levels bs sound room =
    subst (QuotedGoes s levels (34 ∷ bs)) (sym (taken-add (text s) levels (34 ∷ bs) bs (λ place ls. read place ls bs) (λ ls. refl)))
    (quoted-put s levels bs (put (text s) levels bs) (put-ends levels (text s) bs sound.data_ room (omega (arith, room-low levels room))))

quoted-slash : (s : List ℕ) (levels : List Level) (bs : List ℕ) → Sound bs → Room levels → QuotedGoes s levels (92 ∷ bs) (read (quoted s) levels (92 ∷ bs))
unfolding read
quoted-slash s levels bs sound room = quoted-escape s levels bs (read (escape s) levels bs) (sound.escape_ s levels room)

quoted-step : (b : ℕ) (bs : List ℕ) → Sound bs → (s : List ℕ) (levels : List Level) → Room levels → QuotedGoes s levels (b ∷ bs) (read (quoted s) levels (b ∷ bs))
unfolding read
quoted-step b bs sound s levels room = elim (cases_Bool (b == 34)) [
  | inl e ↦ subst (λ x. QuotedGoes s levels (x ∷ bs) (read (quoted s) levels (x ∷ bs))) (sym (eqb-true b 34 e)) (quoted-close s levels bs sound room)
  | inr n34 ↦ elim (cases_Bool (b == 92)) [
    | inl e ↦ subst (λ x. QuotedGoes s levels (x ∷ bs) (read (quoted s) levels (x ∷ bs))) (sym (eqb-true b 92 e)) (quoted-slash s levels bs sound room)
    | inr n92 ↦
        (let step : read (quoted s) levels (b ∷ bs) ≡ read (quoted (s ++ b ∷ [])) levels bs = rw (n34, n92) refl in
        subst (QuotedGoes s levels (b ∷ bs)) (sym step) (quoted-plain s levels b bs (read (quoted (s ++ b ∷ [])) levels bs) (eqb-false b 34 n34) (eqb-false b 92 n92) (sound.quoted_ (s ++ b ∷ []) levels room)))
  ]
]

escape-read : (b : ℕ) (bs : List ℕ) → Sound bs → (s : List ℕ) (levels : List Level) → Room levels → (found : Option ℕ) → escaped b ≡ found → EscapeGoes s levels (b ∷ bs) (after_escape found (b ∷ bs) (λ c. read (quoted (s ++ c)) levels bs))
escape-read b bs sound s levels room (Some c) is = escape-goes s levels b c bs (read (quoted (s ++ c ∷ [])) levels bs) is (sound.quoted_ (s ++ c ∷ []) levels room)
escape-read b bs sound s levels room None is = tt

escape-step : (b : ℕ) (bs : List ℕ) → Sound bs → (s : List ℕ) (levels : List Level) → Room levels → EscapeGoes s levels (b ∷ bs) (read (escape s) levels (b ∷ bs))
unfolding read
escape-step b bs sound s levels room = escape-read b bs sound s levels room (escaped b) refl

all-sound : (bytes : List ℕ) → Sound bytes
all-sound [] = sound-end
all-sound (b ∷ bs) =
    let sound = all-sound bs in
    record {
      data_ = data-step b bs sound;
      comment_ = comment-step b bs sound;
      token_ = token-step b bs sound;
      quoted_ = quoted-step b bs sound;
      escape_ = escape-step b bs sound;
    }

-- what a reading finds stands first, and where it finds nothing only blanks and comments stand
pub read-goes : (bytes : List ℕ) (r : Reading) → read between [] bytes ≡ r → Goes [] bytes r
read-goes bytes r is = subst (Goes [] bytes) is ((all-sound bytes).data_ [] tt)
