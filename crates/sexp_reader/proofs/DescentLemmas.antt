-- Each return of the descent.
use Rattle.std.proofs.Common.{◌≡◌, ◌≢◌, ◌<◌, ◌≤◌, ◌+◌, ◌^◌, ℕ, true, false, List, [], ◌∷◌, ◌++◌, length, drop, slice_index, max, map, Ok, Err, ap, sym, ◌∙◌, refl, inl, inr, arith, ne_eqb, le-ltb, nat_lt, subst}
use Rattle.std.specs.List.{list_all}
use Rattle.std.specs.Str.Parse.{digits_value}
use Rattle.std.proofs.lemmas.Bool.{cases_Bool, ltb-true, false≢true, and_parts, or_from}
use Rattle.sexp_reader.specs.declared.datum.Datum.{Datum}
use Rattle.sexp_reader.specs.declared.fail.Cause.{Cause}
use Rattle.sexp_reader.specs.declared.fail.Cause.TheVariants.{Open, Close, Number, Hash, Deep}
use Rattle.sexp_reader.specs.Descent.{Begins, Stops, IsLone}
use Rattle.sexp_reader.specs.Grammar.{is_blank, is_refused, ends_token, in_token, all_digits, EndsToken, skip, IsQuoted, IsDatum, AreData, quote_symbol}
use Rattle.sexp_reader.specs.Token.{Cuts}
use Rattle.sexp_reader.specs.Reading.{Level, listed, quoting, between, stop, quoted, fault, read, taken, begin, open_level, after_token, datum_of, is_dot}
use Rattle.sexp_reader.specs.Tree.{Tree, Trees, symbol, text, number, list, none, more, trees_of, tree, depth_of, depths_of}
use Rattle.sexp_reader.proofs.BlankLemmas.{read-skip_from}
use Rattle.sexp_reader.proofs.CompleteLemmas.{read-opened, read-datum}
use Rattle.sexp_reader.proofs.PutLemmas.{prepended, prepended-none, prepended-append}
use Rattle.sexp_reader.proofs.ShorterLemmas.{shorter-datum, length-skip_from}
use Rattle.sexp_reader.proofs.TokenLemmas.{read-token, read-token_end, begin-token, not_true}

-- where a datum begins
pub begins-skip : (bytes : List ℕ) → Begins bytes → skip bytes ≡ bytes
begins-skip [] never = absurd never
begins-skip (b ∷ bs) (no_blank, no_comment, no_close) = rw (no_blank, ne_eqb b 59 no_comment) refl

pub begins-cell : (bytes : List ℕ) (b : ℕ) → Begins bytes → slice_index bytes 0 ≡ b → bytes ≡ b ∷ drop 1 bytes
begins-cell [] b never is = absurd never
begins-cell (c ∷ bs) b begins is = ap (λ x. x ∷ bs) is

-- a text
pub datum-text : (s bytes after written rest : List ℕ) → Begins bytes → bytes ≡ 34 ∷ after → after ≡ written ++ 34 ∷ rest → IsQuoted s written → IsDatum (text s) bytes rest
datum-text s bytes after written rest begins is whole quoted_ = (written, begins-skip bytes begins ∙ is ∙ ap (λ r. 34 ∷ r) whole, quoted_)

pub stops-text : (bytes after : List ℕ) (levels : List Level) (cause : Cause) (left : ℕ) → bytes ≡ 34 ∷ after →
    ((here : List ℕ) × (read (quoted []) levels after ≡ fault cause here) × (length here ≡ left) × (left ≤ length after)) → Stops levels bytes cause left
unfolding read
stops-text bytes after levels cause left is (here, stops, count, low) = (here, ap (read between levels) is ∙ stops, count, omega (arith, ap length is))

-- a level too deep
pub stops-deep : (bytes after : List ℕ) (levels : List Level) (b : ℕ) (level : Level) → bytes ≡ b ∷ after → begin levels b ≡ open_level level levels → length levels ≡ 128 → Stops levels bytes Deep (length bytes)
unfolding read
stops-deep bytes after levels b level is opens full =
    let deep : open_level level levels ≡ stop Deep = rw (le-ltb (length levels) 128 (omega arith)) refl in
    (bytes, ap (read between levels) is ∙ ap (λ step. taken step (b ∷ after) after (λ place ls. read place ls after)) (opens ∙ deep) ∙ ap (fault Deep) (sym is), refl, omega arith)

-- a list
pub datum-list : (ts : Trees) (bytes after rest : List ℕ) → Begins bytes → bytes ≡ 40 ∷ after → AreData ts after rest → IsDatum (list ts) bytes rest
datum-list ts bytes after rest begins is data_ = inl (after, begins-skip bytes begins ∙ is, data_)

pub stops-inside : (bytes after : List ℕ) (levels : List Level) (b : ℕ) (level : Level) (cause : Cause) (left : ℕ) → bytes ≡ b ∷ after → begin levels b ≡ open_level level levels → length levels < 128 →
    Stops (level ∷ levels) after cause left → Stops levels bytes cause left
stops-inside bytes after levels b level cause left is opens room (here, stops, count, low) =
    (here, ap (read between levels) is ∙ read-opened level levels b after opens room ∙ stops, count, omega (arith, ap length is))

-- a quote
pub datum-quote : (t : Tree) (bytes after rest : List ℕ) → Begins bytes → bytes ≡ 39 ∷ after → IsDatum t after rest → IsDatum (list (more quote_symbol (more t none))) bytes rest
datum-quote t bytes after rest begins is one = inr (after, begins-skip bytes begins ∙ is, (refl, one))

pub stops-at_end : (bytes : List ℕ) (level : Level) (levels : List Level) → skip bytes ≡ [] → Stops (level ∷ levels) bytes Open 0
unfolding read
stops-at_end bytes level levels is = ([], read-skip_from (level ∷ levels) false bytes ∙ ap (read between (level ∷ levels)) is, refl, omega arith)

pub stops-skipped : (bytes : List ℕ) (levels : List Level) (cause : Cause) (left : ℕ) → Stops levels (skip bytes) cause left → Stops levels bytes cause left
stops-skipped bytes levels cause left (here, stops, count, low) = (here, read-skip_from levels false bytes ∙ stops, count, omega (arith, length-skip_from false bytes))

pub stops-close : (bytes after : List ℕ) (levels : List Level) → bytes ≡ 41 ∷ after → IsLone levels → Stops levels bytes Close (length bytes)
unfolding read
stops-close bytes after [] is lone = (bytes, ap (read between []) is ∙ ap (fault Close) (sym is), refl, omega arith)
stops-close bytes after (listed ts ∷ levels) is never = absurd never
stops-close bytes after (quoting ∷ levels) is lone = (bytes, ap (read between (quoting ∷ levels)) is ∙ ap (fault Close) (sym is), refl, omega arith)

-- a refused byte
pub stops-refused : (bytes : List ℕ) (levels : List Level) (b : ℕ) → Begins bytes → slice_index bytes 0 ≡ b → is_refused b ≡ true → b ≢ 34 → b ≢ 40 → b ≢ 39 → Stops levels bytes Hash (length bytes)
unfolding read
stops-refused [] levels b never is refused n34 n40 n39 = absurd never
stops-refused (c ∷ bs) levels b (no_blank, no_comment, no_close) is refused n34 n40 n39 =
    let same : begin levels c ≡ stop Hash =
    rw (no_blank, ne_eqb c 59 no_comment, ne_eqb c 34 (λ e. n34 (sym is ∙ e)), ne_eqb c 40 (λ e. n40 (sym is ∙ e)), ne_eqb c 41 no_close, ne_eqb c 39 (λ e. n39 (sym is ∙ e)), ap is_refused is ∙ refused) refl in
    (c ∷ bs, ap (λ step. taken step (c ∷ bs) bs (λ place ls. read place ls bs)) same, refl, omega arith)

-- the first byte of a token
pub token-begins : (bytes : List ℕ) (b : ℕ) → Begins bytes → slice_index bytes 0 ≡ b → is_refused b ≡ false → b ≢ 34 → b ≢ 40 → ends_token b ≡ false
token-begins [] b never is fine n34 n40 = absurd never
token-begins (c ∷ bs) b (no_blank, no_comment, no_close) is fine n34 n40 =
    or_from _ _ (or_from _ _ (or_from _ _ (or_from _ _ (or_from (is_blank b) _ (ap is_blank (sym is) ∙ no_blank) (ne_eqb b 40 n40)) (ne_eqb b 41 (λ e. no_close (is ∙ e)))) (ne_eqb b 34 n34)) (ne_eqb b 59 (λ e. no_comment (is ∙ e)))) fine

-- a token that was cut off isn't empty
pub Cuts-some : (bytes token rest : List ℕ) → Cuts bytes token rest → Begins bytes → ends_token (slice_index bytes 0) ≡ false → 0 < length token
Cuts-some bytes (b ∷ bs) rest cut begins inside = omega arith
Cuts-some [] [] rest cut never inside = absurd never
Cuts-some (c ∷ cs) [] rest cut begins inside =
    let ends : ends_token c ≡ true = subst EndsToken (sym cut.whole) cut.end in
    absurd (false≢true (sym inside ∙ ends))

pub Cuts-first : (bytes b : List ℕ) (token rest : List ℕ) → Cuts bytes token rest → 0 < length token → slice_index token 0 ≡ slice_index bytes 0
Cuts-first bytes b [] rest cut some = absurd (omega arith)
Cuts-first bytes b (c ∷ cs) rest cut some = ap (λ x. slice_index x 0) (sym cut.whole)

-- a token's datum is in the grammar
pub token-datum : (t : Tree) (b : ℕ) (bs bytes rest : List ℕ) → datum_of (b ∷ bs) ≡ Ok t → list_all in_token (b ∷ bs) ≡ true → b ≢ 39 → skip bytes ≡ (b ∷ bs) ++ rest → EndsToken rest → IsDatum t bytes rest
token-datum t b bs bytes rest is inside no_quote whole end =
    elim (cases_Bool (all_digits (b ∷ bs))) [
      | inl digits ↦ elim (cases_Bool (nat_lt (digits_value 10 (b ∷ bs)) (2 ^ 64))) [
        | inl fits ↦
            (let value : datum_of (b ∷ bs) ≡ Ok (number (digits_value 10 (b ∷ bs))) = rw (digits, fits) refl in
            let same : number (digits_value 10 (b ∷ bs)) ≡ t = cc in
            subst (λ x. IsDatum x bytes rest) same (b ∷ bs, whole, (digits, refl, ltb-true (digits_value 10 (b ∷ bs)) (2 ^ 64) fits), end))
        | inr large ↦
            (let value : datum_of (b ∷ bs) ≡ Err Number = rw (digits, large) refl in absurd (cc))
      ]
      | inr other ↦ elim (cases_Bool (is_dot (b ∷ bs))) [
        | inl dot ↦ (let value : datum_of (b ∷ bs) ≡ Err Hash = rw (other, dot) refl in absurd (cc))
        | inr no_dot ↦
            (let value : datum_of (b ∷ bs) ≡ Ok (symbol (b ∷ bs)) = rw (other, no_dot) refl in
            let same : symbol (b ∷ bs) ≡ t = cc in
            subst (λ x. IsDatum x bytes rest) same (whole, (inside, no_quote, other, λ e. false≢true (sym no_dot ∙ ap is_dot e)), end))
      ]
    ]

pub datum-token : (t : Tree) (bytes token rest : List ℕ) → Begins bytes → Cuts bytes token rest → 0 < length token → slice_index bytes 0 ≢ 39 → datum_of token ≡ Ok t → IsDatum t bytes rest
datum-token t bytes [] rest begins cut some no_quote is = absurd (omega arith)
datum-token t bytes (b ∷ bs) rest begins cut some no_quote is =
    token-datum t b bs bytes rest is cut.tokens (λ e. no_quote (ap (λ x. slice_index x 0) cut.whole ∙ e)) (begins-skip bytes begins ∙ cut.whole) cut.end

-- a token has no levels
pub depth-token : (t : Tree) (bytes : List ℕ) → datum_of bytes ≡ Ok t → depth_of t ≡ 0
depth-token t bytes is =
    elim (cases_Bool (all_digits bytes)) [
      | inl digits ↦ elim (cases_Bool (nat_lt (digits_value 10 bytes) (2 ^ 64))) [
        | inl fits ↦
            (let value : datum_of bytes ≡ Ok (number (digits_value 10 bytes)) = rw (digits, fits) refl in
            let same : number (digits_value 10 bytes) ≡ t = cc in ap depth_of (sym same))
        | inr large ↦
            (let value : datum_of bytes ≡ Err Number = rw (digits, large) refl in absurd (cc))
      ]
      | inr other ↦ elim (cases_Bool (is_dot bytes)) [
        | inl dot ↦ (let value : datum_of bytes ≡ Err Hash = rw (other, dot) refl in absurd (cc))
        | inr no_dot ↦
            (let value : datum_of bytes ≡ Ok (symbol bytes) = rw (other, no_dot) refl in
            let same : symbol bytes ≡ t = cc in ap depth_of (sym same))
      ]
    ]

pub stops-token : (bytes token rest : List ℕ) (levels : List Level) (cause : Cause) → Cuts bytes token rest → 0 < length token → slice_index bytes 0 ≢ 39 → datum_of token ≡ Err cause → Stops levels bytes cause (length bytes)
unfolding read
stops-token bytes [] rest levels cause cut some no_quote is = absurd (omega arith)
stops-token bytes (b ∷ bs) rest levels cause cut some no_quote is =
    let parts = and_parts (in_token b) (list_all in_token bs) cut.tokens in (
      bytes,
      ap (read between levels) cut.whole
          ∙ ap (λ step. taken step ((b ∷ bs) ++ rest) (bs ++ rest) (λ place ls. read place ls (bs ++ rest))) (begin-token levels b (not_true (ends_token b) parts.0) (ne_eqb b 39 (λ e. no_quote (ap (λ x. slice_index x 0) cut.whole ∙ e))))
          ∙ read-token (b ∷ []) bs levels rest parts.1
          ∙ read-token_end (b ∷ bs) levels rest cut.end
          ∙ ap (λ r. after_token r levels ((b ∷ bs) ++ rest) rest (λ ls. read between ls rest)) is
          ∙ ap (fault cause) (sym cut.whole),
      refl,
      omega arith,
    )

-- data one after another
pub depths-append : (xs : List Tree) (t : Tree) → depths_of (trees_of (xs ++ t ∷ [])) ≡ max (depths_of (trees_of xs)) (depth_of t)
depths-append [] t = omega arith
depths-append (x ∷ xs) t = omega (arith, depths-append xs t)

pub map-tree-append : (ds : List Datum) (d : Datum) → map tree (ds ++ d ∷ []) ≡ map tree ds ++ tree d ∷ []
map-tree-append [] d = refl
map-tree-append (x ∷ ds) d = ap (λ r. tree x ∷ r) (map-tree-append ds d)

-- the data so far, in a list that is open
pub record Listing (level : ℕ) (bytes : List ℕ) (xs : List Tree) (rest : List ℕ) : Type 0 where
  pub within : length rest ≤ length bytes
  pub deep : level + depths_of (trees_of xs) ≤ 128
  pub front : (ts : Trees) (end : List ℕ) → AreData ts rest end → AreData (prepended xs ts) bytes end
  pub reads : (levels : List Level) → length levels + 1 ≡ level → read between (listed [] ∷ levels) bytes ≡ read between (listed xs ∷ levels) rest

pub Listing-start : (level : ℕ) (bytes : List ℕ) → level ≤ 128 → Listing level bytes [] bytes
Listing-start level bytes low = record { within = omega arith; deep = omega arith; front = λ ts end data_. data_; reads = λ levels count. refl }

pub Listing-more : (level : ℕ) (bytes : List ℕ) (xs : List Tree) (rest next : List ℕ) (t : Tree) → Listing level bytes xs rest → IsDatum t rest next → level + depth_of t ≤ 128 → Listing level bytes (xs ++ t ∷ []) next
Listing-more level bytes xs rest next t l one low = record {
  within = omega (arith, l.within, shorter-datum t rest next one);
  deep = omega (arith, l.deep, depths-append xs t);
  front = λ ts end data_. subst (λ us. AreData us bytes end) (sym (prepended-append xs t ts)) (l.front (more t ts) end (next, one, data_));
  reads = λ levels count. l.reads levels count ∙ read-datum t rest next (listed xs ∷ levels) one (omega arith);
}

pub Listing-closed : (level : ℕ) (bytes : List ℕ) (xs : List Tree) (rest after : List ℕ) → Listing level bytes xs rest → skip rest ≡ 41 ∷ after → AreData (trees_of xs) bytes after
Listing-closed level bytes xs rest after l is = subst (λ us. AreData us bytes after) (prepended-none xs) (l.front none after is)

pub Listing-stops : (level : ℕ) (bytes : List ℕ) (xs : List Tree) (rest : List ℕ) (levels : List Level) (cause : Cause) (left : ℕ) → Listing level bytes xs rest → length levels + 1 ≡ level →
    Stops (listed xs ∷ levels) rest cause left → Stops (listed [] ∷ levels) bytes cause left
Listing-stops level bytes xs rest levels cause left l count (here, stops, many, low) = (here, l.reads levels count ∙ stops, many, omega (arith, l.within))
