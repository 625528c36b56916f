-- What is in the grammar is read so.
use Rattle.std.proofs.Common.{◌≡◌, ◌<◌, ◌≤◌, ◌+◌, ◌^◌, ℕ, true, false, List, [], ◌∷◌, ◌++◌, length, Ok, ap, sym, ◌∙◌, refl, inl, inr, ◌==◌, arith, ne_eqb, lt-ltb, leb}
use Rattle.std.specs.List.{list_all}
use Rattle.std.specs.Char.{is_ascii_digit}
use Rattle.std.proofs.lemmas.Bool.{and_parts, and_from, or_from, leb-true, not_from_false}
use Rattle.sexp_reader.specs.Grammar.{ends_token, in_token, all_digits, EndsToken, skip, IsSymbol, IsNumber, IsQuoted, IsDatum, AreData, IsAfterQuote}
use Rattle.sexp_reader.specs.Reading.{Level, listed, quoting, between, on, read, taken, begin, open_level, after_token, datum_of}
use Rattle.sexp_reader.specs.Tree.{Tree, Trees, symbol, text, number, list, none, more, trees_of, depth_of, depths_of}
use Rattle.sexp_reader.proofs.BlankLemmas.{read-skip_from}
use Rattle.sexp_reader.proofs.PutLemmas.{put, taken-add, prepended, prepended-none, prepended-append}
use Rattle.sexp_reader.proofs.TextLemmas.{read-quoted}
use Rattle.sexp_reader.proofs.TokenLemmas.{read-token, read-token_end, begin-token, not_true}

-- a token is read as its datum
pub read-whole_token : (t : Tree) (b : ℕ) (bs : List ℕ) (levels : List Level) (rest : List ℕ) → list_all in_token (b ∷ bs) ≡ true → (b == 39) ≡ false →
    datum_of (b ∷ bs) ≡ Ok t → EndsToken rest → read between levels ((b ∷ bs) ++ rest) ≡ put t levels rest
unfolding read
read-whole_token t b bs levels rest all no_quote is end =
    let parts = and_parts (in_token b) (list_all in_token bs) all in
    ap (λ step. taken step ((b ∷ bs) ++ rest) (bs ++ rest) (λ place ls. read place ls (bs ++ rest))) (begin-token levels b (not_true (ends_token b) parts.0) no_quote)
    ∙ read-token (b ∷ []) bs levels rest parts.1
    ∙ read-token_end (b ∷ bs) levels rest end
    ∙ ap (λ r. after_token r levels ((b ∷ bs) ++ rest) rest (λ ls. read between ls rest)) is
    ∙ taken-add t levels ((b ∷ bs) ++ rest) rest (λ place ls. read between ls rest) (λ ls. refl)

pub datum_of-symbol : (b : ℕ) (bs : List ℕ) → IsSymbol (b ∷ bs) → datum_of (b ∷ bs) ≡ Ok (symbol (b ∷ bs))
datum_of-symbol b [] (inside, no_quote, no_number, no_dot) = rw (no_number, ne_eqb b 46 (λ e. no_dot (ap (λ x. x ∷ []) e))) refl
datum_of-symbol b (c ∷ bs) (inside, no_quote, no_number, no_dot) = rw no_number refl

pub datum_of-number : (n b : ℕ) (bs : List ℕ) → IsNumber n (b ∷ bs) → datum_of (b ∷ bs) ≡ Ok (number n)
datum_of-number n b bs (digits, is, fits) = rw (digits, is, lt-ltb n (2 ^ 64) fits) refl

-- an open level
pub read-opened : (level : Level) (levels : List Level) (b : ℕ) (bs : List ℕ) → begin levels b ≡ open_level level levels → length levels < 128 →
    read between levels (b ∷ bs) ≡ read between (level ∷ levels) bs
unfolding read
read-opened level levels b bs is room =
    let opens : open_level level levels ≡ on between (level ∷ levels) = rw (lt-ltb (length levels) 128 room) refl in
    ap (λ step. taken step (b ∷ bs) bs (λ place ls. read place ls bs)) (is ∙ opens)

pub digit-in_token : (b : ℕ) → is_ascii_digit b ≡ true → in_token b ≡ true
digit-in_token b digit =
    let low : 48 ≤ b = leb-true 48 b (and_parts (leb 48 b) (leb b 57) digit).0 in
    let high : b ≤ 57 = leb-true b 57 (and_parts (leb 48 b) (leb b 57) digit).1 in
    not_from_false (ends_token b) (or_from _ _ (or_from _ _ (or_from _ _ (or_from _ _ (or_from _ _ (or_from _ _ (or_from _ _ (or_from _ _ (or_from _ _
    (ne_eqb b 32 (λ e. omega arith)) (ne_eqb b 9 (λ e. omega arith))) (ne_eqb b 10 (λ e. omega arith))) (ne_eqb b 12 (λ e. omega arith))) (ne_eqb b 13 (λ e. omega arith)))
    (ne_eqb b 40 (λ e. omega arith))) (ne_eqb b 41 (λ e. omega arith))) (ne_eqb b 34 (λ e. omega arith))) (ne_eqb b 59 (λ e. omega arith)))
    (or_from _ _ (or_from _ _ (or_from _ _ (or_from _ _ (or_from _ _ (or_from _ _ (or_from _ _
    (ne_eqb b 35 (λ e. omega arith)) (ne_eqb b 96 (λ e. omega arith))) (ne_eqb b 44 (λ e. omega arith))) (ne_eqb b 91 (λ e. omega arith))) (ne_eqb b 93 (λ e. omega arith)))
    (ne_eqb b 123 (λ e. omega arith))) (ne_eqb b 125 (λ e. omega arith))) (ne_eqb b 124 (λ e. omega arith))))

pub digits-in_token : (bs : List ℕ) → all_digits bs ≡ true → list_all in_token bs ≡ true
digits-in_token [] all = refl
digits-in_token (b ∷ bs) all =
    let parts = and_parts (is_ascii_digit b) (all_digits bs) all in
    and_from (in_token b) (list_all in_token bs) (digit-in_token b parts.0) (digits-in_token bs parts.1)

pub digit-no_quote : (b : ℕ) → is_ascii_digit b ≡ true → (b == 39) ≡ false
digit-no_quote b digit =
    let low : 48 ≤ b = leb-true 48 b (and_parts (leb 48 b) (leb b 57) digit).0 in
    ne_eqb b 39 (λ e. omega arith)

read-skip : (levels : List Level) (bytes : List ℕ) → read between levels bytes ≡ read between levels (skip bytes)
read-skip levels bytes = read-skip_from levels false bytes

-- a symbol or a number, after blanks
pub read-symbol : (s bytes rest : List ℕ) (levels : List Level) → skip bytes ≡ s ++ rest → IsSymbol s → EndsToken rest → read between levels bytes ≡ put (symbol s) levels rest
read-symbol [] bytes rest levels is never end = absurd never
read-symbol (b ∷ bs) bytes rest levels is sym_ end =
    read-skip levels bytes ∙ ap (read between levels) is ∙ read-whole_token (symbol (b ∷ bs)) b bs levels rest sym_.0 (ne_eqb b 39 sym_.1) (datum_of-symbol b bs sym_) end

pub read-number : (n : ℕ) (digits bytes rest : List ℕ) (levels : List Level) → skip bytes ≡ digits ++ rest → IsNumber n digits → EndsToken rest → read between levels bytes ≡ put (number n) levels rest
read-number n [] bytes rest levels is never end = absurd never
read-number n (b ∷ bs) bytes rest levels is num end =
    let digit = and_parts (is_ascii_digit b) (all_digits bs) num.0 in
    read-skip levels bytes ∙ ap (read between levels) is ∙ read-whole_token (number n) b bs levels rest (digits-in_token (b ∷ bs) num.0) (digit-no_quote b digit.0) (datum_of-number n b bs num) end

-- a text, after blanks
pub read-text : (s written bytes rest : List ℕ) (levels : List Level) → skip bytes ≡ 34 ∷ written ++ 34 ∷ rest → IsQuoted s written → read between levels bytes ≡ put (text s) levels rest
unfolding read
read-text s written bytes rest levels is quoted_ =
    read-skip levels bytes ∙ ap (read between levels) is ∙ read-quoted [] s written levels (34 ∷ rest) quoted_
    ∙ taken-add (text s) levels (34 ∷ rest) rest (λ place ls. read place ls rest) (λ ls. refl)

-- a closed list
pub read-closed : (ts : List Tree) (bytes rest : List ℕ) (levels : List Level) → skip bytes ≡ 41 ∷ rest → read between (listed ts ∷ levels) bytes ≡ put (list (trees_of ts)) levels rest
unfolding read
read-closed ts bytes rest levels is =
    read-skip (listed ts ∷ levels) bytes ∙ ap (read between (listed ts ∷ levels)) is
    ∙ taken-add (list (trees_of ts)) levels (41 ∷ rest) rest (λ place ls. read place ls rest) (λ ls. refl)

mutual
  pub read-datum : (t : Tree) (bytes rest : List ℕ) (levels : List Level) → IsDatum t bytes rest → length levels + depth_of t ≤ 128 → read between levels bytes ≡ put t levels rest
  read-datum (symbol s) bytes rest levels (is, symbol_, end) low = read-symbol s bytes rest levels is symbol_ end
  read-datum (text s) bytes rest levels (written, is, quoted_) low = read-text s written bytes rest levels is quoted_
  read-datum (number n) bytes rest levels (digits, is, number_, end) low = read-number n digits bytes rest levels is number_ end
  read-datum (list ts) bytes rest levels (inl (inside, is, data_)) low =
      read-skip levels bytes ∙ ap (read between levels) is ∙ read-opened (listed []) levels 40 inside refl (omega arith)
      ∙ read-data ts inside rest levels [] data_ (omega arith)
  read-datum (list ts) bytes rest levels (inr (inside, is, after)) low =
      read-skip levels bytes ∙ ap (read between levels) is ∙ read-opened quoting levels 39 inside refl (omega arith)
      ∙ read-after_quote ts inside rest levels after (omega arith)

  pub read-data : (ts : Trees) (bytes rest : List ℕ) (levels : List Level) (so_far : List Tree) → AreData ts bytes rest → length levels + 1 + depths_of ts ≤ 128 →
      read between (listed so_far ∷ levels) bytes ≡ put (list (prepended so_far ts)) levels rest
  read-data none bytes rest levels so_far is low = read-closed so_far bytes rest levels is ∙ ap (λ ts. put (list ts) levels rest) (sym (prepended-none so_far))
  read-data (more t ts) bytes rest levels so_far (next, one, others) low =
      read-datum t bytes next (listed so_far ∷ levels) one (omega arith)
      ∙ read-data ts next rest levels (so_far ++ t ∷ []) others (omega arith)
      ∙ ap (λ ts. put (list ts) levels rest) (prepended-append so_far t ts)

  pub read-after_quote : (ts : Trees) (bytes rest : List ℕ) (levels : List Level) → IsAfterQuote ts bytes rest → length levels + 1 + depths_of ts ≤ 128 →
      read between (quoting ∷ levels) bytes ≡ put (list ts) levels rest
  read-after_quote none bytes rest levels never low = absurd never
  read-after_quote (more q none) bytes rest levels never low = absurd never
  read-after_quote (more q (more t none)) bytes rest levels (is, one) low =
      read-datum t bytes rest (quoting ∷ levels) one (omega arith) ∙ ap (λ q. put (list (more q (more t none))) levels rest) (sym is)
  read-after_quote (more q (more t (more u us))) bytes rest levels never low = absurd never
