-- A reading of the first datum from the left, byte by byte: what it finds, or the first fault that it meets.
use Rattle.std.specs.Prelude.{◌≡◌, ◌≢◌, ℕ, ◌-◌, ◌^◌, Bool, false, ◌==◌, if◌then◌else◌, nat_lt, Option, Some, None, Result, Ok, Err, List, [], ◌∷◌, ◌++◌, length}
use Rattle.std.specs.Option.{option_map}
use Rattle.std.specs.Str.{is_utf8}
use Rattle.std.specs.Str.Lossy.{utf8_valid_len}
use Rattle.std.specs.Str.Parse.{digits_value}
use Rattle.sexp_reader.specs.declared.datum.Datum.{Datum}
use Rattle.sexp_reader.specs.declared.fail.SexpFail.{SexpFail}
use Rattle.sexp_reader.specs.declared.fail.SexpFail.TheVariants as fail
use Rattle.sexp_reader.specs.declared.fail.Cause.{Cause}
use Rattle.sexp_reader.specs.declared.fail.Cause.TheVariants.{Escape, Open, Close, Number, Hash, Deep}
use Rattle.sexp_reader.specs.Fail.{fail_at}
use Rattle.sexp_reader.specs.Grammar.{line_feed, quote_mark, apostrophe, opening, closing, dot, semicolon, backslash, is_blank, is_refused, ends_token, all_digits, escaped, quote_symbol}
use Rattle.sexp_reader.specs.Tree.{Tree, symbol, text, number, list, none, more, trees_of, tree}

-- a level that is open: a list with the data so far, or a quote
pub data Level : Type 0 where
  listed : List Tree → Level
  quoting : Level

-- where a byte stands: between data, or in a comment, a token or a text, whose bytes so far are given
pub data Place : Type 0 where
  between : Place
  comment : Place
  token : List ℕ → Place
  quoted : List ℕ → Place
  escape : List ℕ → Place

-- what a byte does: the reading goes on, the first datum is whole, or a fault
pub data Step : Type 0 where
  on : Place → List Level → Step
  done : Tree → Step
  stop : Cause → Step

-- what a reading gives: no datum, the first one and the rest, or a fault and the rest from its place on
pub data Reading : Type 0 where
  nothing : Reading
  first : Tree → List ℕ → Reading
  fault : Cause → List ℕ → Reading

-- a datum is whole
abbrev pub add : Tree → List Level → Step
add t [] = done t
add t (listed ts ∷ levels) = on between (listed (ts ++ t ∷ []) ∷ levels)
add t (quoting ∷ levels) = add (list (more quote_symbol (more t none))) levels

-- a bracket closes
abbrev pub close : List Level → Step
close [] = stop Close
close (listed ts ∷ levels) = add (list (trees_of ts)) levels
close (quoting ∷ levels) = stop Close

-- a bracket or a quote opens a level
abbrev pub open_level : Level → List Level → Step
open_level level levels = if nat_lt (length levels) 128 then on between (level ∷ levels) else stop Deep

-- a byte between data
abbrev pub begin : List Level → ℕ → Step
begin levels b = if is_blank b then on between levels
    else (if b == semicolon then on comment levels
    else (if b == quote_mark then on (quoted []) levels
    else (if b == opening then open_level (listed []) levels
    else (if b == closing then close levels
    else (if b == apostrophe then open_level quoting levels
    else (if is_refused b then stop Hash
    else on (token (b ∷ [])) levels))))))

-- the token `.`
abbrev pub is_dot : List ℕ → Bool
is_dot (b ∷ []) = b == dot
is_dot _ = false

-- the datum of a token
abbrev pub datum_of : List ℕ → Result Tree Cause
datum_of bytes = if all_digits bytes
    then (if nat_lt (digits_value 10 bytes) (2 ^ 64) then Ok (number (digits_value 10 bytes)) else Err Number)
    else (if is_dot bytes then Err Hash else Ok (symbol bytes))

-- the input ends between data
abbrev pub at_end : List Level → Reading
at_end [] = nothing
at_end (level ∷ levels) = fault Open []

-- what a byte did, and then the rest
abbrev pub taken : Step → List ℕ → List ℕ → (Place → List Level → Reading) → Reading
taken (on place levels) here rest go = go place levels
taken (done t) here rest go = first t rest
taken (stop cause) here rest go = fault cause here

-- a token, from its first byte on, has ended before the rest
abbrev pub after_token : Result Tree Cause → List Level → List ℕ → List ℕ → (List Level → Reading) → Reading
after_token (Ok t) levels here rest go = taken (add t levels) here rest (λ place levels. go levels)
after_token (Err cause) levels here rest go = fault cause here

-- a letter after a backslash
abbrev pub after_escape : Option ℕ → List ℕ → (List ℕ → Reading) → Reading
after_escape (Some c) here go = go (c ∷ [])
after_escape None here go = fault Escape here

-- the reading of what is left, at a place in these levels, the innermost first
unfoldable pub read : Place → List Level → List ℕ → Reading
read between levels [] = at_end levels
read comment levels [] = at_end levels
read (token bytes) levels [] = after_token (datum_of bytes) levels bytes [] (λ levels. at_end levels)
read (quoted bytes) levels [] = fault Open []
read (escape bytes) levels [] = fault Open []
read between levels (b ∷ bs) = taken (begin levels b) (b ∷ bs) bs (λ place levels. read place levels bs)
read comment levels (b ∷ bs) = if b == line_feed then read between levels bs else read comment levels bs
read (token bytes) levels (b ∷ bs) = if ends_token b
    then after_token (datum_of bytes) levels (bytes ++ b ∷ bs) (b ∷ bs) (λ levels. taken (begin levels b) (b ∷ bs) bs (λ place levels. read place levels bs))
    else read (token (bytes ++ b ∷ [])) levels bs
read (quoted bytes) levels (b ∷ bs) = if b == quote_mark then taken (add (text bytes) levels) (b ∷ bs) bs (λ place levels. read place levels bs)
    else (if b == backslash then read (escape bytes) levels bs
    else read (quoted (bytes ++ b ∷ [])) levels bs)
read (escape bytes) levels (b ∷ bs) = after_escape (escaped b) (b ∷ bs) (λ c. read (quoted (bytes ++ c)) levels bs)

-- what a reading gives, with the fault's place in the whole
abbrev pub placed : ℕ → Reading → Result (Option Tree) SexpFail
placed len nothing = Ok None
placed len (first t rest) = Ok (Some t)
placed len (fault cause rest) = Err (fail_at cause (len - length rest))

-- the first datum of the bytes, none, or the first fault
unfoldable pub first_datum : List ℕ → Result (Option Tree) SexpFail
first_datum bytes = if is_utf8 bytes then placed (length bytes) (read between [] bytes) else Err (fail.NotUtf8 (utf8_valid_len bytes))

-- A call answered what the reading gives: no datum, or the one with this tree, or the fault. Only want of memory may
-- stand in its place.
abbrev pub Gives : Result (Option Datum) SexpFail → Result (Option Tree) SexpFail → Type 0
Gives (Ok found) reading = reading ≡ Ok (option_map tree found)
Gives (Err e) reading = e ≢ fail.Memory → reading ≡ Err e
