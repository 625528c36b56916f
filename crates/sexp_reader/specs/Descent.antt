-- What the descent reads, at a level and in any levels that are open.
use Rattle.std.specs.Prelude.{◌≡◌, ◌≢◌, ℕ, ◌≤◌, ◌+◌, false, Option, Some, None, Result, Ok, Err, List, [], ◌∷◌, map, length}
use Rattle.std.specs.Borrow.{Bor}
use Rattle.std.specs.Prelude.{codes, IsUtf8}
use Rattle.sexp_reader.specs.declared.datum.Datum.{Datum}
use Rattle.sexp_reader.specs.declared.datum.Datum.TheVariants as datum
use Rattle.sexp_reader.specs.declared.fail.Cause.{Cause}
use Rattle.sexp_reader.specs.declared.fail.ReadFail.{ReadFail}
use Rattle.sexp_reader.specs.declared.fail.ReadFail.TheVariants as fails
use Rattle.sexp_reader.specs.Grammar.{closing, semicolon, is_blank, skip, IsDatum, AreData}
use Rattle.sexp_reader.specs.Reading.{Level, listed, quoting, fault, read, between}
use Rattle.sexp_reader.specs.Tree.{tree, trees_of, depth_of, depths_of}

-- a datum may begin here: no blank, comment or closing bracket stands first
abbrev pub Begins : List ℕ → Type 0
Begins [] = ⊥
Begins (b ∷ bs) = (is_blank b ≡ false) × (b ≢ semicolon) × (b ≢ closing)

-- a reading between data stops so, with this many bytes left
abbrev pub Stops : List Level → List ℕ → Cause → ℕ → Type 0
Stops levels bytes cause left = (here : List ℕ) × (read between levels bytes ≡ fault cause here) × (length here ≡ left) × (left ≤ length bytes)

-- the data of `'` and a datum
abbrev pub quoted_data : Datum → List Datum
quoted_data d = datum.Symbol (codes "quote") ∷ d ∷ []

-- What reading one datum at a level answers: it stands there, in at most 128 levels, or a reading in as many levels stops so.
abbrev pub ReadsDatum : ℕ → List ℕ → Result (Datum × Bor (List ℕ)) ReadFail → Type 0
ReadsDatum level bytes (Ok x) = IsDatum (tree x.0) bytes x.1.now × (level + depth_of (tree x.0) ≤ 128) × IsUtf8 x.1.now
ReadsDatum level bytes (Err fails.Memory) = Unit {0}
ReadsDatum level bytes (Err (fails.Fault cause left)) = (levels : List Level) → length levels ≡ level → Stops levels bytes cause left

-- the same of the data of a list, up to the bracket that closes it
abbrev pub ReadsData : ℕ → List ℕ → Result (List Datum × Bor (List ℕ)) ReadFail → Type 0
ReadsData level bytes (Ok x) = AreData (trees_of (map tree x.0)) bytes x.1.now × (level + depths_of (trees_of (map tree x.0)) ≤ 128) × IsUtf8 x.1.now
ReadsData level bytes (Err fails.Memory) = Unit {0}
ReadsData level bytes (Err (fails.Fault cause left)) = (levels : List Level) → length levels + 1 ≡ level → Stops (listed [] ∷ levels) bytes cause left

-- no list is the innermost level
abbrev pub IsLone : List Level → Type 0
IsLone [] = Unit {0}
IsLone (listed ts ∷ levels) = ⊥
IsLone (quoting ∷ levels) = Unit {0}

-- the same of a datum outside any list or directly after a quote, where there may be none
abbrev pub ReadsLone : ℕ → List ℕ → Result (Option (Datum × Bor (List ℕ))) ReadFail → Type 0
ReadsLone level bytes (Ok None) = skip bytes ≡ []
ReadsLone level bytes (Ok (Some x)) = IsDatum (tree x.0) bytes x.1.now × (level + depth_of (tree x.0) ≤ 128) × IsUtf8 x.1.now
ReadsLone level bytes (Err fails.Memory) = Unit {0}
ReadsLone level bytes (Err (fails.Fault cause left)) = (levels : List Level) → length levels ≡ level → IsLone levels → Stops levels bytes cause left
