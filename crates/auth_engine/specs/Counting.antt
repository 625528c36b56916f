-- Keys with their counts, as they are put in order. No public clause cites it.
use Rattle.std.specs.Prelude.{ℕ, zero, suc, Option, Some, None}
use Rattle.std.specs.declared.cmp.Ordering.{Ordering}
use Rattle.std.specs.declared.cmp.Reverse.{Reverse}
use Rattle.std.specs.Ordering.{nat_cmp, ordering_then}
use Rattle.child_ports.specs.KeySet.{key_cmp}
use Rattle.child_ports.specs.declared.fingerprint.Fingerprint.{Fingerprint}
use Rattle.auth_engine.specs.declared.task.Signer.{Signer}

-- what a map has at a key that came so often: nothing at one that didn't come
abbrev pub counted : ℕ → Option ℕ
counted zero = None
counted (suc n) = Some (suc n)

-- a count and a key
abbrev pub Row : Type 0
Row = Reverse ℕ × Fingerprint

-- by descending count, and then by fingerprint
abbrev pub row_cmp : Row → Row → Ordering
row_cmp a b = ordering_then (nat_cmp b.0.0 a.0.0) (key_cmp a.1 b.1)

abbrev pub row_of : Fingerprint × ℕ → Row
row_of entry = (record { 0 = entry.1 }, entry.0)

abbrev pub signer_of : Row → Signer
signer_of row = record { key = row.1; commits = row.0.0 }
