-- What the parts of the reading answer.
use Rattle.std.specs.Prelude.{◌≡◌, ℕ, Result, Ok, Err, List, map}
use Rattle.std.specs.Borrow.{Bor}
use Rattle.std.specs.FinSet.{from_list}
use Rattle.sexp_reader.specs.Reading.{first_datum}
use Rattle.sexp_reader.specs.Tree.{Tree, tree}
use Rattle.sexp_reader.specs.declared.datum.Datum.{Datum}
use Rattle.child_ports.specs.KeySet.{Keys}
use Rattle.authorizations.specs.Reading.{Gives, onward, datum_in, entries_of, fingerprints_from}
use Rattle.authorizations.specs.declared.fail.AuthFail.{AuthFail}
use Rattle.authorizations.specs.declared.fail.AuthFail.TheVariants as fail

-- the datum with this tree stands first, or the fault does
abbrev pub GivesDatum : Result Datum AuthFail → List ℕ → Type 0
GivesDatum (Ok datum) bytes = datum_in (first_datum bytes) ≡ Ok (tree datum)
GivesDatum (Err fail.Memory) bytes = Unit {0}
GivesDatum (Err fault) bytes = datum_in (first_datum bytes) ≡ Err fault

-- the data with these trees are the entries of the datum, or it has the fault
abbrev pub GivesEntries : Result (Bor (List Datum)) AuthFail → Datum → Type 0
GivesEntries (Ok entries) datum = entries_of (tree datum) ≡ Ok (map tree entries.now)
GivesEntries (Err fault) datum = entries_of (tree datum) ≡ Err fault

-- the set of the keys of the entries, or their first fault
abbrev pub GivesKeys : Result Keys AuthFail → List Tree → Type 0
GivesKeys result entries = Gives result (onward (fingerprints_from 0 entries) (λ keys. Ok (from_list keys)))
