-- What the reading of bytes says of them.
use Rattle.std.proofs.Common.{◌≡◌, ◌↔◌, inl, inr, ℕ, List, refl, subst}
use Rattle.std.specs.Prelude.{Option, Some, None, Result, Ok, Err, IfErr}
use Rattle.std.specs.FinSet.{from_list}
use Rattle.child_ports.specs.declared.fingerprint.Fingerprint.{Fingerprint}
use Rattle.sexp_reader.specs.Grammar.{IsFirst, IsEmpty}
use Rattle.sexp_reader.specs.Reading.{first_datum}
use Rattle.sexp_reader.specs.Tree.{Tree}
use Rattle.sexp_reader.specs.declared.fail.SexpFail.{SexpFail}
use Rattle.child_ports.specs.KeySet.{key_cmp, Keys}
use Rattle.authorizations.specs.Authorizations.{IsAuthorizations, IsFile}
use Rattle.authorizations.specs.Faults.{IsFormFault, HasEntryFault, IsFault}
use Rattle.authorizations.specs.Reading.{onward, datum_in, entries_of, fingerprints_from, keys_of, Gives}
use Rattle.authorizations.specs.declared.fail.AuthFail.{AuthFail}
use Rattle.authorizations.specs.declared.fail.AuthFail.TheVariants as fail
use Rattle.authorizations.proofs.FormLemmas.{FormSaid, form_said, form_read}
use Rattle.authorizations.proofs.EntryLemmas.{EntriesSaid, entries_said, entries_read}

-- what the keys of bytes, or their fault, say
abbrev FileSaid : List ℕ → Result Keys AuthFail → Type 0
FileSaid bytes (Ok keys) = IsFile bytes keys
FileSaid bytes (Err fault) = IsFault bytes fault

form_fault : (bytes : List ℕ) (datum : Tree) (fault : AuthFail) → IsFirst bytes datum → IsFormFault datum fault → IsFault bytes fault
form_fault bytes datum (fail.Sexp e) first is = absurd is
form_fault bytes datum fail.Shape first is = inr (record { datum = datum; first = first; wrong = inl is })
form_fault bytes datum (fail.Version n) first is = record { datum = datum; first = first; wrong = inl is }
form_fault bytes datum (fail.Fingerprint n) first is = absurd is
form_fault bytes datum fail.Memory first is = tt

entry_fault : (bytes : List ℕ) (datum : Tree) (entries : List Tree) (fault : AuthFail) → IsFirst bytes datum → IsAuthorizations datum entries → HasEntryFault 0 entries fault → IsFault bytes fault
entry_fault bytes datum entries (fail.Sexp e) first form is = absurd is.wrong
entry_fault bytes datum entries fail.Shape first form is = inr (record { datum = datum; first = first; wrong = inr (entries, form, is) })
entry_fault bytes datum entries (fail.Version n) first form is = absurd is.wrong
entry_fault bytes datum entries (fail.Fingerprint n) first form is = record { datum = datum; first = first; wrong = inr (entries, form, is) }
entry_fault bytes datum entries fail.Memory first form is = tt

listed_said : (bytes : List ℕ) (datum : Tree) (entries : List Tree) (s : Result (List Fingerprint) AuthFail) → IsFirst bytes datum → IsAuthorizations datum entries → EntriesSaid 0 entries s → FileSaid bytes (onward s (λ keys. Ok (from_list {R = key_cmp} keys)))
listed_said bytes datum entries (Ok listed) first form said = record { datum = datum; entries = entries; listed = listed; first = first; form = form; fingerprints = said; set = refl }
listed_said bytes datum entries (Err fault) first form said = entry_fault bytes datum entries fault first form said

datum_said : (bytes : List ℕ) (datum : Tree) (r : Result (List Tree) AuthFail) → IsFirst bytes datum → FormSaid datum r → FileSaid bytes (onward r (λ entries. onward (fingerprints_from 0 entries) (λ keys. Ok (from_list {R = key_cmp} keys))))
datum_said bytes datum (Ok entries) first said = listed_said bytes datum entries (fingerprints_from 0 entries) first said (entries_said 0 entries)
datum_said bytes datum (Err fault) first said = form_fault bytes datum fault first said

first_said : (bytes : List ℕ) (o : Result (Option Tree) SexpFail) → first_datum bytes ≡ o → ((t : Tree) → (first_datum bytes ≡ Ok (Some t)) ↔ IsFirst bytes t) → (first_datum bytes ≡ Ok None) ↔ IsEmpty bytes →
    FileSaid bytes (onward (datum_in o) (λ datum. onward (entries_of datum) (λ entries. onward (fingerprints_from 0 entries) (λ keys. Ok (from_list {R = key_cmp} keys)))))
first_said bytes (Err e) is first none = is
first_said bytes (Ok None) is first none = inl (none.0 is)
first_said bytes (Ok (Some datum)) is first none = datum_said bytes datum (entries_of datum) ((first datum).0 is) (form_said datum)

said : (bytes : List ℕ) → ((t : Tree) → (first_datum bytes ≡ Ok (Some t)) ↔ IsFirst bytes t) → (first_datum bytes ≡ Ok None) ↔ IsEmpty bytes → FileSaid bytes (keys_of bytes)
unfolding keys_of
said bytes first none = first_said bytes (first_datum bytes) refl first none

file_read : (bytes : List ℕ) (keys : Keys) → ((t : Tree) → (first_datum bytes ≡ Ok (Some t)) ↔ IsFirst bytes t) → IsFile bytes keys → keys_of bytes ≡ Ok keys
unfolding keys_of
file_read bytes keys first is = rw ((first is.datum).1 is.first, form_read is.datum is.entries is.form, entries_read 0 is.entries is.listed is.fingerprints, is.set)

pub file_is_read : (bytes : List ℕ) → ((t : Tree) → (first_datum bytes ≡ Ok (Some t)) ↔ IsFirst bytes t) → (first_datum bytes ≡ Ok None) ↔ IsEmpty bytes → (keys : Keys) → (keys_of bytes ≡ Ok keys) ↔ IsFile bytes keys
file_is_read bytes first none keys = (λ is. subst (FileSaid bytes) is (said bytes first none), file_read bytes keys first)

fault_named : (bytes : List ℕ) (fault : AuthFail) → FileSaid bytes (keys_of bytes) → Gives (Err fault) (keys_of bytes) → IsFault bytes fault
fault_named bytes (fail.Sexp e) so gives = subst (FileSaid bytes) gives so
fault_named bytes fail.Shape so gives = subst (FileSaid bytes) gives so
fault_named bytes (fail.Version n) so gives = subst (FileSaid bytes) gives so
fault_named bytes (fail.Fingerprint n) so gives = subst (FileSaid bytes) gives so
fault_named bytes fail.Memory so gives = tt

pub fault_is_named : (bytes : List ℕ) (result : Result Keys AuthFail) → ((t : Tree) → (first_datum bytes ≡ Ok (Some t)) ↔ IsFirst bytes t) → (first_datum bytes ≡ Ok None) ↔ IsEmpty bytes → Gives result (keys_of bytes) → IfErr result (λ fault. IsFault bytes fault)
fault_is_named bytes (Ok keys) first none gives = tt
fault_is_named bytes (Err fault) first none gives = fault_named bytes fault (said bytes first none) gives
