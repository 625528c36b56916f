-- Why bytes are no file of authorisations: the first datum's fault, else that of its form, else the first entry's.
use Rattle.std.specs.Prelude.{◌≡◌, ◌≢◌, ◌⊎◌, ℕ, ◌+◌, List, ◌∷◌, ◌++◌, length, Some, None, Err}
use Rattle.child_ports.specs.Fingerprint.{fingerprint_in}
use Rattle.child_ports.specs.declared.fingerprint.Fingerprint.{Fingerprint}
use Rattle.sexp_reader.specs.Grammar.{IsFirst, IsEmpty}
use Rattle.sexp_reader.specs.Reading.{first_datum}
use Rattle.sexp_reader.specs.Tree.{Tree, text, list_in}
use Rattle.authorizations.specs.Authorizations.{IsHeaded, IsAuthorizations, AreEntries}
use Rattle.authorizations.specs.declared.fail.AuthFail.{AuthFail}
use Rattle.authorizations.specs.declared.fail.AuthFail.TheVariants as fail

-- the datum is headed by another version than 0; or by none, or nothing lists its entries
abbrev pub IsFormFault : Tree → AuthFail → Type 0
IsFormFault datum (fail.Sexp e) = ⊥
IsFormFault datum fail.Shape = ((n : ℕ) (rest : List Tree) → IsHeaded datum n rest → n ≡ 0) × ((entries : List Tree) → IsAuthorizations datum entries → ⊥)
IsFormFault datum (fail.Version n) = ((rest : List Tree) × IsHeaded datum n rest) × (n ≢ 0)
IsFormFault datum (fail.Fingerprint index) = ⊥
IsFormFault datum fail.Memory = ⊥

-- the entry of this number begins with no text, or with one that is no fingerprint
abbrev pub IsEntryFault : ℕ → Tree → AuthFail → Type 0
IsEntryFault number entry (fail.Sexp e) = ⊥
IsEntryFault number entry fail.Shape = (name : List ℕ) (ignored : List Tree) → list_in entry ≢ Some (text name ∷ ignored)
IsEntryFault number entry (fail.Version n) = ⊥
IsEntryFault number entry (fail.Fingerprint index) = (index ≡ number) × ((name : List ℕ) × (ignored : List Tree) × (list_in entry ≡ Some (text name ∷ ignored)) × (fingerprint_in name ≡ None))
IsEntryFault number entry fail.Memory = ⊥

-- the first of the entries that is at fault, where the first of all has this number
pub record HasEntryFault (from : ℕ) (entries : List Tree) (fault : AuthFail) : Type 0 where
  pub before : List Tree
  pub entry : Tree
  pub after : List Tree
  pub listed : List Fingerprint
  pub whole : entries ≡ before ++ entry ∷ after
  pub fine : AreEntries before listed
  pub wrong : IsEntryFault (from + length before) entry fault

-- a datum stands first, and this is its fault or that of its entries
pub record HasFault (bytes : List ℕ) (fault : AuthFail) : Type 0 where
  pub datum : Tree
  pub first : IsFirst bytes datum
  pub wrong : IsFormFault datum fault ⊎ ((entries : List Tree) × IsAuthorizations datum entries × HasEntryFault 0 entries fault)

-- the fault of the bytes
abbrev pub IsFault : List ℕ → AuthFail → Type 0
IsFault bytes (fail.Sexp e) = first_datum bytes ≡ Err e
IsFault bytes fail.Shape = IsEmpty bytes ⊎ HasFault bytes fail.Shape
IsFault bytes (fail.Version n) = HasFault bytes (fail.Version n)
IsFault bytes (fail.Fingerprint index) = HasFault bytes (fail.Fingerprint index)
IsFault bytes fail.Memory = Unit {0}
