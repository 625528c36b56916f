-- Files of authorisations (Guix's manual, "Channels", and its section on specifying channel authorisations). That only
-- the first datum of a file counts, and how a fingerprint may be written, is this project's own.
use Rattle.std.specs.Prelude.{◌≡◌, ℕ, List, [], ◌∷◌, Some, codes}
use Rattle.std.specs.FinSet.{from_list}
use Rattle.child_ports.specs.Fingerprint.{fingerprint_in}
use Rattle.child_ports.specs.declared.fingerprint.Fingerprint.{Fingerprint}
use Rattle.sexp_reader.specs.Grammar.{IsFirst}
use Rattle.sexp_reader.specs.Tree.{Tree, symbol, text, number, list_in}
use Rattle.child_ports.specs.KeySet.{Keys}

-- `(version N)`
abbrev pub IsVersion : ℕ → Tree → Type 0
IsVersion n datum = list_in datum ≡ Some (symbol (codes "version") ∷ number n ∷ [])

-- `(authorizations (version N) REST ..)`
pub record IsHeaded (datum : Tree) (n : ℕ) (rest : List Tree) : Type 0 where
  pub version : Tree
  pub elements : list_in datum ≡ Some (symbol (codes "authorizations") ∷ version ∷ rest)
  pub version_is : IsVersion n version

-- `(authorizations (version 0) (ENTRY ..) ..)`
pub record IsAuthorizations (datum : Tree) (entries : List Tree) : Type 0 where
  pub third : Tree
  pub ignored : List Tree
  pub headed : IsHeaded datum 0 (third ∷ ignored)
  pub each : list_in third ≡ Some entries

-- an entry: a list that begins with a text in which a fingerprint stands
pub record IsEntry (entry : Tree) (key : Fingerprint) : Type 0 where
  pub name : List ℕ
  pub ignored : List Tree
  pub elements : list_in entry ≡ Some (text name ∷ ignored)
  pub fingerprint : fingerprint_in name ≡ Some key

-- entries and their fingerprints, in order
abbrev pub AreEntries : List Tree → List Fingerprint → Type 0
AreEntries [] [] = Unit {0}
AreEntries [] (key ∷ keys) = ⊥
AreEntries (entry ∷ entries) [] = ⊥
AreEntries (entry ∷ entries) (key ∷ keys) = IsEntry entry key × AreEntries entries keys

-- the first datum of the bytes is a list of authorisations, and this is the set of its keys
pub record IsFile (bytes : List ℕ) (keys : Keys) : Type 0 where
  pub datum : Tree
  pub entries : List Tree
  pub listed : List Fingerprint
  pub first : IsFirst bytes datum
  pub form : IsAuthorizations datum entries
  pub fingerprints : AreEntries entries listed
  pub set : keys ≡ from_list listed
