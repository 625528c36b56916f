-- What bytes give as a file of authorisations: the set of their keys, or the first fault in the order of the rules.
use Rattle.std.specs.Prelude.{◌≡◌, ◌==◌, ℕ, ◌+◌, if◌then◌else◌, Bool, false, bytes_eq, Option, Some, None, Result, Ok, Err, List, [], ◌∷◌, codes}
use Rattle.std.specs.FinSet.{from_list}
use Rattle.std.specs.Option.{ok_or}
use Rattle.child_ports.specs.Fingerprint.{fingerprint_in}
use Rattle.child_ports.specs.declared.fingerprint.Fingerprint.{Fingerprint}
use Rattle.sexp_reader.specs.Reading.{first_datum}
use Rattle.sexp_reader.specs.Tree.{Tree, symbol_in, text_in, number_in, list_in}
use Rattle.sexp_reader.specs.declared.fail.SexpFail.{SexpFail}
use Rattle.child_ports.specs.KeySet.{Keys}
use Rattle.authorizations.specs.declared.fail.AuthFail.{AuthFail}
use Rattle.authorizations.specs.declared.fail.AuthFail.TheVariants as fail

-- what follows what was found, unless that is a fault
abbrev pub onward : {A B : Type 0} → Result A AuthFail → (A → Result B AuthFail) → Result B AuthFail
onward (Ok found) next = next found
onward (Err fault) next = Err fault

-- the text in front of an entry's elements
abbrev pub name_of : List Tree → Result (List ℕ) AuthFail
name_of [] = Err fail.Shape
name_of (element ∷ elements) = ok_or (text_in element) fail.Shape

-- the fingerprint of the entry of this number
abbrev pub key_of : ℕ → Tree → Result Fingerprint AuthFail
key_of index entry =
    onward (ok_or (list_in entry) fail.Shape) (λ elements.
    onward (name_of elements) (λ name.
    ok_or (fingerprint_in name) (fail.Fingerprint index)))

-- the fingerprints of entries, the first of which has this number
abbrev pub fingerprints_from : ℕ → List Tree → Result (List Fingerprint) AuthFail
fingerprints_from index [] = Ok []
fingerprints_from index (entry ∷ entries) =
    onward (key_of index entry) (λ key.
    onward (fingerprints_from (index + 1) entries) (λ keys.
    Ok (key ∷ keys)))

-- whether a symbol is this word
abbrev pub is_word : List ℕ → Option (List ℕ) → Bool
is_word word None = false
is_word word (Some s) = bytes_eq s word

-- the number of `(version N)`
abbrev pub version_from : List Tree → Option ℕ
version_from (word ∷ count ∷ []) = if is_word (codes "version") (symbol_in word) then number_in count else None
version_from _ = None

-- the entries of the third element, which follows `authorizations` and a version
abbrev pub third_of : List Tree → Result (List Tree) AuthFail
third_of [] = Err fail.Shape
third_of (third ∷ ignored) = ok_or (list_in third) fail.Shape

abbrev pub after_version : ℕ → List Tree → Result (List Tree) AuthFail
after_version n rest = if n == 0 then third_of rest else Err (fail.Version n)

abbrev pub after_head : List Tree → Result (List Tree) AuthFail
after_head (head ∷ version ∷ rest) = if is_word (codes "authorizations") (symbol_in head)
    then onward (ok_or (list_in version) fail.Shape) (λ elements.
    onward (ok_or (version_from elements) fail.Shape) (λ n.
    after_version n rest))
    else Err fail.Shape
after_head _ = Err fail.Shape

-- the entries of a datum
abbrev pub entries_of : Tree → Result (List Tree) AuthFail
entries_of datum = onward (ok_or (list_in datum) fail.Shape) after_head

-- the first datum of the bytes
abbrev pub datum_in : Result (Option Tree) SexpFail → Result Tree AuthFail
datum_in (Ok found) = ok_or found fail.Shape
datum_in (Err fault) = Err (fail.Sexp fault)

-- the keys of the bytes
unfoldable pub keys_of : List ℕ → Result Keys AuthFail
keys_of bytes =
    onward (datum_in (first_datum bytes)) (λ datum.
    onward (entries_of datum) (λ entries.
    onward (fingerprints_from 0 entries) (λ keys.
    Ok (from_list keys))))

-- What a call answered is this, unless memory ran out.
abbrev pub Gives : {A : Type 0} → Result A AuthFail → Result A AuthFail → Type 0
Gives (Ok answer) reading = reading ≡ Ok answer
Gives (Err fail.Memory) reading = Unit {0}
Gives (Err fault) reading = reading ≡ Err fault
