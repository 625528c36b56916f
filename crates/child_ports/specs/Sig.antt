-- What gpgv says of signatures.
use Rattle.std.specs.Prelude.{ℕ, List, [], ◌∷◌, bytes_eq, ◌&&◌, if◌then◌else◌}
use Rattle.child_ports.specs.declared.sig.SigRow.{SigRow}

-- what the rows say of a signature on a payload under a keyring: the first row counts, and without one nothing is said
abbrev pub verdict : List SigRow → List ℕ → List ℕ → List ℕ → List ℕ
verdict [] keyring signature payload = []
verdict (row ∷ rows) keyring signature payload =
    if bytes_eq row.keyring keyring && bytes_eq row.signature signature && bytes_eq row.payload payload
    then row.answer else verdict rows keyring signature payload
