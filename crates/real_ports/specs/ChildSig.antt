-- The keyring that gpgv is asked under.
use Rattle.std.specs.Prelude.{ℕ, List, [], Option, Some, None}
use Rattle.real_ports.specs.declared.gpgv_files.KeyringFile.{KeyringFile}

-- the bytes of the keyring's file, or none before there is one
abbrev pub bytes_of : {F : Type 0} → Option (KeyringFile F) → List ℕ
bytes_of None = []
bytes_of (Some keyring) = keyring.bytes
