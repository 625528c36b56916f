-- Statistics: a line for each signer.
use Rattle.std.specs.Prelude.{ℕ, List, ◌++◌, codes, decimal}
use Rattle.std.specs.List.{flat_map}
use Rattle.hex.specs.Hex.{encode_upper}
use Rattle.auth_engine.specs.declared.task.Signer.{Signer}
use Rattle.auth_engine.specs.declared.task.Verdict.{Verdict}

-- `FINGERPRINT SP COUNT LF`
abbrev pub signer_line : Signer → List ℕ
signer_line signer = encode_upper signer.key.0 ++ (codes " " ++ decimal signer.commits ++ codes "\n")

abbrev pub statistics_text : Verdict → List ℕ
statistics_text verdict = flat_map signer_line verdict.signers
