-- What a check of channels finds outside.
use Rattle.std.specs.Prelude.{List}
use Rattle.child_ports.specs.declared.git.GitRow.{GitRow}
use Rattle.child_ports.specs.declared.sig.SigRow.{SigRow}
use Rattle.child_ports.specs.Keeper.{Kept}

-- git's answers, gpgv's verdicts, and the records
pub record Outside : Type 0 where
  pub answers : List GitRow
  pub verdicts : List SigRow
  pub kept : Kept

abbrev pub outside : List GitRow → List SigRow → Kept → Outside
outside answers verdicts kept = record { answers = answers; verdicts = verdicts; kept = kept }
