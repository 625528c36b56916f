use Rattle.std.proofs.Common.{◌≡◌, take}
use Rattle.std.specs.List.{flat_map}
use Rattle.auth_report.specs.Statistics.{signer_line}
use Rattle.auth_report.proofs.tallies.statistics.Given as goal

abbrev pub invariant-loop-signer : goal.invariant-loop-signer
invariant-loop-signer l = l.text ≡ flat_map signer_line (take l.signer-index l.verdict.signers)
