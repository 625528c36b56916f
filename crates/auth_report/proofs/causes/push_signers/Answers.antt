use Rattle.std.proofs.Common.{◌++◌, codes}
use Rattle.hex.specs.Hex.{encode_upper}
use Rattle.auth_report.proofs.TextLemmas.{two_parts}
use Rattle.auth_report.proofs.causes.push_signers.Goals as goal

pub returns : goal.returns
returns c =
    two_parts c.push_key-2.result c.args.text.now _ c.push_key-2.new.text (codes "it is signed by " ++ encode_upper c.args.found.0) (codes " and not by " ++ encode_upper c.args.wanted.0)
    c.in_ok-push_key.ensures c.push_key-2.ensures
