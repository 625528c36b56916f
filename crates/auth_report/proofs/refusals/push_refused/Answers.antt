use Rattle.std.proofs.Common.{◌++◌, codes}
use Rattle.hex.specs.Hex.{encode_lower}
use Rattle.auth_report.specs.Texts.{cause_text}
use Rattle.auth_report.proofs.TextLemmas.{two_parts}
use Rattle.auth_report.proofs.refusals.push_refused.Goals as goal

pub returns : goal.returns
returns c =
    two_parts c.push_cause.result c.args.text.now _ c.push_cause.new.text (codes "commit " ++ encode_lower c.args.id ++ codes " is refused: ") (cause_text c.args.cause)
    c.in_ok-push_named.ensures c.push_cause.ensures
