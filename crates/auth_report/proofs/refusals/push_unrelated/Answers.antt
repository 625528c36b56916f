use Rattle.std.proofs.Common.{◌++◌, codes}
use Rattle.hex.specs.Hex.{encode_lower}
use Rattle.auth_report.proofs.TextLemmas.{two_parts}
use Rattle.auth_report.proofs.refusals.push_unrelated.Goals as goal

pub returns : goal.returns
returns c =
    two_parts c.push_commit-2.result c.args.text.now _ c.push_commit-2.new.text (codes "commit " ++ encode_lower c.args.target) (codes " is not related to introduction " ++ encode_lower c.args.intro)
    c.in_ok-push_commit.ensures c.push_commit-2.ensures
