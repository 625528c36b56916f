use Rattle.std.proofs.Common.{◌++◌, codes}
use Rattle.hex.specs.Hex.{encode_lower}
use Rattle.auth_report.specs.FileTexts.{auth_text}
use Rattle.auth_report.proofs.TextLemmas.{two_parts}
use Rattle.auth_report.proofs.causes.push_parent_file.Goals as goal

pub returns : goal.returns
returns c =
    two_parts c.push_auth.result c.args.text.now _ c.push_auth.new.text (codes ".guix-authorizations of its parent " ++ encode_lower c.args.parent ++ codes ": ") (auth_text c.args.fail)
    c.in_ok-push_named.ensures c.push_auth.ensures
