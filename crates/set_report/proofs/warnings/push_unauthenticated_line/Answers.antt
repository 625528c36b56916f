use Rattle.std.proofs.Common.{◌++◌, codes}
use Rattle.auth_report.specs.Parts.{shown}
use Rattle.auth_report.proofs.TextLemmas.{two_parts}
use Rattle.set_report.proofs.warnings.push_unauthenticated_line.Goals as goal

pub returns : goal.returns
returns c =
    two_parts c.extend.result c.args.text.now _ c.extend.new.self (codes "guix-auth: warning: channel " ++ shown c.args.name.now ++ codes " has no introduction and is not authenticated") (codes "\n")
    c.in_ok-push_between.ensures c.extend.ensures.ok
