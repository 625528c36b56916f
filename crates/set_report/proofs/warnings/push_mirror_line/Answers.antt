use Rattle.std.proofs.Common.{◌++◌, codes}
use Rattle.auth_report.specs.Parts.{shown}
use Rattle.auth_report.proofs.TextLemmas.{two_parts}
use Rattle.set_report.proofs.GrowthLemmas.{grown}
use Rattle.set_report.proofs.warnings.push_mirror_line.Goals as goal

pub returns : goal.returns
returns c =
    let old = c.args.text.now in
    let named = codes "guix-auth: warning: channel " ++ shown c.args.name.now ++ codes " is fetched from " in
    let fetched = named ++ shown c.args.url.now in
    let mirror = fetched ++ codes ", a mirror of " in
    let to_url = grown old _ _ named (shown c.args.url.now) c.in_ok-push_between.ensures c.in_ok-push_text.ensures in
    let to_words = grown old _ _ fetched (codes ", a mirror of ") to_url c.in_ok-extend.ensures.ok in
    let to_primary = grown old _ _ mirror (shown c.args.primary.now) to_words c.in_ok-push_text-2.ensures in
    two_parts c.extend-2.result old _ c.extend-2.new.self (mirror ++ shown c.args.primary.now) (codes "\n") to_primary c.extend-2.ensures.ok
