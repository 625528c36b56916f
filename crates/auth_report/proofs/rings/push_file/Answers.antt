use Rattle.std.proofs.Common.{ℕ, List, ◌++◌, ◌∙◌, ap, codes}
use Rattle.auth_report.specs.Parts.{shown}
use Rattle.auth_report.specs.Texts.{bad_text}
use Rattle.auth_report.proofs.TextLemmas.{two_parts}
use Rattle.auth_report.proofs.rings.push_file.Goals as goal

pub returns : goal.returns
returns c =
    two_parts c.push_bad.result c.args.text.now _ c.push_bad.new.text (codes "keyring file " ++ shown c.args.name.now ++ codes ": ") (bad_text c.args.bad)
    (c.in_ok-push_shown.ensures ∙ ap (λ (name : List ℕ). c.args.text.now ++ (codes "keyring file " ++ shown name ++ codes ": ")) c.as_slice.ensures) c.push_bad.ensures
