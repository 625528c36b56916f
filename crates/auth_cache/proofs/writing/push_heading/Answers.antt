use Rattle.std.proofs.Common.{codes}
use Rattle.auth_cache.specs.Lines.{line}
use Rattle.auth_cache.specs.Text.{id_text, key_text}
use Rattle.auth_cache.proofs.WritingLemmas.{four_pushed}
use Rattle.auth_cache.proofs.writing.push_heading.Goals as goal

pub returns-clause-text : goal.returns-clause-text
returns-clause-text c =
    let scope = c.args.scope.now in
    four_pushed c.push_id-2.result c.args.text.now c.extend.new.self c.push_id.new.text c.push_key.new.text c.push_id-2.new.text
    (line (codes "guix-auth-cache 1")) (line (id_text (codes "intro ") scope.intro)) (line (key_text (codes "signer ") scope.signer)) (line (id_text (codes "keyring ") scope.keyring_tree))
    c.in_ok-extend.ensures.ok c.in_ok-push_id.ensures.text c.in_ok-push_key.ensures.text c.push_id-2.ensures.text
