use Rattle.std.proofs.Common.{sym, subst, ap, ◌∙◌}
use Rattle.child_ports.specs.Git.{IsName}
use Rattle.child_ports.specs.Named.{is_full_id}
use Rattle.object_frames.proofs.IdLemmas.{hex_name, hex_full}
use Rattle.object_frames.proofs.id.Id.write_hex.Goals as goal

pub returns-clause-name : goal.returns-clause-name
returns-clause-name c = subst IsName (sym c.write_digits.ensures.digits) (hex_name c.args.self.now c.write_digits.ensures.id)

pub returns-clause-full : goal.returns-clause-full
returns-clause-full c = ap is_full_id c.write_digits.ensures.digits ∙ hex_full c.args.self.now c.write_digits.ensures.id
