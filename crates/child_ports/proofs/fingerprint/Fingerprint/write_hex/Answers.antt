use Rattle.std.proofs.Common.{ap, ◌∙◌}
use Rattle.child_ports.specs.Fingerprint.{fingerprint_of}
use Rattle.child_ports.proofs.FingerprintLemmas.{fingerprint_of-encode_upper}
use Rattle.child_ports.proofs.fingerprint.Fingerprint.write_hex.Goals as goal

pub returns-clause-again : goal.returns-clause-again
returns-clause-again c =
    let written = c.write_digits.ensures in
    ap fingerprint_of written.digits ∙ fingerprint_of-encode_upper c.args.self.now written.count written.bytes
