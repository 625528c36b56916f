use Rattle.std.proofs.Common.{sym, ◌∙◌}
use Rattle.stand_world.proofs.StatusLemmas.{no_packets, with_keys, with_answer}
use Rattle.stand_world.proofs.status.is_among.Goals as goal

pub returns-in-Ok : goal.returns-in-Ok
returns-in-Ok c = c.contains.ensures ∙ with_keys c.args.key c.args.keyring.now c.in-Ok.keys (sym c.if-begins_packet.ensures) c.in-Ok.ensures.exact

pub returns-in-Err : goal.returns-in-Err
returns-in-Err c = with_answer c.args.key c.args.keyring.now c.in-Err.fail c.no_keys.result (sym c.if-begins_packet.ensures) c.in-Err.ensures.exact c.no_keys.ensures

pub returns-else-begins_packet : goal.returns-else-begins_packet
returns-else-begins_packet c = sym (no_packets c.args.key c.args.keyring.now (sym c.if-begins_packet.ensures))
