use Rattle.std.proofs.Common.{ap, sym, ◌∙◌, subst}
use Rattle.std.specs.FinSet.{insert}
use Rattle.child_ports.specs.declared.fingerprint.Fingerprint.{Fingerprint}
use Rattle.keyring_branch.proofs.PacketLemmas.{Walked, walked_none, stops, walked_key, walked_other, ends_without, ends_with, some_left, none_left}
use Rattle.keyring_branch.proofs.keys.packet_keys.Goals as goal
use Rattle.keyring_branch.proofs.keys.packet_keys.Goals.{then-is_key+in_ok-insert, else-is_key}

pub packets-init : goal.packets-init
packets-init c = subst (Walked c.args.bytes.now c.args.bytes.now) (sym c.new-keys.ensures) (walked_none c.args.bytes.now)

pub returns-in-Err : goal.returns-in-Err
returns-in-Err c =
    let some = some_left c.packets.rest.now c.is_empty.result c.is_empty.ensures c.packets-test.true in
    stops c.args.bytes.now c.packets.rest.now c.packets.keys c.packets.invariant some c.in-Err.fail c.in-Err.ensures.front

pub fingerprint_of-requires : goal.fingerprint_of-requires
fingerprint_of-requires c = c.in-Ok.ensures.short_key (sym c.is_key.ensures ∙ c.if-is_key.true)

pub packets-preserved : goal.packets-preserved
packets-preserved c =
    let bytes = c.args.bytes.now in
    let rest = c.packets.rest.now in
    let some = some_left rest c.is_empty.result c.is_empty.ensures c.packets-test.true in
    let front = c.in-Ok.ensures.front in
    elim c.if-is_key.branch [
      | then-is_key+in_ok-insert w ↦ walked_key bytes rest c.packets.keys c.packets.invariant some _ _ c.if-is_key.keys front c.in-Ok.ensures.shorter (sym c.is_key.ensures ∙ w.if-is_key.true)
          (w.keys-is ∙ w.in_ok-insert.ensures.ok ∙ ap (λ (k : Fingerprint). insert c.packets.keys k) w.fingerprint_of.ensures)
      | else-is_key w ↦ walked_other bytes rest c.packets.keys c.packets.invariant some _ _ c.if-is_key.keys front c.in-Ok.ensures.shorter (sym c.is_key.ensures ∙ w.if-is_key.false) w.keys-is
    ]

pub returns-then-len-eq0 : goal.returns-then-len-eq0
returns-then-len-eq0 c =
    let end = none_left c.packets.rest.now c.is_empty.result c.is_empty.ensures c.packets-test.false in
    ends_without c.args.bytes.now c.packets.rest.now c.packets.keys c.packets.invariant end (sym c.len.ensures ∙ c.if-len-eq0.true)

pub returns : goal.returns
returns c =
    let end = none_left c.packets.rest.now c.is_empty.result c.is_empty.ensures c.packets-test.false in
    ends_with c.args.bytes.now c.packets.rest.now c.packets.keys c.packets.invariant end (λ none. c.if-len-eq0.false (c.len.ensures ∙ none))
