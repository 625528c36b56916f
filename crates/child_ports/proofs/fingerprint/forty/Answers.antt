use Rattle.std.proofs.Common.{sym, ap, ◌∙◌, get_or, arith}
use Rattle.std.proofs.lemmas.List.{length-take-le, take_more_set, take_all, length-set}
use Rattle.child_ports.specs.Fingerprint.{squeezed}
use Rattle.child_ports.proofs.FingerprintLemmas.{digit_adds_one, too_many}
use Rattle.child_ports.proofs.fingerprint.forty.Goals as goal

pub returns-then-count-eq40 : goal.returns-then-count-eq40
returns-then-count-eq40 c =
    too_many c.args.text.now _ c.bytes.byte-index (omega arith) c.bytes.invariant.kept (sym c.if-is_blank.ensures) (omega (arith, length-take-le c.bytes.count c.bytes.digits (omega arith)))

pub bytes-preserved : goal.bytes-preserved
bytes-preserved c = record {
  kept = take_more_set c.bytes.digits c.bytes.count (get_or c.args.text.now c.bytes.byte-index 0) (omega arith)
      ∙ digit_adds_one c.args.text.now _ c.bytes.byte-index (omega arith) c.bytes.invariant.kept (sym c.if-is_blank.ensures);
  size = length-set c.bytes.digits c.bytes.count (get_or c.args.text.now c.bytes.byte-index 0) ∙ c.bytes.invariant.size;
  room = omega arith;
}

pub returns-then-count-eq40-2 : goal.returns-then-count-eq40-2
returns-then-count-eq40-2 c =
    sym (take_all c.bytes.count c.bytes.digits (omega arith)) ∙ c.bytes.invariant.kept ∙ ap squeezed (take_all c.bytes.byte-index c.args.text.now (omega arith))
