use Rattle.std.proofs.Common.{◌∙◌, sym}
use Rattle.authorizations.proofs.MeetLemmas.{intersection-empty, meet_taken, meet_passed}
use Rattle.authorizations.proofs.meeting.meet.Goals.{then-contains+in_ok-insert, else-contains}
use Rattle.authorizations.proofs.meeting.meet.Goals as goal

pub loop-key-init : goal.loop-key-init
loop-key-init c = c.new-keys.ensures ∙ sym (intersection-empty c.args.b.now)

pub loop-key-preserved : goal.loop-key-preserved
loop-key-preserved c = elim c.if-contains.branch [
  | then-contains+in_ok-insert w ↦ meet_taken _ c.loop-key.key-index _ _ _ _ c.loop-key-test.true c.loop-key.invariant (sym c.contains.ensures ∙ w.if-contains.true) (w.keys-is ∙ w.in_ok-insert.ensures.ok)
  | else-contains w ↦ meet_passed _ c.loop-key.key-index _ _ _ _ c.loop-key-test.true c.loop-key.invariant (sym c.contains.ensures ∙ w.if-contains.false) w.keys-is
]
