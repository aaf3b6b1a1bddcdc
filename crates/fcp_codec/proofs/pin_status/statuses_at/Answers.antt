use Rattle.std.proofs.Common.{sym, ◌∙◌, arith}
use Rattle.fcp_codec.specs.PinStatus.{status_of}
use Rattle.fcp_codec.proofs.Listing.{one_status, no_status, one_longer}
use Rattle.fcp_codec.proofs.pin_status.statuses_at.Goals as goal
use Rattle.fcp_codec.proofs.pin_status.statuses_at.Goals.{in-Some, in_default}

pub loop-key-preserved : goal.loop-key-preserved
loop-key-preserved c = elim c.match-status_of.branch [
  | in-Some w ↦ (one_status (status_of c.args.path.now c.args.pins.now) c.args.keys.now c.loop-key.key-index _ _ w.in-Some.status c.loop-key-test.true (sym c.status_of.ensures ∙ w.in-Some.is) (w.statuses-is ∙ w.push.ensures) ∙ c.loop-key.invariant.0, one_longer _ _ _ _ (w.statuses-is ∙ w.push.ensures) c.loop-key.invariant.1)
  | in_default w ↦ (no_status (status_of c.args.path.now c.args.pins.now) c.args.keys.now c.loop-key.key-index _ _ c.loop-key-test.true (sym c.status_of.ensures ∙ w.in_default.is) w.statuses-is ∙ c.loop-key.invariant.0, grind arith)
]
