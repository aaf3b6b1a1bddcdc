use Rattle.std.proofs.Common.{◌≡◌, drop}
use Rattle.card_journal.specs.Pool.{head_at}
use Rattle.card_journal.proofs.pool.fits.head_at.Given as goal

abbrev pub invariant-loop-head : goal.invariant-loop-head
invariant-loop-head l = head_at l.path (drop l.head-index l.heads) ≡ head_at l.path l.heads
