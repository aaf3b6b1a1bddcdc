use Rattle.record_codec.specs.IsDurable.{IsDurable}
use Rattle.card_journal.proofs.tests.folding.fold_200.Given as goal

abbrev pub invariant-records : goal.invariant-records
invariant-records g l = IsDurable l.before × IsDurable l.after
