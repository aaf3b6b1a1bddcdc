use Rattle.std.proofs.Common.{◌-◌}
use Rattle.flash_pages.specs.Bank.{end_of, IsPlaceIn}
use Rattle.card_journal.proofs.tests.filling.read_rows.Given as goal

abbrev pub invariant-rows : goal.invariant-rows
invariant-rows g l = IsPlaceIn l.bank l.at

abbrev pub decreases-rows : goal.decreases-rows
decreases-rows g l = end_of l.bank - l.at
