use Rattle.std.proofs.Common.{◌-◌, ◌≤◌, IfSome}
use Rattle.card_journal.specs.Read.{OnlyReads}
use Rattle.flash_pages.specs.Bytes.{IsErased}
use Rattle.card_journal.proofs.blank.first_used.Given as goal

abbrev pub invariant-pieces : goal.invariant-pieces
invariant-pieces g l = record {
  behind : l.from ≤ l.at;
  within : l.at ≤ l.to;
  erased : IfSome (g.F.Flash.state l.initial.flash).bytes (IsErased l.from (l.at - l.from));
  reads : OnlyReads (g.F.Flash.state l.initial.flash) (g.F.Flash.state l.flash);
}

abbrev pub decreases-pieces : goal.decreases-pieces
decreases-pieces g l = l.to - l.at
