use Rattle.std.proofs.Common.{◌-◌, IfSome}
use Rattle.card_journal.specs.Read.{OnlyReads, ReadUpTo}
use Rattle.flash_pages.specs.Bank.{IsPlaceIn, end_of}
use Rattle.record_codec.specs.IsDurable.{IsDurable}
use Rattle.card_journal.proofs.reading.read_bank.Given as goal

abbrev pub invariant-rows : goal.invariant-rows
invariant-rows g l = record {
  place : IsPlaceIn l.bank l.at;
  valid : IfSome l.held IsDurable;
  read : IfSome (g.F.Flash.state l.initial.flash).bytes (λ image. ReadUpTo l.bank image l.held l.at);
  reads : OnlyReads (g.F.Flash.state l.initial.flash) (g.F.Flash.state l.flash);
}

abbrev pub decreases-rows : goal.decreases-rows
decreases-rows g l = end_of l.bank - l.at
