use Rattle.std.proofs.Common.{◌≡◌, ◌*◌, ◌-◌, IfSome}
use Rattle.flash_pages.specs.Bank.{start_of}
use Rattle.flash_pages.specs.Bytes.{IsErased}
use Rattle.flash_pages.specs.Flash.{Touches, block_len}
use Rattle.card_journal.proofs.erase.erase_bank.Given as goal

abbrev pub invariant-erased : goal.invariant-erased
invariant-erased g l = record {
  erased : IfSome (g.F.Flash.state l.flash).bytes (IsErased (start_of l.fn.bank) (block_len * (l.block - l.fn.bank.first)));
  touches : Touches (start_of l.fn.bank) (block_len * l.fn.bank.blocks) (g.F.Flash.state l.initial.flash) (g.F.Flash.state l.flash);
  programmed : (g.F.Flash.state l.flash).programmed ≡ (g.F.Flash.state l.initial.flash).programmed;
}
