use Rattle.std.proofs.Common.{◌+◌, ◌*◌, ◌<◌, ◌≤◌, IfSome}
use Rattle.card_journal.specs.Image.{bank_of}
use Rattle.flash_pages.specs.Bank.{start_of}
use Rattle.flash_pages.specs.Flash.{IsSettled, Touches, block_len}
use Rattle.card_journal.proofs.CopyRowLemmas.{CopiedUpTo}
use Rattle.card_journal.proofs.copy.append_copy.Given as goal

abbrev pub invariant-copies : goal.invariant-copies
invariant-copies g l = record {
  behind : start_of (bank_of l.idle) ≤ l.at;
  few : l.at ≤ start_of (bank_of l.idle) + 77605 * l.place;
  so_far : IfSome (g.F.Flash.state l.flash).bytes (CopiedUpTo l.held l.idle l.place l.at);
  settled : 0 < l.place → IsSettled (g.F.Flash.state l.flash);
  touches : Touches (start_of (bank_of l.idle)) (block_len * 1216) (g.F.Flash.state l.initial.flash) (g.F.Flash.state l.flash);
}
