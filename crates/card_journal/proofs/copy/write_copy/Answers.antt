use Rattle.std.proofs.Common.{◌*◌, subst}
use Rattle.flash_pages.specs.Bank.{start_of}
use Rattle.flash_pages.specs.Flash.{Touches}
use Rattle.flash_pages.specs.declared.bank.Bank.{Bank}
use Rattle.flash_pages.proofs.Touched.{Touches-trans}
use Rattle.card_journal.specs.Image.{bank_of}
use Rattle.card_journal.proofs.copy.write_copy.Goals as goal

pub returns-clause-touches : goal.returns-clause-touches
returns-clause-touches g c =
    let start = g.F.Flash.state c.args.flash.now in
    let erased = g.F.Flash.state c.erase_bank.new.flash in
    let after = g.F.Flash.state c.append_copy.new.flash in
    Touches-trans 2433 (start_of (bank_of c.args.idle)) 4980736 start erased after (g.met.F.Flash.lawful c.append_copy.new.flash)
    (subst (λ (b : Bank). Touches (start_of b) (4096 * b.blocks) start erased) c.bank_of.ensures c.erase_bank.ensures.touches)
    c.append_copy.ensures.touches
