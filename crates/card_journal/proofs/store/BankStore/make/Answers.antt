use Rattle.std.proofs.Common.{sym, subst}
use Rattle.card_journal.specs.Made.{HoldsNoneOr}
use Rattle.flash_pages.specs.Flash.{LeavesOnly}
use Rattle.record_codec.specs.declared.durable.Durable.{Durable}
use Rattle.card_journal.proofs.store.BankStore.make.Goals as goal

pub returns-in-Ok-clause-images : goal.returns-in-Ok-clause-images
returns-in-Ok-clause-images g c =
    subst (λ (d : Durable). LeavesOnly (g.F.Flash.state c.args.flash) (g.F.Flash.state c.make_card.new.flash) (HoldsNoneOr d))
    (sym c.in-Ok.ensures.held) (c.make_card.ensures.images c.in-Ok.ensures.blank)
