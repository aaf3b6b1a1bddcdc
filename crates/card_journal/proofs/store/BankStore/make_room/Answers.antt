use Rattle.std.proofs.Common.{refl, arith}
use Rattle.card_journal.proofs.StoreLemmas.{on_ok}
use Rattle.card_journal.proofs.SwitchLemmas.{row_same}
use Rattle.card_journal.proofs.SwitchedLemmas.{row_needed}
use Rattle.card_journal.specs.Store.{store_of}
use Rattle.card_journal.specs.StoreState.{NeedsSwitch}
use Rattle.card_journal.specs.Stored.{HoldsWith}
use Rattle.flash_pages.proofs.Throughout.{Throughout-begin}
use Rattle.card_journal.proofs.store.BankStore.make_room.Goals as goal

pub returns-then-not-needs_switch-clause-throughout : goal.returns-then-not-needs_switch-clause-throughout
returns-then-not-needs_switch-clause-throughout g c = λ kept.
    let store = c.args.self.now in
    Throughout-begin 2433 (g.F.Flash.state store.flash) (HoldsWith store.held store.unrepaired) (g.met.F.Flash.lawful store.flash) kept

pub returns-then-not-needs_switch-clause-row : goal.returns-then-not-needs_switch-clause-row
returns-then-not-needs_switch-clause-row g c =
    let store = c.args.self.now in
    row_same (g.F.Flash.state store.flash) (g.F.Flash.state store.flash) (NeedsSwitch (store_of g.F.Flash.state store) c.args.entry.now) refl

pub returns-clause-row : goal.returns-clause-row
returns-clause-row g c =
    let store = c.args.self.now in
    row_needed (g.F.Flash.state store.flash) (g.F.Flash.state c.repair.new.self.flash) (NeedsSwitch (store_of g.F.Flash.state store) c.args.entry.now)
    (c.needs_switch.ensures.needs c.if-not-needs_switch.false) c.repair.ensures.row

pub returns-clause-switched : goal.returns-clause-switched
returns-clause-switched g c = on_ok c.repair.result _ _ c.repair.ensures.switched (λ switched needed. switched)

pub returns-clause-next : goal.returns-clause-next
returns-clause-next g c = on_ok c.repair.result _ _ c.repair.ensures.next (λ next needed. next)

pub returns-clause-room : goal.returns-clause-room
returns-clause-room g c = on_ok c.repair.result _ _ c.repair.ensures.room (λ room. omega (arith, room, c.needs_switch.ensures.short))
