use Rattle.std.proofs.Common.{refl}
use Rattle.card_journal.proofs.SwitchLemmas.{row_same}
use Rattle.card_journal.specs.StoreState.{NeedsSwitch}
use Rattle.card_journal.proofs.StoreLemmas.{commits_failed}
use Rattle.card_journal.specs.Store.{store_of}
use Rattle.card_journal.specs.Stored.{HoldsWith}
use Rattle.flash_pages.proofs.Throughout.{Throughout-begin}
use Rattle.card_journal.proofs.HeldCardLemmas.{listed_puts}
use Rattle.card_journal.proofs.store.BankStore.commit.Goals as goal

pub returns-in_err-room-clause-atomic : goal.returns-in_err-room-clause-atomic
returns-in_err-room-clause-atomic g c = λ kept.
    let store = c.args.self.now in
    commits_failed (store_of g.F.Flash.state store) (store_of g.F.Flash.state store) c.args.entry.now
    (Throughout-begin 2433 (g.F.Flash.state store.flash) (HoldsWith store.held store.unrepaired) (g.met.F.Flash.lawful store.flash)
    kept)
    kept

pub returns-in_err-copy-clause-atomic : goal.returns-in_err-copy-clause-atomic
returns-in_err-copy-clause-atomic g c = λ kept.
    let store = c.args.self.now in
    commits_failed (store_of g.F.Flash.state store) (store_of g.F.Flash.state store) c.args.entry.now
    (Throughout-begin 2433 (g.F.Flash.state store.flash) (HoldsWith store.held store.unrepaired) (g.met.F.Flash.lawful store.flash)
    kept)
    kept

pub returns-in_err-room-clause-switch_row : goal.returns-in_err-room-clause-switch_row
returns-in_err-room-clause-switch_row g c =
    let store = c.args.self.now in
    row_same (g.F.Flash.state store.flash) (g.F.Flash.state store.flash) (NeedsSwitch (store_of g.F.Flash.state store) c.args.entry.now) refl

pub returns-in_err-copy-clause-switch_row : goal.returns-in_err-copy-clause-switch_row
returns-in_err-copy-clause-switch_row g c =
    let store = c.args.self.now in
    row_same (g.F.Flash.state store.flash) (g.F.Flash.state store.flash) (NeedsSwitch (store_of g.F.Flash.state store) c.args.entry.now) refl

pub returns-in-Ok-clause-switched : goal.returns-in-Ok-clause-switched
returns-in-Ok-clause-switched g c = c.in-Ok.ensures.switched

pub returns-in-Ok-clause-next : goal.returns-in-Ok-clause-next
returns-in-Ok-clause-next g c = c.in-Ok.ensures.next

pub returns-in_err-room-clause-memory : goal.returns-in_err-room-clause-memory
returns-in_err-room-clause-memory g c = λ is. (refl, c.in_err-room.ensures.only)

pub returns-in_err-copy-clause-memory : goal.returns-in_err-copy-clause-memory
returns-in_err-copy-clause-memory g c = λ is.
    (refl, listed_puts c.args.entry.now c.in_err-copy.ensures.only c.requires.takes.later)
