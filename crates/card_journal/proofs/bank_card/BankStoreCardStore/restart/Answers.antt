use Rattle.std.proofs.Common.{◌≡◌, None, IfSome, Result, Ok, Err, OnOk}
use Rattle.card_journal.proofs.AppendLemmas.{holds_card}
use Rattle.card_journal.specs.CardStoreState.{OpensUsedUp}
use Rattle.card_journal.specs.Image.{HoldsCard}
use Rattle.card_journal.specs.Store.{store_of}
use Rattle.card_journal.specs.StoreState.{IsUsable, IsUsedUp, IsWorn, OpensTorn, StoreState}
use Rattle.card_journal.specs.Stored.{EndsClean, EndsTorn}
use Rattle.flash_pages.specs.Flash.{FlashState}
use Rattle.flash_pages.proofs.Touched.{at_some, from_each}
use Rattle.card_journal.proofs.bank_card.BankStoreCardStore.restart.Goals as goal

-- a store that was opened holds what its flash holds
opened_holds : {T E : Type 0} (r : Result T E) (store : StoreState) → OnOk r (IsUsable store) → OnOk r (store.unrepaired ≡ None)
    → OnOk r (IfSome store.flash.bytes (λ image. HoldsCard image store.held))
opened_holds (Ok x) store usable none = from_each store.flash.bytes _ (λ image is.
    holds_card store.held store.live store.end image (at_some store.flash.bytes (EndsClean store.held store.live store.end) image is (usable.ends none)))
opened_holds (Err e) store usable none = tt

torn_used_up : (s : FlashState) → IfSome s.bytes EndsTorn → IsWorn s → IfSome s.bytes (OpensUsedUp OpensTorn IsUsedUp)
torn_used_up s torn worn = from_each s.bytes _ (λ image is. (0, at_some s.bytes EndsTorn image is torn, at_some s.bytes (IsUsedUp 0) image is worn))

pub returns-clause-holds : goal.returns-clause-holds
returns-clause-holds g c =
    opened_holds c.restart.result (store_of g.F.Flash.state c.restart.new.self) c.restart.ensures.usable c.restart.ensures.repaired

pub returns-clause-worn : goal.returns-clause-worn
returns-clause-worn g c = λ is.
    let worn = c.restart.ensures.worn is in torn_used_up (g.F.Flash.state c.restart.new.self.flash) worn.0 worn.1
