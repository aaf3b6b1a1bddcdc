-- A store in two banks, as contracts see it.
use Rattle.card_journal.specs.StoreState.{StoreState}
use Rattle.card_journal.specs.declared.store.BankStore.{BankStore}
use Rattle.flash_pages.specs.Flash.{FlashState}

abbrev pub store_of : {F : Type 0} → (F → FlashState) → BankStore F → StoreState
store_of state store = record {
  held = store.held;
  unrepaired = store.unrepaired;
  flash = state store.flash;
  live = store.live;
  end = store.end;
}
