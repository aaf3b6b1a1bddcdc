-- The store as a section begins, which its name says.
use Rattle.std.specs.Prelude.{◌≡◌, ◌↔◌, ℕ, List, None, false, replicate}
use Rattle.card_journal.specs.CardStoreState.{CardStoreState}
use Rattle.card_journal.specs.Made.{made_card}
use Rattle.flash_pages.specs.Flash.{FlashState}
use Rattle.port_table.specs.declared.port_mode.PortMode.TheVariants.{B}

-- two flashes of which the same is seen
pub record SameFlash (one other : FlashState) : Type 0 where
  pub bytes : one.bytes ≡ other.bytes
  pub may_leave : (content : List ℕ) → one.may_leave content ↔ other.may_leave content
  pub moment : one.moment ≡ other.moment
  pub images : (since : ℕ) (image : List ℕ) → one.images since image ↔ other.images since image
  pub images_known : one.images_known ≡ other.images_known
  pub programmed : one.programmed ≡ other.programmed
  pub erased : one.erased ≡ other.erased
  pub faults : one.faults ≡ other.faults

-- two stores of which the same is seen
pub record SameStore (one other : CardStoreState) : Type 0 where
  pub held : one.held ≡ other.held
  pub unrepaired : one.unrepaired ≡ other.unrepaired
  pub flash : SameFlash one.flash other.flash

-- a new card, over a flash that tells nothing: the store of no section
abbrev pub no_store : CardStoreState
no_store = record {
  held = made_card B 1 (replicate 16 0);
  unrepaired = None;
  flash = record {
    bytes = None;
    may_leave = λ content. ⊥;
    moment = 0;
    images = λ since image. ⊥;
    images_known = false;
    programmed = 0;
    erased = 0;
    faults = 0;
  };
}
