-- A card between two statements.
use Rattle.std.specs.Prelude.{ℕ, ◌≡◌, ◌<◌, ◌^◌, ⊤, IfSome, length}
use Rattle.std.specs.List.{AllByRecursion}
use Rattle.record_codec.specs.IsDurable.{IsDurable, IsHead}
use Rattle.uicc_channels.specs.Session.{Suits}
use Rattle.card_core.specs.LoadState.{LoadState}
use Rattle.card_core.specs.Port.{content_on}
use Rattle.card_core.specs.World.{WorldState, port_in}
use Rattle.card_core.specs.declared.event.Event.{Event}
use Rattle.card_core.specs.declared.event.Event.TheVariants.{Apdu as Bytes, Load, Power, Reset}
use Rattle.card_core.specs.declared.event.LoadStep.{LoadStep}
use Rattle.card_core.specs.declared.event.LoadStep.TheVariants.{Begin, End, Piece}

-- what it keeps is a card's, the port rule included, and each session names what is there in the
-- content at its port
pub record IsSoundState (state : WorldState) : Type 0 where
  pub are : IsDurable state.durable
  pub count : length state.ports ≡ state.durable.heads.ports.count
  pub sessions : (port : ℕ)
      → Suits (port_in state port).session (content_on state.durable port).rows

-- a load of a head that a card takes, and of bytes
pub record IsSoundLoad (load : LoadState) : Type 0 where
  pub head : IsHead load.head
  pub bytes : IfSome load.received (AllByRecursion (λ byte. byte < 2 ^ 8))

abbrev pub HasSoundLoads : WorldState → Type 0
HasSoundLoads state = (port : ℕ) → IfSome (port_in state port).load IsSoundLoad

abbrev pub IsOfBytes : LoadStep → Type 0
IsOfBytes (Begin metadata) = ⊤
IsOfBytes (Piece piece) = AllByRecursion (λ byte. byte < 2 ^ 8) piece
IsOfBytes End = ⊤

-- the piece of a package that it brings is one of bytes
abbrev pub BringsBytes : Event → Type 0
BringsBytes (Bytes port bytes) = ⊤
BringsBytes (Reset port) = ⊤
BringsBytes (Load port step) = IsOfBytes step
BringsBytes Power = ⊤
