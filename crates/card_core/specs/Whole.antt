-- A whole card, as a program keeps it.
use Rattle.std.specs.Prelude.{ℕ, ◌≡◌, ◌+◌, ◌<◌, ◌^◌, ◌++◌, ⊤, map}
use Rattle.record_codec.specs.IsDurable.{IsDurable}
use Rattle.card_core.specs.AtPort.{AreAtPorts, port_state}
use Rattle.card_core.specs.Load.{HasRoomForPiece}
use Rattle.card_core.specs.World.{Made, WorldState, port_in}
use Rattle.card_core.specs.declared.event.Event.{Event}
use Rattle.card_core.specs.declared.event.Event.TheVariants.{Apdu as Bytes, Load, Power, Reset}
use Rattle.card_core.specs.declared.event.LoadStep.{LoadStep}
use Rattle.card_core.specs.declared.event.LoadStep.TheVariants.{Begin, End, Piece}
use Rattle.card_core.specs.declared.world.World.{World}

abbrev pub world_state : World → WorldState
world_state world = record {
  durable = world.durable;
  ports = map port_state world.ports.items;
  shared = world.shared;
  commits = world.commits;
}

-- what it keeps is a card's, and each of its ports has the card that stands there
pub record IsWholeCard (world : World) : Type 0 where
  pub are : IsDurable world.durable
  pub at : AreAtPorts world.durable world.ports.items

-- one more statement may come to that port
pub record MayGoOn (state : WorldState) (port : ℕ) : Type 0 where
  pub here : port < state.durable.heads.ports.count
  pub statements : (port_in state port).statements + 1 < 2 ^ 32
  pub shared : state.shared + 1 < 2 ^ 32
  pub commits : state.commits + 1 < 2 ^ 32

abbrev pub IsReadyForStep : WorldState → ℕ → LoadStep → Type 0
IsReadyForStep state port (Begin metadata) = MayGoOn state port
IsReadyForStep state port (Piece piece) =
    MayGoOn state port × HasRoomForPiece (port_in state port).load piece
IsReadyForStep state port End = MayGoOn state port

-- the event may come to the card
abbrev pub IsReadyFor : WorldState → Event → Type 0
IsReadyFor state (Bytes port bytes) = MayGoOn state port
IsReadyFor state (Reset port) = MayGoOn state port
IsReadyFor state (Load port step) = IsReadyForStep state port step
IsReadyFor state Power = ⊤

-- a statement took the card there, and its lines stand in the log behind the others
pub record Came (before after : World) (made : Made) : Type 0 where
  pub state : world_state after ≡ made.state
  pub entries : after.entries ≡ before.entries ++ made.entries
  pub whole : IsWholeCard after
