-- A statement of a port as it is made: a command, bytes that spell none, a reset, a step of a load.
use Rattle.std.specs.Prelude.{ℕ, ◌≡◌, ⊤, Bool, true, false, Option, length}
use Rattle.apdu_codec.specs.Command.{Apdu, IsCommand, Spells, apdu_of, refusal}
use Rattle.card_core.specs.Load.{HasRoomForPiece}
use Rattle.card_core.specs.LoadState.{LoadState}
use Rattle.card_core.specs.Stretch.{PortView, is_shared_at}
use Rattle.card_core.specs.declared.event.Event.{Event}
use Rattle.card_core.specs.declared.event.Event.TheVariants.{Apdu as Bytes, Load, Reset}
use Rattle.card_core.specs.declared.event.LoadStep.{LoadStep}
use Rattle.card_core.specs.declared.event.LoadStep.TheVariants as steps
use Rattle.port_lanes.specs.declared.coming.Coming.{Coming}
use Rattle.port_lanes.specs.declared.coming.Coming.TheVariants.{Begins, Command, Ends, Feeds}
use Rattle.port_lanes.specs.declared.coming.Coming.TheVariants.{Resets, Unspelled}

abbrev pub ComesAsStep : LoadStep → Coming → Type 0
ComesAsStep (steps.Begin metadata) (Begins its) = its.now ≡ metadata
ComesAsStep (steps.Piece piece) (Feeds its) = its.now ≡ piece
ComesAsStep steps.End Ends = ⊤
ComesAsStep step _ = ⊥

-- it is what an event of a port comes to, as far as the bytes alone tell
abbrev pub Comes : Event → Coming → Type 0
Comes (Bytes port bytes) (Command c) = Spells bytes (apdu_of c)
Comes (Bytes port bytes) (Unspelled sw) =
    ((c : Apdu) → ¬ Spells bytes c) × (sw ≡ refusal bytes)
Comes (Reset port) Resets = ⊤
Comes (Load port step) coming = ComesAsStep step coming
Comes event _ = ⊥

-- at a port where that is seen, it needs the card as a whole
abbrev pub needs_all : PortView → Coming → Bool
needs_all view (Command c) = is_shared_at view (apdu_of c)
needs_all view Ends = true
needs_all view _ = false

-- a command is one that some bytes spell
abbrev pub IsComing : Coming → Type 0
IsComing (Command c) = IsCommand c
IsComing _ = ⊤

-- the load there takes the bytes of a package
abbrev pub HasRoomForComing : Option LoadState → Coming → Type 0
HasRoomForComing load (Feeds piece) = HasRoomForPiece load piece.now
HasRoomForComing load _ = ⊤

-- how many bytes of a package it brings
abbrev pub bytes_coming : Coming → ℕ
bytes_coming (Feeds piece) = length piece.now
bytes_coming _ = 0
