-- What each event makes of a card.
use Rattle.std.specs.Prelude.{ℕ, ◌≡◌, ◌⊎◌, ◌==◌, List, [], ◌∷◌, ◌++◌, if◌then◌else◌}
use Rattle.apdu_codec.specs.Answer.{status_alone}
use Rattle.apdu_codec.specs.Command.{Apdu, Spells, refusal}
use Rattle.profile_card.specs.Own.{is_common}
use Rattle.card_core.specs.IsdrCommand.{isdr_made}
use Rattle.card_core.specs.Load.{MakesEnd, begin_made, piece_made}
use Rattle.card_core.specs.ManageLsi.{lsi_made}
use Rattle.card_core.specs.OwnCommand.{own_made}
use Rattle.card_core.specs.PortReset.{reset_made}
use Rattle.card_core.specs.World.{Made, WorldState, answered_alone, opened, port_in}
use Rattle.card_core.specs.declared.entry.Entry.{Entry}
use Rattle.card_core.specs.declared.event.Event.{Event}
use Rattle.card_core.specs.declared.event.Event.TheVariants.{Apdu as Bytes, Load, Power, Reset}
use Rattle.card_core.specs.declared.event.LoadStep.{LoadStep}
use Rattle.card_core.specs.declared.event.LoadStep.TheVariants.{Begin, End, Piece}

-- a command at a port: the common part of the card answers MANAGE LSI, and on a channel with the
-- ISD-R STORE DATA and GET RESPONSE; all else is a command to the card of the port
abbrev pub command_made : WorldState → ℕ → Apdu → Made
command_made state port c =
    if is_common (port_in state port).session c
    then (if c.ins == 0x7A then lsi_made state port c else isdr_made state port c)
    else own_made state port c

-- bytes at a port: where they spell no command the card answers with their refusal
abbrev pub AnswersBytes : WorldState → ℕ → List ℕ → Made → Type 0
AnswersBytes state port bytes made =
    ((c : Apdu) × Spells bytes c × (made ≡ command_made state port c))
    ⊎ (((c : Apdu) → ¬ Spells bytes c)
    × (made ≡ answered_alone state port (status_alone (refusal bytes))))

abbrev pub MakesLoadStep : WorldState → ℕ → LoadStep → Made → Type 0
MakesLoadStep state port (Begin metadata) made = made ≡ begin_made state port metadata
MakesLoadStep state port (Piece piece) made = made ≡ piece_made state port piece
MakesLoadStep state port End made = MakesEnd state port made

-- an event takes a card to what it makes of it; with a power cycle the card is opened anew, and no
-- line tells of it
abbrev pub Makes : WorldState → Event → Made → Type 0
Makes state (Bytes port bytes) made = AnswersBytes state port bytes made
Makes state (Reset port) made = made ≡ reset_made state port
Makes state (Load port step) made = MakesLoadStep state port step made
Makes state Power made = made ≡ record { state = opened state.durable; entries = [] }

-- the events take a card, one after another, to this one, and the log gets these lines
abbrev pub MakesAll : WorldState → List Event → List Entry → WorldState → Type 0
MakesAll state [] entries after = (entries ≡ []) × (after ≡ state)
MakesAll state (event ∷ events) entries after =
    (made : Made) × (rest : List Entry) × Makes state event made
    × MakesAll made.state events rest after
    × (entries ≡ made.entries ++ rest)
