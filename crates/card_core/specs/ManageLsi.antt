-- MANAGE LSI on an open channel: the number of ports, or the reset of one of them.
use Rattle.std.specs.Prelude.{ℕ, ◌+◌, ◌==◌, if◌then◌else◌, List, [], ◌∷◌, None, Result, Ok, Err}
use Rattle.apdu_codec.specs.Answer.{status_alone}
use Rattle.apdu_codec.specs.Command.{Apdu}
use Rattle.apdu_codec.specs.declared.status.Sw.{Sw}
use Rattle.apdu_codec.specs.declared.status.TheConstants.Sw.{OK}
use Rattle.lsi_refresh.specs.Lsi.{count_body, lsi_of}
use Rattle.lsi_refresh.specs.declared.lsi.Lsi.{Lsi}
use Rattle.lsi_refresh.specs.declared.lsi.Lsi.TheVariants.{Count, Reset}
use Rattle.card_core.specs.PortState.{counted, reset_port}
use Rattle.card_core.specs.World.{Made, WorldState, answered_alone, answered_line, entry_at}
use Rattle.card_core.specs.World.{next_maker, port_in, with_port}
use Rattle.card_core.specs.declared.entry.Entry.{Entry}
use Rattle.card_core.specs.declared.entry.Line.TheVariants.{ForeignReset}

-- the reset of another port has a line there; that of the own port is told by the statement's line
abbrev pub foreign_line : WorldState → ℕ → ℕ → List Entry
foreign_line state came port =
    if port == came then [] else entry_at state port (ForeignReset (next_maker state came)) ∷ []

-- the port on which it came has one more statement
abbrev pub counted_at : WorldState → ℕ → WorldState
counted_at state came = with_port state came (counted (port_in state came))

-- that port gets a fresh session, and its load stays
abbrev pub reset_at : WorldState → ℕ → WorldState
reset_at state port = with_port state port (reset_port None (port_in state port))

-- a shared statement that resets a port
abbrev pub lsi_reset : WorldState → ℕ → ℕ → Made
lsi_reset state came port = record {
  state = record (reset_at (counted_at state came) port) { shared = state.shared + 1 };
  entries = answered_line state came (status_alone OK) ∷ foreign_line state came port;
}

abbrev pub lsi_asked_for : WorldState → ℕ → Result Lsi Sw → Made
lsi_asked_for state came (Ok Count) = answered_alone state came
    (record { body = count_body state.durable.heads.ports.count; sw = OK })
lsi_asked_for state came (Ok (Reset port)) = lsi_reset state came port
lsi_asked_for state came (Err sw) = answered_alone state came (status_alone sw)

abbrev pub lsi_made : WorldState → ℕ → Apdu → Made
lsi_made state came c = lsi_asked_for state came (lsi_of c state.durable.heads.ports.count)
