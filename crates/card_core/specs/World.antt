-- A whole card: what it keeps, what stands at each port, and what was counted since it was opened.
use Rattle.std.specs.Prelude.{ℕ, ◌+◌, Bool, true, false, List, [], ◌∷◌, replicate}
use Rattle.std.specs.Prelude.{slice_index_or, slice_set, Some, None}
use Rattle.apdu_codec.specs.declared.answers.Answer.{Answer}
use Rattle.profile_card.specs.Card.{Card}
use Rattle.record_codec.specs.declared.durable.Durable.{Durable}
use Rattle.uicc_channels.specs.declared.session.Session.{Session}
use Rattle.card_core.specs.Port.{content_on}
use Rattle.card_core.specs.PortState.{PortState, counted, fresh_port}
use Rattle.card_core.specs.declared.entry.Entry.{Entry}
use Rattle.card_core.specs.declared.entry.Line.{Line}
use Rattle.card_core.specs.declared.entry.Line.TheVariants.{Answered}
use Rattle.card_core.specs.declared.entry.Maker.{Maker}

pub record WorldState : Type 0 where
  -- what the card keeps over a power cut
  pub durable : Durable
  -- its ports, from 0
  pub ports : List PortState
  -- how many statements needed the card as a whole
  pub shared : ℕ
  -- how many records were carried out
  pub commits : ℕ

-- what a statement makes of a card, and the lines of the log that it adds
pub record Made : Type 0 where
  pub state : WorldState
  pub entries : List Entry

-- a card that was just opened
abbrev pub opened : Durable → WorldState
opened durable = record {
  durable = durable;
  ports = replicate durable.heads.ports.count fresh_port;
  shared = 0;
  commits = 0;
}

abbrev pub port_in : WorldState → ℕ → PortState
port_in state port = slice_index_or state.ports port fresh_port

abbrev pub with_port : WorldState → ℕ → PortState → WorldState
with_port state port its = record state { ports = slice_set state.ports port its }

-- the card at a port by what is kept: the content that stands there, in this session
abbrev pub card_on : Durable → ℕ → Session → Card
card_on durable port session = record {
  content = content_on durable port;
  session = session;
  mode = durable.heads.ports.mode;
  port = Some port;
}

-- the card at a port, as it is now
abbrev pub card_in : WorldState → ℕ → Card
card_in state port = card_on state.durable port (port_in state port).session

-- the statement that comes next at a port
abbrev pub next_maker : WorldState → ℕ → Maker
next_maker state port =
    record { port = port; number = (port_in state port).statements + 1 }

-- a line about a port, made while so many shared statements had come
abbrev pub entry_at : WorldState → ℕ → Line → Entry
entry_at state port line = record { turn = state.shared; port = port; line = line }

-- the line of the next statement at a port, which was answered so
abbrev pub answered_line : WorldState → ℕ → Answer → Entry
answered_line state port answer =
    entry_at state port (Answered (next_maker state port).number answer None)

-- a statement that is answered and changes nothing more
abbrev pub answered_alone : WorldState → ℕ → Answer → Made
answered_alone state port answer = record {
  state = with_port state port (counted (port_in state port));
  entries = answered_line state port answer ∷ [];
}

-- one more, where it is so
abbrev pub count_if : Bool → ℕ
count_if true = 1
count_if false = 0
