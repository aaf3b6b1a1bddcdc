-- What stands at a port of a card beside what the card keeps over a power cut.
use Rattle.std.specs.Prelude.{ℕ, ◌+◌, false, Option, None}
use Rattle.uicc_channels.specs.Session.{fresh_session}
use Rattle.uicc_channels.specs.declared.session.Session.{Session}
use Rattle.card_core.specs.Desk.{empty_desk, fresh_desk}
use Rattle.card_core.specs.LoadState.{LoadState}
use Rattle.card_core.specs.declared.desk.Desk.{Desk}

-- the session of the card there, what is under way with the ISD-R, the load, where one was begun,
-- and how many statements came since the card was opened
pub record PortState : Type 0 where
  pub session : Session
  pub desk : Desk
  pub load : Option LoadState
  pub statements : ℕ

-- a port of a card that was just opened
abbrev pub fresh_port : PortState
fresh_port = record {
  session = fresh_session false None;
  desk = empty_desk;
  load = None;
  statements = 0;
}

-- the port with a fresh session, of which a channel may be kept; its load stays
abbrev pub reset_port : Option ℕ → PortState → PortState
reset_port kept port = record port {
  session = fresh_session false kept;
  desk = fresh_desk port.desk kept;
}

-- one more statement came
abbrev pub counted : PortState → PortState
counted port = record port { statements = port.statements + 1 }
