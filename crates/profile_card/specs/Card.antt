use Rattle.std.specs.Prelude.{ℕ, Bool, false, Option, List, option_map, unwrap_or}
use Rattle.access_rules.specs.Met.{allowed}
use Rattle.file_rows.specs.PinRow.{is_verified}
use Rattle.file_rows.specs.Content.{IsValid}
use Rattle.file_rows.specs.declared.mode.Mode.{Mode}
use Rattle.file_rows.specs.declared.content.Content.{Content}
use Rattle.port_table.specs.PortMode.{has_isdr}
use Rattle.port_table.specs.declared.port_mode.PortMode.{PortMode}
use Rattle.uicc_channels.specs.CommandOutcome.{CommandOutcome, outcome_of}
use Rattle.uicc_channels.specs.Session.{Suits}
use Rattle.uicc_channels.specs.declared.decided.Decided.{Decided}
use Rattle.uicc_channels.specs.declared.session.Session.{Session}
use Rattle.uicc_channels.specs.CarriesOut.{CanCarryOut, content_after}

-- a card of one profile: what it holds, its session, how the ports are shared, and its port, where
-- it stands on one
pub record Card : Type 0 where
  pub content : Content
  pub session : Session
  pub mode : PortMode
  pub port : Option ℕ

-- whether the ISD-R may be selected at the card
abbrev pub isdr_here : Card → Bool
isdr_here card = unwrap_or (option_map (has_isdr card.mode) card.port) false

-- what the access rules of the card allow in its session
abbrev pub allowed_at : Card → List ℕ → Mode → Bool
allowed_at card path mode = allowed card.content (is_verified card.session.verified) path mode

-- the card holds what a card may hold, and its session names what is there
pub record IsSound (card : Card) : Type 0 where
  pub content : IsValid card.content
  pub session : Suits card.session card.content.rows

-- what a decision comes to at a card
abbrev pub outcome_at : Card → Decided → CommandOutcome
outcome_at card decided = outcome_of card.session decided

-- a card may follow what a command comes to
abbrev pub MayFollow : Card → CommandOutcome → Type 0
MayFollow card outcome = CanCarryOut card.content outcome

-- the card once what a command comes to is carried out
abbrev pub card_after : Card → CommandOutcome → Card
card_after card outcome =
    record card { content = content_after card.content outcome.change; session = outcome.session }

-- the card once a decision is carried out
abbrev pub settled : Card → Decided → Card
settled card decided = card_after card (outcome_at card decided)
