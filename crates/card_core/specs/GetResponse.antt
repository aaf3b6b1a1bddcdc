-- GET RESPONSE on a channel where the ISD-R is selected (ETSI TS 102 221): the reply from where it
-- stopped.
use Rattle.std.specs.Prelude.{ℕ, ◌==◌, ◌&&◌, drop, unwrap_or}
use Rattle.apdu_codec.specs.Command.{Apdu}
use Rattle.uicc_channels.specs.GetResponse.{giving_refusal}
use Rattle.uicc_channels.specs.Shape.{has_le_alone, shape_refusal}
use Rattle.card_core.specs.DeskOutcome.{DeskOutcome, desk_answer, from_front, desk_refused_or}
use Rattle.card_core.specs.declared.exchange.Exchange.{Exchange}

-- the next bytes of the reply are given
abbrev pub given : Exchange → ℕ → DeskOutcome
given exchange le =
    desk_answer (from_front le exchange.unsent)
    (record exchange { unsent = drop le exchange.unsent })

-- refused for its class, for P1 and P2 other than 00, for a body or no Le, and then where nothing
-- waits or less than Le asks for
abbrev pub get_response : Exchange → Apdu → DeskOutcome
get_response exchange c =
    desk_refused_or (shape_refusal c ((c.p1 == 0x00) && (c.p2 == 0x00)) (has_le_alone c)) exchange
    (desk_refused_or (giving_refusal exchange.unsent (unwrap_or c.le 0)) exchange
    (given exchange (unwrap_or c.le 0)))
