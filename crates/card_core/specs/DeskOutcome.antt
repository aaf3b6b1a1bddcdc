-- What a command comes to on a channel where the ISD-R is selected.
use Rattle.std.specs.Prelude.{ℕ, List, [], take, drop, Option, Some, None}
use Rattle.apdu_codec.specs.Answer.{status_alone}
use Rattle.apdu_codec.specs.declared.answers.Answer.{Answer}
use Rattle.apdu_codec.specs.declared.status.Sw.{Sw}
use Rattle.isdr_commands.specs.declared.moves.Move.{Move}
use Rattle.record_codec.specs.declared.record.Record.{Record}
use Rattle.uicc_channels.specs.GetResponse.{rest_status}
use Rattle.card_core.specs.Exchange.{uncollected}
use Rattle.card_core.specs.declared.exchange.Exchange.{Exchange}

-- its answer, what is then under way on the channel, its record, where it has one, and the ports
-- that move
pub record DeskOutcome : Type 0 where
  pub answer : Answer
  pub exchange : Exchange
  pub entry : Option Record
  pub moves : List Move

-- an answer, and this under way
abbrev pub desk_answer : Answer → Exchange → DeskOutcome
desk_answer answer exchange =
    record { answer = answer; exchange = exchange; entry = None; moves = [] }

-- refused, and nothing changes
abbrev pub desk_refusal : Exchange → Sw → DeskOutcome
desk_refusal exchange sw = desk_answer (status_alone sw) exchange

-- refused, and the blocks that have come are dropped
abbrev pub dropped : Exchange → Sw → DeskOutcome
dropped exchange sw = desk_answer (status_alone sw) (uncollected exchange)

abbrev pub desk_refused_or : Option Sw → Exchange → DeskOutcome → DeskOutcome
desk_refused_or None exchange done = done
desk_refused_or (Some sw) exchange done = desk_refusal exchange sw

abbrev pub dropped_or : Option Sw → Exchange → DeskOutcome → DeskOutcome
dropped_or None exchange done = done
dropped_or (Some sw) exchange done = dropped exchange sw

-- a reply from the front, as many bytes as an Le asks for: `61XX` with the number of those that are
-- left, 256 or more of which are 00, or `9000` with the last
abbrev pub from_front : ℕ → List ℕ → Answer
from_front le reply =
    record { body = take le reply; sw = rest_status (take 256 (drop le reply)) }
