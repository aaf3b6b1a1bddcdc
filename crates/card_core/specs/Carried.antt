-- What the desk decided on a command is what the command comes to.
use Rattle.std.specs.Prelude.{ℕ, ◌≤◌, ⊤, List, [], drop, length, None}
use Rattle.apdu_codec.specs.declared.answers.Answer.{Answer}
use Rattle.isdr_commands.specs.declared.decision.Decision.{Decision}
use Rattle.card_core.specs.DeskOutcome.{DeskOutcome, from_front}
use Rattle.card_core.specs.Exchange.{no_collection, uncollected}
use Rattle.card_core.specs.declared.desk_decision.DeskDecision.{DeskDecision}
use Rattle.card_core.specs.declared.desk_decision.ExchangeChange.{ExchangeChange}
use Rattle.card_core.specs.declared.desk_decision.ExchangeChange.TheVariants.{Stays, Dropped}
use Rattle.card_core.specs.declared.desk_decision.ExchangeChange.TheVariants.{Collects, Replies}
use Rattle.card_core.specs.declared.desk_decision.ExchangeChange.TheVariants.{Sends}
use Rattle.card_core.specs.declared.exchange.Exchange.{Exchange}

-- what is under way after a change
abbrev pub exchange_after : Exchange → ExchangeChange → Exchange
exchange_after exchange Stays = exchange
exchange_after exchange Dropped = uncollected exchange
exchange_after exchange (Collects collection) = record { collection = collection; unsent = [] }
exchange_after exchange (Replies unsent) =
    record { collection = no_collection; unsent = unsent }
exchange_after exchange (Sends count) =
    record exchange { unsent = drop count exchange.unsent }

-- no more bytes of the reply are sent than are left
abbrev pub SendsWhatIsLeft : Exchange → ExchangeChange → Type 0
SendsWhatIsLeft exchange (Sends count) = count ≤ length exchange.unsent
SendsWhatIsLeft exchange _ = ⊤

-- what a decision comes to where this is under way
abbrev pub decided_outcome : Exchange → DeskDecision → DeskOutcome
decided_outcome exchange decision = record {
  answer = decision.answer;
  exchange = exchange_after exchange decision.exchange;
  entry = decision.entry;
  moves = decision.moves;
}

-- a decision that records nothing and moves no port
abbrev pub deciding : Answer → ExchangeChange → DeskDecision
deciding answer change = record { answer = answer; entry = None; moves = []; exchange = change }

-- a decision that answers a request from the front of its reply
abbrev pub replying : ℕ → List ℕ → Decision → DeskDecision
replying le reply decision = record {
  answer = from_front le reply;
  entry = decision.entry;
  moves = decision.moves;
  exchange = Replies (drop le reply);
}
