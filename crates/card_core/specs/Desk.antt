-- The desk of a port: what is under way on its channels where the ISD-R is selected.
use Rattle.std.specs.Prelude.{ℕ, Bool, ◌≡◌, ◌==◌, ◌&&◌, if◌then◌else◌, List, replicate}
use Rattle.std.specs.Prelude.{slice_index_or, slice_set, Option, Some, None}
use Rattle.std.specs.List.{list_any}
use Rattle.apdu_codec.specs.Command.{Apdu}
use Rattle.apdu_codec.specs.declared.status.Sw.{Sw}
use Rattle.apdu_codec.specs.declared.status.TheConstants.Sw.{WRONG_INSTRUCTION}
use Rattle.isdr_commands.specs.declared.moves.Move.{Move}
use Rattle.record_codec.specs.declared.durable.Heads.{Heads}
use Rattle.uicc_channels.specs.Accepted.{is_accepted}
use Rattle.card_core.specs.DeskOutcome.{DeskOutcome, desk_refusal}
use Rattle.card_core.specs.Exchange.{idle, uncollected}
use Rattle.card_core.specs.GetResponse.{get_response}
use Rattle.card_core.specs.StoreData.{block_refusal, store_form_refusal, store_data}
use Rattle.card_core.specs.declared.desk.Desk.{Desk}
use Rattle.card_core.specs.declared.exchange.Exchange.{Exchange}

-- what is under way on the channel of that number
abbrev pub exchange_at : Desk → ℕ → Exchange
exchange_at desk channel = slice_index_or desk.channels channel idle

-- the desk with this under way on a channel
abbrev pub with_exchange : Desk → ℕ → Exchange → Desk
with_exchange desk channel exchange =
    record desk { channels = slice_set desk.channels channel exchange }

-- nothing is under way on any of the four channels
abbrev pub empty_desk : Desk
empty_desk = record { channels = replicate 4 idle }

-- what a command on a channel with the ISD-R comes to that came on this port, by the heads and by
-- which ports have a REFRESH that isn't over: STORE DATA and GET RESPONSE are the desk's
abbrev pub desk_outcome : Desk → Heads → List Bool → ℕ → Apdu → DeskOutcome
desk_outcome desk heads busy port c =
    let exchange = exchange_at desk c.channel in
    if c.ins == 0xE2 then store_data exchange heads busy port c
    else (if c.ins == 0xC0 then get_response exchange c
    else desk_refusal exchange WRONG_INSTRUCTION)

-- the only commands for which memory may be wanting: a STORE DATA whose block is taken
pub record TakesBlock (desk : Desk) (c : Apdu) : Type 0 where
  pub instruction : c.ins ≡ 0xE2
  pub form : store_form_refusal c ≡ None
  pub block : block_refusal (exchange_at desk c.channel).collection c ≡ None

-- with a fresh session nothing is under way; of a kept channel the unsent reply stays
abbrev pub fresh_desk : Desk → Option ℕ → Desk
fresh_desk desk None = empty_desk
fresh_desk desk (Some kept) = with_exchange empty_desk kept (uncollected (exchange_at desk kept))

-- whether one of the moves is at that port
abbrev pub moves_at : ℕ → List Move → Bool
moves_at port moves = list_any (λ move. move.port == port) moves

-- the desk of the port on which a command came, with this under way on its channel afterwards;
-- where the port itself moves, its session is fresh but for that channel
abbrev pub desk_with : Desk → ℕ → ℕ → List Move → Exchange → Desk
desk_with desk port channel moves exchange =
    let after = with_exchange desk channel exchange in
    if moves_at port moves then fresh_desk after (Some channel) else after

-- the desk after a command for which memory was wanting or whose record wasn't stored: what a STORE
-- DATA fed is dropped
abbrev pub failed_desk : Desk → Apdu → Desk
failed_desk desk c =
    if c.ins == 0xE2
    then with_exchange desk c.channel (uncollected (exchange_at desk c.channel)) else desk

-- the channel that a command of the card itself takes from the ISD-R: its own by an accepted
-- SELECT, another by an accepted MANAGE CHANNEL that closes it
abbrev pub left_channel : Apdu → Sw → Option ℕ
left_channel c sw =
    if is_accepted sw
    then (if c.ins == 0xA4 then Some c.channel
    else (if (c.ins == 0x70) && (c.p1 == 0x80) then Some c.p2 else None))
    else None

-- nothing is under way on a channel that was left
abbrev pub without_channel : Desk → Option ℕ → Desk
without_channel desk None = desk
without_channel desk (Some channel) = with_exchange desk channel idle
