-- STORE DATA to the ISD-R (GlobalPlatform Card Specification, as GSMA SGP.22 uses it): a request in
-- blocks, which P2 numbers.
use Rattle.std.specs.Prelude.{ℕ, Bool, ◌+◌, ◌==◌, ◌||◌, nat_le, if◌then◌else◌, List, [], ◌∷◌, ◌++◌}
use Rattle.std.specs.Prelude.{length, drop, Option, unwrap_or, Result, Ok, Err}
use Rattle.apdu_codec.specs.Answer.{status_alone}
use Rattle.apdu_codec.specs.Command.{Apdu}
use Rattle.apdu_codec.specs.declared.status.Sw.{Sw}
use Rattle.apdu_codec.specs.declared.status.TheConstants.Sw.{OK, WRONG_DATA, WRONG_P1_P2}
use Rattle.isdr_codec.specs.Request.{request_of}
use Rattle.isdr_codec.specs.declared.request.Request.{Request}
use Rattle.isdr_commands.specs.Request.{answer_to, managed}
use Rattle.isdr_commands.specs.declared.decision.Decision.{Decision}
use Rattle.plain_lists.specs.FirstOf.{first_of}
use Rattle.record_codec.specs.declared.durable.Heads.{Heads}
use Rattle.uicc_channels.specs.Needs.{refused_unless}
use Rattle.uicc_channels.specs.Shape.{has_body, shape_refusal}
use Rattle.card_core.specs.DeskOutcome.{DeskOutcome, desk_answer, dropped, dropped_or, from_front}
use Rattle.card_core.specs.DeskOutcome.{desk_refused_or}
use Rattle.card_core.specs.Exchange.{no_collection}
use Rattle.card_core.specs.declared.exchange.Collection.{Collection}
use Rattle.card_core.specs.declared.exchange.Exchange.{Exchange}

-- P1 is 11 where more blocks follow, 91 for the last one
abbrev pub is_block : ℕ → Bool
is_block p1 = (p1 == 0x11) || (p1 == 0x91)

-- why a STORE DATA is refused by its form: its class, P1, a missing body
abbrev pub store_form_refusal : Apdu → Option Sw
store_form_refusal c = shape_refusal c (is_block c.p1) (has_body c)

-- block 00 begins anew; another one has to be the next
abbrev pub is_next : Collection → ℕ → Bool
is_next collection number = (number == 0x00) || (number == collection.blocks)

-- the bytes of the request before a block
abbrev pub bytes_before : Collection → ℕ → List ℕ
bytes_before collection number = if number == 0x00 then [] else collection.bytes

-- the bytes of the request with this block
abbrev pub bytes_with : Collection → Apdu → List ℕ
bytes_with collection c = bytes_before collection c.p2 ++ c.body

-- why its block isn't taken: it isn't the next one, or the request gets longer than 4,096 bytes
abbrev pub block_refusal : Collection → Apdu → Option Sw
block_refusal collection c = first_of
    (refused_unless (is_next collection c.p2) WRONG_P1_P2
    ∷ refused_unless (nat_le (length (bytes_with collection c)) 4096) WRONG_DATA ∷ [])

-- the blocks with this one
abbrev pub with_block : Collection → Apdu → Collection
with_block collection c = record { blocks = c.p2 + 1; bytes = bytes_with collection c }

-- a block that is taken drops what was unsent of the reply before
abbrev pub collected : Exchange → Apdu → DeskOutcome
collected exchange c =
    desk_answer (status_alone OK)
    (record { collection = with_block exchange.collection c; unsent = [] })

-- a request is answered from the front of its reply, and the rest is left unsent
abbrev pub replied : ℕ → List ℕ → Decision → DeskOutcome
replied le reply decision = record {
  answer = from_front le reply;
  exchange = record { collection = no_collection; unsent = drop le reply };
  entry = decision.entry;
  moves = decision.moves;
}

-- a request that came on this port, as far as it can be read
abbrev pub requested : Exchange → Heads → List Bool → ℕ → ℕ → Result Request Sw → DeskOutcome
requested exchange heads busy port le (Err sw) = dropped exchange sw
requested exchange heads busy port le (Ok request) =
    replied le (answer_to heads busy port request) (managed heads busy port request)

-- the last block makes the request whole
abbrev pub taken : Exchange → Heads → List Bool → ℕ → Apdu → DeskOutcome
taken exchange heads busy port c =
    if c.p1 == 0x91
    then requested exchange heads busy port (unwrap_or c.le 0)
    (request_of (bytes_with exchange.collection c))
    else collected exchange c

-- refused by its form, and nothing changes; then by its block, and what has come is dropped
abbrev pub store_data : Exchange → Heads → List Bool → ℕ → Apdu → DeskOutcome
store_data exchange heads busy port c =
    desk_refused_or (store_form_refusal c) exchange
    (dropped_or (block_refusal exchange.collection c) exchange
    (taken exchange heads busy port c))
