-- What a command on a channel with the ISD-R comes to, way by way.
use Rattle.std.proofs.Common.{◌≡◌, ℕ, Bool, true, false, List, Option, Some, None, Result}
use Rattle.std.proofs.Common.{Ok, Err, unwrap_or, refl, ◌==◌, ◌&&◌, if◌then◌else◌}
use Rattle.std.specs.Prelude.{IfOk}
use Rattle.apdu_codec.specs.Command.{Apdu}
use Rattle.apdu_codec.specs.declared.status.Sw.{Sw}
use Rattle.apdu_codec.specs.declared.status.TheConstants.Sw.{WRONG_INSTRUCTION}
use Rattle.isdr_codec.specs.Request.{request_of}
use Rattle.isdr_codec.specs.declared.request.Request.{Request}
use Rattle.isdr_commands.specs.Laws.{HasShortNickname}
use Rattle.isdr_commands.specs.Request.{answer_to, managed}
use Rattle.record_codec.specs.declared.durable.Heads.{Heads}
use Rattle.uicc_channels.specs.GetResponse.{giving_refusal}
use Rattle.uicc_channels.specs.Shape.{has_le_alone, shape_refusal}
use Rattle.card_core.proofs.NicknameLemmas.{short_requests}
use Rattle.card_core.specs.Desk.{desk_outcome, exchange_at}
use Rattle.card_core.specs.DeskOutcome.{DeskOutcome, desk_refusal, desk_refused_or, dropped}
use Rattle.card_core.specs.DeskOutcome.{dropped_or}
use Rattle.card_core.specs.GetResponse.{get_response, given}
use Rattle.card_core.specs.StoreData.{block_refusal, bytes_with, collected, replied}
use Rattle.card_core.specs.StoreData.{requested, store_data, store_form_refusal, taken}
use Rattle.card_core.specs.declared.desk.Desk.{Desk}
use Rattle.card_core.specs.declared.exchange.Exchange.{Exchange}

module _ (P : DeskOutcome → Type 0) (exchange : Exchange) where
  pub desk_refused_or-has : (refusal : Option Sw) (done : DeskOutcome)
      → ((sw : Sw) → P (desk_refusal exchange sw)) → (refusal ≡ None → P done)
      → P (desk_refused_or refusal exchange done)
  desk_refused_or-has None done where_refused where_done = where_done refl
  desk_refused_or-has (Some sw) done where_refused where_done = where_refused sw

  pub dropped_or-has : (refusal : Option Sw) (done : DeskOutcome)
      → ((sw : Sw) → P (dropped exchange sw)) → (refusal ≡ None → P done)
      → P (dropped_or refusal exchange done)
  dropped_or-has None done where_dropped where_done = where_done refl
  dropped_or-has (Some sw) done where_dropped where_done = where_dropped sw

  abbrev waits : Apdu → Option Sw
  waits c = giving_refusal exchange.unsent (unwrap_or c.le 0)

  pub get_response-has : (c : Apdu) → ((sw : Sw) → P (desk_refusal exchange sw))
      → P (given exchange (unwrap_or c.le 0)) → P (get_response exchange c)
  get_response-has c where_refused where_given =
      desk_refused_or-has (shape_refusal c ((c.p1 == 0x00) && (c.p2 == 0x00)) (has_le_alone c))
      (desk_refused_or (waits c) exchange (given exchange (unwrap_or c.le 0))) where_refused
      (λ shape. desk_refused_or-has (waits c) (given exchange (unwrap_or c.le 0)) where_refused
      (λ some. where_given))

module _ (P : DeskOutcome → Type 0) (exchange : Exchange) (heads : Heads) (busy : List Bool)
    (port : ℕ) where
  requested-has : (le : ℕ) (read : Result Request Sw) → ((sw : Sw) → P (dropped exchange sw))
      → ((request : Request) → HasShortNickname request
      → P (replied le (answer_to heads busy port request) (managed heads busy port request)))
      → IfOk read HasShortNickname → P (requested exchange heads busy port le read)
  requested-has le (Err sw) where_dropped where_replied short = where_dropped sw
  requested-has le (Ok request) where_dropped where_replied short = where_replied request short

  taken-has : (c : Apdu) → ((sw : Sw) → P (dropped exchange sw)) → P (collected exchange c)
      → ((request : Request) → HasShortNickname request
      → P (replied (unwrap_or c.le 0) (answer_to heads busy port request)
      (managed heads busy port request)))
      → P (taken exchange heads busy port c)
  taken-has c where_dropped where_collected where_replied = by_p1 (c.p1 == 0x91)
    where
      by_p1 : (is_last : Bool) → P (if is_last
          then requested exchange heads busy port (unwrap_or c.le 0)
          (request_of (bytes_with exchange.collection c)) else collected exchange c)
      by_p1 true =
          requested-has (unwrap_or c.le 0) (request_of (bytes_with exchange.collection c))
          where_dropped where_replied (short_requests (bytes_with exchange.collection c))
      by_p1 false = where_collected

  pub store_data-has : (c : Apdu) → ((sw : Sw) → P (desk_refusal exchange sw))
      → ((sw : Sw) → P (dropped exchange sw))
      → (block_refusal exchange.collection c ≡ None → P (collected exchange c))
      → ((request : Request) → HasShortNickname request
      → P (replied (unwrap_or c.le 0) (answer_to heads busy port request)
      (managed heads busy port request)))
      → P (store_data exchange heads busy port c)
  store_data-has c where_refused where_dropped where_collected where_replied =
      desk_refused_or-has P exchange (store_form_refusal c)
      (dropped_or (block_refusal exchange.collection c) exchange
      (taken exchange heads busy port c)) where_refused
      (λ form. dropped_or-has P exchange (block_refusal exchange.collection c)
      (taken exchange heads busy port c) where_dropped
      (λ block. taken-has c where_dropped (where_collected block) where_replied))

-- what holds of each way holds of what any command comes to
pub desk_outcome-has : (P : DeskOutcome → Type 0) (desk : Desk) (heads : Heads) (busy : List Bool)
    (port : ℕ) (c : Apdu) → let exchange = exchange_at desk c.channel in
    ((sw : Sw) → P (desk_refusal exchange sw)) → ((sw : Sw) → P (dropped exchange sw))
    → (block_refusal exchange.collection c ≡ None → P (collected exchange c))
    → ((request : Request) → HasShortNickname request
    → P (replied (unwrap_or c.le 0) (answer_to heads busy port request)
    (managed heads busy port request)))
    → P (given exchange (unwrap_or c.le 0))
    → P (desk_outcome desk heads busy port c)
desk_outcome-has P desk heads busy port c where_refused where_dropped where_collected
    where_replied where_given =
    by_instruction (c.ins == 0xE2) (c.ins == 0xC0)
  where
    by_instruction : (is_store is_get : Bool)
        → P (if is_store then store_data (exchange_at desk c.channel) heads busy port c
        else (if is_get then get_response (exchange_at desk c.channel) c
        else desk_refusal (exchange_at desk c.channel) WRONG_INSTRUCTION))
    by_instruction true is_get =
        store_data-has P (exchange_at desk c.channel) heads busy port c where_refused where_dropped
        where_collected where_replied
    by_instruction false true =
        get_response-has P (exchange_at desk c.channel) c where_refused where_given
    by_instruction false false = where_refused WRONG_INSTRUCTION
