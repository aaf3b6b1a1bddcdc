-- The records of requests fit the card that they come to.
use Rattle.std.proofs.Common.{◌≡◌, ◌<◌, ℕ, Bool, true, false, ◌==◌, List}
use Rattle.std.proofs.Common.{Option, Some, None, Result, Ok, Err, refl, unwrap_or, eqb-true}
use Rattle.std.proofs.Common.{if◌then◌else◌, subst, sym}
use Rattle.std.specs.Prelude.{IfSome, IfOk, IsSome, OnErr}
use Rattle.apdu_codec.specs.Command.{Apdu}
use Rattle.apdu_codec.specs.declared.status.Sw.{Sw}
use Rattle.apdu_codec.specs.declared.status.TheConstants.Sw.{WRONG_INSTRUCTION}
use Rattle.isdr_codec.specs.Request.{request_of}
use Rattle.isdr_codec.specs.declared.request.Request.{Request}
use Rattle.isdr_commands.proofs.ManagedLemmas.{managed_carries}
use Rattle.isdr_commands.specs.Laws.{HasShortNickname}
use Rattle.isdr_commands.specs.Request.{managed}
use Rattle.record_codec.specs.FitsCard.{FitsCard}
use Rattle.record_codec.specs.IsDurable.{IsDurable}
use Rattle.record_codec.specs.declared.durable.Durable.{Durable}
use Rattle.record_codec.specs.declared.record.Record.{Record}
use Rattle.card_core.proofs.NicknameLemmas.{short_requests}
use Rattle.card_core.proofs.OutcomeLemmas.{dropped_or-has, get_response-has, desk_refused_or-has}
use Rattle.card_core.specs.Carried.{decided_outcome}
use Rattle.card_core.specs.Desk.{TakesBlock, desk_outcome, exchange_at}
use Rattle.card_core.specs.DeskOutcome.{DeskOutcome, dropped_or, desk_refusal}
use Rattle.card_core.specs.GetResponse.{get_response}
use Rattle.card_core.specs.StoreData.{block_refusal, bytes_with, collected, store_form_refusal}
use Rattle.card_core.specs.StoreData.{requested, store_data, taken}
use Rattle.card_core.specs.declared.desk.Desk.{Desk}
use Rattle.card_core.specs.declared.desk_decision.DeskDecision.{DeskDecision}
use Rattle.card_core.specs.declared.exchange.Exchange.{Exchange}

on_err : {X E : Type 0} {P : Type 0} (result : Result X E) → P → OnErr result P
on_err (Ok x) p = tt
on_err (Err e) p = p

module _ (durable : Durable) (are : IsDurable durable) (busy : List Bool) (port : ℕ)
    (below : port < durable.heads.ports.count) (desk : Desk) (c : Apdu) where
  -- a record fits the card, and is that of a STORE DATA whose block is taken
  abbrev MayRecord : DeskOutcome → Type 0
  MayRecord outcome = IfSome outcome.entry (λ entry. FitsCard durable entry × TakesBlock desk c)

  abbrev here : Exchange
  here = exchange_at desk c.channel

  managed_may : (request : Request) → HasShortNickname request → TakesBlock desk c
      → IfSome (managed durable.heads busy port request).entry
      (λ entry. FitsCard durable entry × TakesBlock desk c)
  managed_may request short takes = by (managed durable.heads busy port request).entry refl
    where
      by : (entry : Option Record) → (managed durable.heads busy port request).entry ≡ entry
          → IfSome entry (λ its. FitsCard durable its × TakesBlock desk c)
      by None is = tt
      by (Some its) is = (
        (managed_carries durable are busy its port request
            (record { card = are; below = below; nickname = short }) is).fits,
        takes,
      )

  requested_may : (le : ℕ) (read : Result Request Sw) → IfOk read HasShortNickname
      → TakesBlock desk c → MayRecord (requested here durable.heads busy port le read)
  requested_may le (Err sw) short takes = tt
  requested_may le (Ok request) short takes = managed_may request short takes

  taken_may : TakesBlock desk c → MayRecord (taken here durable.heads busy port c)
  taken_may takes = by (c.p1 == 0x91)
    where
      by : (is_last : Bool) → MayRecord (if is_last
          then requested here durable.heads busy port (unwrap_or c.le 0)
          (request_of (bytes_with here.collection c)) else collected here c)
      by true =
          requested_may (unwrap_or c.le 0) (request_of (bytes_with here.collection c))
          (short_requests (bytes_with here.collection c)) takes
      by false = tt

  store_may : c.ins ≡ 0xE2 → MayRecord (store_data here durable.heads busy port c)
  store_may is =
      desk_refused_or-has MayRecord here (store_form_refusal c)
      (dropped_or (block_refusal here.collection c) here (taken here durable.heads busy port c))
      (λ sw. tt)
      (λ form. dropped_or-has MayRecord here (block_refusal here.collection c)
      (taken here durable.heads busy port c) (λ sw. tt)
      (λ block. taken_may (record { instruction = is; form = form; block = block })))

  pub desk_may : MayRecord (desk_outcome desk durable.heads busy port c)
  desk_may = by (c.ins == 0xE2) (c.ins == 0xC0) refl
    where
      by : (is_store is_get : Bool) → (c.ins == 0xE2) ≡ is_store
          → MayRecord (if is_store then store_data here durable.heads busy port c
          else (if is_get then get_response here c else desk_refusal here WRONG_INSTRUCTION))
      by true is_get is = store_may (eqb-true c.ins 0xE2 is)
      by false true is = get_response-has MayRecord here c (λ sw. tt) tt
      by false false is = tt

-- the same of a decision that comes to what the command comes to
module _ (durable : Durable) (busy : List Bool) (port : ℕ) (desk : Desk) (c : Apdu)
    (decision : DeskDecision) (are : IsDurable durable)
    (below : port < durable.heads.ports.count)
    (is : decided_outcome (exchange_at desk c.channel) decision
    ≡ desk_outcome desk durable.heads busy port c) where
  decision_may : IfSome decision.entry (λ entry. FitsCard durable entry × TakesBlock desk c)
  decision_may =
      subst (λ (its : DeskOutcome). IfSome its.entry
      (λ entry. FitsCard durable entry × TakesBlock desk c)) (sym is)
      (desk_may durable are busy port below desk c)

  pub decision_fits : IfSome decision.entry (λ entry. FitsCard durable entry)
  decision_fits = by decision.entry decision_may
    where
      by : (entry : Option Record)
          → IfSome entry (λ its. FitsCard durable its × TakesBlock desk c)
          → IfSome entry (λ its. FitsCard durable its)
      by None may = tt
      by (Some its) may = may.0

  pub decision_takes : {X E : Type 0} (result : Result X E) → IsSome decision.entry
      → OnErr result (TakesBlock desk c)
  decision_takes result some = on_err result (by decision.entry decision_may some)
    where
      by : (entry : Option Record)
          → IfSome entry (λ its. FitsCard durable its × TakesBlock desk c) → IsSome entry
          → TakesBlock desk c
      by None may some = let is : false ≡ true = some in absurd (cc)
      by (Some its) may some = may.1
