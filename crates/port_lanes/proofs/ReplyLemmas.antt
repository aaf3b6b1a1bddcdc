-- A command on a channel with the ISD-R that isn't STORE DATA, at the port of a lane.
use Rattle.std.proofs.Common.{◌≡◌, ◌≢◌, ◌+◌, ◌++◌, ℕ, Bool, true, false, cond, nat_eq, [], ◌∷◌}
use Rattle.std.proofs.Common.{None}
use Rattle.std.proofs.Common.{List, refl, ◌∙◌, ap}
use Rattle.std.proofs.Common.{eqb-true}
use Rattle.apdu_codec.specs.Command.{Apdu, Spells}
use Rattle.apdu_codec.specs.declared.answers.Answer.{Answer}
use Rattle.record_codec.specs.declared.durable.Heads.{Heads}
use Rattle.card_core.proofs.LocalLemmas.{isdr_is, quiet_outcome}
use Rattle.card_core.proofs.WholeLemmas.{same_card}
use Rattle.card_core.specs.AtPort.{port_state}
use Rattle.card_core.specs.Desk.{desk_outcome, exchange_at, with_exchange}
use Rattle.card_core.specs.DeskOutcome.{DeskOutcome}
use Rattle.card_core.specs.IsdrCommand.{busy_of, isdr_made}
use Rattle.card_core.specs.PortState.{counted}
use Rattle.card_core.specs.StoreData.{store_data}
use Rattle.card_core.specs.World.{WorldState}
use Rattle.card_core.specs.declared.desk.Desk.{Desk}
use Rattle.card_core.specs.declared.entry.Line.TheVariants.{Answered}
use Rattle.card_core.specs.declared.exchange.Exchange.{Exchange}
use Rattle.port_lanes.proofs.QuietStepLemmas as quiet
use Rattle.port_lanes.specs.LanePort.{IsPortOf}
use Rattle.port_lanes.specs.LaneStep.{StepsIn}
use Rattle.port_lanes.specs.declared.lane_port.LanePort.{LanePort}

pub not_same : (n m : ℕ) → n ≢ m → (same : Bool) → nat_eq n m ≡ same → same ≡ false
not_same n m apart false is = refl
not_same n m apart true is = absurd (apart (eqb-true n m is))

module _ (bytes : List ℕ) (c : Apdu) (spelled : Spells bytes c) (other : c.ins ≢ 0xE2)
    (lsi : c.ins ≢ 0x7A) where
  not_store : nat_eq c.ins 0xE2 ≡ false
  not_store = not_same c.ins 0xE2 other (nat_eq c.ins 0xE2) refl

  not_lsi : nat_eq c.ins 0x7A ≡ false
  not_lsi = not_same c.ins 0x7A lsi (nat_eq c.ins 0x7A) refl

  -- it comes to that, whatever the heads and whoever is busy
  pub outcome_is : (desk : Desk) (heads : Heads) (busy : List Bool) (port : ℕ)
      → desk_outcome desk heads busy port c ≡ quiet_outcome desk c
  outcome_is desk heads busy port =
      ap (λ (its : Bool). cond its
      (store_data (exchange_at desk c.channel) heads busy port c) (quiet_outcome desk c)) not_store

  module _ (state : WorldState) (before after : LanePort) (at : IsPortOf state before)
      (exchange : Exchange) (answer : Answer)
      (decided : (heads : Heads) (busy : List Bool) (port : ℕ)
      → (exchange ≡ (desk_outcome before.port.desk heads busy port c).exchange)
      × (answer ≡ (desk_outcome before.port.desk heads busy port c).answer))
      (put : port_state after.port ≡ record (counted (port_state before.port)) {
        desk = with_exchange before.port.desk c.channel exchange;
      })
      (card : after.port.card ≡ before.port.card)
      (session : after.port.session ≡ before.port.session)
      (rest : after ≡ record before { port = after.port; log = after.log })
      (log : after.log.entries ≡ before.log.entries ++ (record {
        turn = before.turn;
        port = before.number;
        line = Answered (before.port.statements + 1) answer None;
      }) ∷ []) where
    outcome : DeskOutcome
    outcome = quiet_outcome before.port.desk c

    decided_is : (exchange ≡ (quiet_outcome before.port.desk c).exchange)
        × (answer ≡ (quiet_outcome before.port.desk c).answer)
    decided_is =
        let its : (exchange ≡ (desk_outcome before.port.desk state.durable.heads
        (busy_of state.ports) before.number c).exchange)
        × (answer ≡ (desk_outcome before.port.desk state.durable.heads
        (busy_of state.ports) before.number c).answer) =
        decided state.durable.heads (busy_of state.ports) before.number in
        let same : desk_outcome before.port.desk state.durable.heads (busy_of state.ports)
        before.number c ≡ quiet_outcome before.port.desk c =
        outcome_is before.port.desk state.durable.heads (busy_of state.ports) before.number in (
          its.0 ∙ ap (λ (one : DeskOutcome). one.exchange) same,
          its.1 ∙ ap (λ (one : DeskOutcome). one.answer) same,
        )

    pub reply_steps : StepsIn (λ one made. made ≡ isdr_made one before.number c) before after []
        state
    reply_steps = quiet.steps state before after at
        (λ port. record (counted port) {
          desk = with_exchange port.desk c.channel (quiet_outcome port.desk c).exchange;
        })
        (λ port. Answered (port.statements + 1) (quiet_outcome port.desk c).answer None)
        (put ∙ ap (λ (one : Exchange). record (counted (port_state before.port)) {
          desk = with_exchange before.port.desk c.channel one;
        }) decided_is.0)
        (same_card state.durable before.number before.port after.port at.here card session)
        rest
        (log ∙ ap (λ (one : Answer). before.log.entries ++ (record {
          turn = before.turn;
          port = before.number;
          line = Answered (before.port.statements + 1) one None;
        }) ∷ []) decided_is.1)
        (λ one made. made ≡ isdr_made one before.number c)
        (isdr_is before.number bytes c spelled not_lsi not_store state)
