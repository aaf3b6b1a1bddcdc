-- A command that the card of a lane's port answers, at that port.
use Rattle.std.proofs.Common.{◌≡◌, ◌+◌, ℕ, [], ◌∷◌, ◌++◌}
use Rattle.std.proofs.Common.{Some, None, refl, sym, ◌∙◌, ap, subst}
use Rattle.std.specs.Prelude.{IfSome}
use Rattle.apdu_codec.specs.Command.{Apdu}
use Rattle.file_rows.specs.Change.{Fits}
use Rattle.file_rows.specs.declared.content.Content.{Content}
use Rattle.profile_card.specs.Card.{Card, card_after}
use Rattle.profile_card.specs.CardState.{card_of}
use Rattle.profile_card.specs.Commands.{decision}
use Rattle.record_codec.specs.declared.durable.Durable.{Durable}
use Rattle.record_codec.specs.declared.durable.Heads.{Heads}
use Rattle.uicc_channels.specs.CarriesOut.{content_after}
use Rattle.uicc_channels.specs.CommandOutcome.{CommandOutcome}
use Rattle.card_core.proofs.CardStepLemmas.{content_here}
use Rattle.card_core.proofs.LocalLemmas.{LocalMade, own_local}
use Rattle.card_core.proofs.StayLemmas.{heads_where}
use Rattle.card_core.specs.AtPort.{IsAtPort, port_state}
use Rattle.card_core.specs.OwnCommand.{changed_where, port_after}
use Rattle.card_core.specs.Port.{content_on}
use Rattle.card_core.specs.PortState.{PortState}
use Rattle.card_core.specs.Stretch.{view_at}
use Rattle.card_core.specs.World.{WorldState, card_in, card_on, entry_at, port_in}
use Rattle.card_core.specs.declared.entry.Entry.{Entry}
use Rattle.card_core.specs.declared.entry.Line.TheVariants.{Answered}
use Rattle.port_lanes.proofs.LocalStepLemmas as local
use Rattle.port_lanes.specs.LanePort.{IsPortOf}
use Rattle.port_lanes.specs.LaneStep.{StepsIn}
use Rattle.port_lanes.specs.OwnStep.{OwnHappens, change_records}
use Rattle.port_lanes.specs.declared.lane_port.LanePort.{LanePort}

-- the card of the port is the one there
pub card_is : (state : WorldState) (lane : LanePort) → IsPortOf state lane
    → card_of lane.port.card ≡ card_in state lane.number
card_is state lane at =
    at.here
    ∙ ap (λ (its : PortState). card_on state.durable lane.number its.session) (sym at.stands)

module _ (state : WorldState) (before after : LanePort) (c : Apdu) (outcome : CommandOutcome)
    (at : IsPortOf state before)
    (decided : outcome ≡ decision (card_of before.port.card) c)
    (fits : IfSome outcome.change (Fits (card_of before.port.card).content))
    (put : port_state after.port ≡ port_after (port_state before.port) c outcome)
    (card : card_of after.port.card ≡ card_after (card_of before.port.card) outcome)
    (rest : after ≡ record before { port = after.port; log = after.log })
    (log : after.log.entries ≡ before.log.entries ++ (record {
      turn = before.turn;
      port = before.number;
      line = Answered (before.port.statements + 1) outcome.answer None;
    }) ∷ []) where
  abbrev its : LocalMade
  its = own_local before.number c (view_at state before.number)

  same : outcome ≡ decision (card_in state before.number) c
  same = decided ∙ ap (λ (one : Card). decision one c) (card_is state before at)

  content_is : (card_of before.port.card).content ≡ content_on state.durable before.number
  content_is = ap (λ (one : Card). one.content) at.here

  fits_there : IfSome outcome.change (Fits (content_on state.durable before.number))
  fits_there = subst (λ (one : Content). IfSome outcome.change (Fits one)) content_is fits

  abbrev durable : Durable
  durable = changed_where state.durable before.number outcome.change

  session_is : after.port.session ≡ outcome.session
  session_is = ap (λ (one : PortState). one.session) put

  here : IsAtPort durable before.number after.port
  here = card ∙ ap (λ (one : Card). card_after one outcome) at.here
      ∙ sym (ap (λ (one : Content). record {
        content = one;
        session = outcome.session;
        mode = durable.heads.ports.mode;
        port = Some before.number;
      }) (content_here state.durable before.number outcome.change fits_there)
      ∙ ap (λ (one : Heads). record {
        content = content_after (content_on state.durable before.number) outcome.change;
        session = outcome.session;
        mode = one.ports.mode;
        port = Some before.number;
      }) (heads_where state.durable before.number outcome.change))
      ∙ ap (card_on durable before.number) (sym session_is)

  pub own_steps : StepsIn (OwnHappens None before.number c) before after
      (change_records before.profile outcome.change) state
  own_steps =
      subst (λ (one : CommandOutcome). StepsIn (OwnHappens None before.number c) before after
      (change_records before.profile one.change) state) (sym same)
      (local.steps state before after at its
      (subst (λ (one : CommandOutcome). IfSome one.change
      (Fits (content_on state.durable before.number))) same fits_there)
      (put ∙ ap (λ (one : PortState). port_after one c outcome) (sym at.stands)
      ∙ ap (port_after (port_in state before.number) c) same)
      (subst (λ (one : CommandOutcome).
      IsAtPort (changed_where state.durable before.number one.change) before.number after.port)
      same here)
      rest
      (log ∙ ap (λ (one : Entry). before.log.entries ++ one ∷ []) line_is)
      (OwnHappens None before.number c) refl)
    where
      line_is : (record {
        turn = before.turn;
        port = before.number;
        line = Answered (before.port.statements + 1) outcome.answer None;
      }) ≡ entry_at state before.number its.line
      line_is = ap (λ (one : ℕ). record {
        turn = one;
        port = before.number;
        line = Answered (before.port.statements + 1) outcome.answer None;
      }) at.turn
          ∙ ap (λ (one : PortState). entry_at state before.number
          (Answered (one.statements + 1) outcome.answer None)) (sym at.stands)
          ∙ ap (λ (one : CommandOutcome). entry_at state before.number
          (Answered ((port_in state before.number).statements + 1) one.answer None)) same
