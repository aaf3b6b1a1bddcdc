-- A statement that changes nothing in the content at its port, at the port of a lane.
use Rattle.std.proofs.Common.{◌≡◌, ℕ, List, [], ◌∷◌, ◌++◌, Option, Some, None, refl, sym, ◌∙◌}
use Rattle.std.proofs.Common.{ap, subst}
use Rattle.record_codec.specs.declared.record.Record.{Record}
use Rattle.card_core.proofs.LocalLemmas.{local_made}
use Rattle.card_core.specs.AtPort.{IsAtPort, port_state}
use Rattle.card_core.specs.PortState.{PortState}
use Rattle.card_core.specs.World.{Made, WorldState, entry_at, port_in}
use Rattle.card_core.specs.declared.entry.Entry.{Entry}
use Rattle.card_core.specs.declared.entry.Line.{Line}
use Rattle.port_lanes.proofs.LocalStepLemmas as local
use Rattle.port_lanes.specs.LanePort.{IsPortOf}
use Rattle.port_lanes.specs.LaneStep.{StepsIn}
use Rattle.port_lanes.specs.OwnStep.{change_records}
use Rattle.port_lanes.specs.declared.lane_port.LanePort.{LanePort}

none_records : (on : Option ℕ) → change_records on None ≡ []
none_records None = refl
none_records (Some profile) = refl

-- what such a statement makes: what then stands at the port, and its line
abbrev pub quiet_made : (PortState → PortState) → (PortState → Line) → WorldState → ℕ → Made
quiet_made change line state port = local_made state port (record {
  put = change (port_in state port);
  change = None;
  line = line (port_in state port);
})

module _ (state : WorldState) (before after : LanePort) (at : IsPortOf state before)
    (change : PortState → PortState) (line : PortState → Line)
    (put : port_state after.port ≡ change (port_state before.port))
    (here : IsAtPort state.durable before.number after.port)
    (rest : after ≡ record before { port = after.port; log = after.log })
    (log : after.log.entries ≡ before.log.entries ++ (record {
      turn = before.turn;
      port = before.number;
      line = line (port_state before.port);
    }) ∷ []) where
  pub steps : (comes : WorldState → Made → Type 0)
      → comes state (quiet_made change line state before.number)
      → StepsIn comes before after [] state
  steps comes is =
      subst (λ (records : List Record). StepsIn comes before after records state)
      (none_records before.profile)
      (local.steps state before after at (record {
        put = change (port_in state before.number);
        change = None;
        line = line (port_in state before.number);
      }) tt (put ∙ ap change (sym at.stands)) here rest
      (log ∙ ap (λ (one : Entry). before.log.entries ++ one ∷ []) line_is) comes is)
    where
      line_is : (record {
        turn = before.turn;
        port = before.number;
        line = line (port_state before.port);
      }) ≡ entry_at state before.number (line (port_in state before.number))
      line_is = ap (λ (n : ℕ). record {
        turn = n;
        port = before.number;
        line = line (port_state before.port);
      }) at.turn
          ∙ ap (λ (one : PortState). entry_at state before.number (line one)) (sym at.stands)
