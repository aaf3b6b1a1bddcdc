-- A statement that stays at its port, at the port of a lane.
use Rattle.std.proofs.Common.{◌≡◌, ◌+◌, ◌<◌, ℕ, [], ◌∷◌, ◌++◌, length}
use Rattle.std.proofs.Common.{Option, Some, None, refl, sym, ◌∙◌, ap, subst, length-set}
use Rattle.std.proofs.lemmas.List.{get_or-set_same}
use Rattle.std.specs.Prelude.{IfSome, is_some, slice_index_or, slice_set}
use Rattle.file_rows.specs.Change.{Fits}
use Rattle.file_rows.specs.declared.change.Change.{Change}
use Rattle.record_codec.specs.Apply.{fold}
use Rattle.record_codec.specs.declared.durable.Durable.{Durable}
use Rattle.record_codec.specs.declared.durable.Heads.{Heads}
use Rattle.card_core.proofs.LocalLemmas.{LocalMade, local_made}
use Rattle.card_core.proofs.PortLemmas.{none_changes}
use Rattle.card_core.proofs.StayLemmas.{heads_where}
use Rattle.card_core.specs.AtPort.{IsAtPort, port_state}
use Rattle.card_core.specs.OwnCommand.{changed_where}
use Rattle.card_core.specs.Port.{content_on, profile_on, with_change_of}
use Rattle.card_core.specs.PortState.{fresh_port}
use Rattle.card_core.specs.World.{Made, WorldState, count_if, entry_at, port_in}
use Rattle.port_lanes.specs.LanePort.{IsPortOf}
use Rattle.port_lanes.specs.LaneStep.{StepsIn}
use Rattle.port_lanes.specs.OwnStep.{change_records}
use Rattle.port_lanes.specs.declared.lane_port.LanePort.{LanePort}

-- it is what its records make of the card
kept_of : (durable : Durable) (port : ℕ) (on : Option ℕ) (change : Option Change)
    → on ≡ profile_on durable port
    → changed_where durable port change ≡ fold durable (change_records on change)
kept_of durable port None None is = refl
kept_of durable port (Some profile) None is = refl
kept_of durable port None (Some change) is =
    ap (λ (its : Option ℕ). with_change_of its change durable) (sym is)
kept_of durable port (Some profile) (Some change) is =
    ap (λ (its : Option ℕ). with_change_of its change durable) (sym is)

-- one record where there is a change, which no blank card has
count_of : (durable : Durable) (port : ℕ) (on : Option ℕ) (change : Option Change)
    → on ≡ profile_on durable port → IfSome change (Fits (content_on durable port))
    → count_if (is_some change) ≡ length (change_records on change)
count_of durable port None None is fits = refl
count_of durable port (Some profile) None is fits = refl
count_of durable port None (Some change) is fits =
    absurd (none_changes durable port change fits (sym is))
count_of durable port (Some profile) (Some change) is fits = refl

module _ (state : WorldState) (before after : LanePort) (at : IsPortOf state before)
    (its : LocalMade) (fits : IfSome its.change (Fits (content_on state.durable before.number)))
    (put : port_state after.port ≡ its.put)
    (here : IsAtPort (changed_where state.durable before.number its.change) before.number
    after.port)
    (rest : after ≡ record before { port = after.port; log = after.log })
    (log : after.log.entries
    ≡ before.log.entries ++ entry_at state before.number its.line ∷ []) where
  abbrev made : Made
  made = local_made state before.number its

  heads : made.state.durable.heads ≡ state.durable.heads
  heads = heads_where state.durable before.number its.change

  number : after.number ≡ before.number
  number = ap (λ (one : LanePort). one.number) rest

  moved : IsPortOf made.state after
  moved = record {
    below = subst (λ (n : ℕ). n < made.state.durable.heads.ports.count) (sym number)
        (subst (λ (one : Heads). before.number < one.ports.count) (sym heads) at.below);
    count = ap (λ (one : LanePort). one.count) rest ∙ at.count
        ∙ ap (λ (one : Heads). one.ports.count) (sym heads);
    ports = length-set state.ports before.number its.put ∙ at.ports
        ∙ ap (λ (one : Heads). one.ports.count) (sym heads);
    stands = ap (λ (n : ℕ). port_in made.state n) number
        ∙ there ∙ sym put;
    here = subst (λ (n : ℕ). IsAtPort made.state.durable n after.port) (sym number) here;
    profile = ap (λ (one : LanePort). one.profile) rest ∙ at.profile
        ∙ ap (λ (one : Heads). slice_index_or one.ports.on before.number None) (sym heads)
        ∙ ap (λ (n : ℕ). profile_on made.state.durable n) (sym number);
    turn = ap (λ (one : LanePort). one.turn) rest ∙ at.turn;
  }
    where
      there : slice_index_or (slice_set state.ports before.number its.put) before.number fresh_port
          ≡ its.put
      there = get_or-set_same state.ports before.number its.put fresh_port
          (subst (λ (n : ℕ). before.number < n) (sym at.ports) at.below)

  pub steps : (comes : WorldState → Made → Type 0) → comes state made
      → StepsIn comes before after (change_records before.profile its.change) state
  steps comes is = record {
    made = made;
    is = is;
    port = moved;
    log = log;
    kept = kept_of state.durable before.number before.profile its.change at.profile;
    commits = ap (λ (n : ℕ). state.commits + n)
        (count_of state.durable before.number before.profile its.change at.profile fits);
  }
