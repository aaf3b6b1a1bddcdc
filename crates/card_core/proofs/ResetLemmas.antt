-- Ports that were reset.
use Rattle.std.proofs.Common.{◌≡◌, ◌<◌, ℕ, false, List, length, map, replicate, get_or, Some, None}
use Rattle.std.proofs.Common.{refl, sym, ◌∙◌, ap, subst}
use Rattle.std.specs.Prelude.{slice_get, slice_index_or, slice_set}
use Rattle.profile_card.specs.CardState.{card_of}
use Rattle.record_codec.specs.declared.durable.Durable.{Durable}
use Rattle.uicc_channels.specs.Session.{fresh_session}
use Rattle.card_core.proofs.EachLemmas.{all_alike, also_there}
use Rattle.card_core.proofs.WholeLemmas.{found, ports_put, reset_card, stand_after}
use Rattle.card_core.specs.AtPort.{AreAtPorts, IsRestarted, port_state}
use Rattle.card_core.specs.PortState.{PortState, fresh_port, reset_port}
use Rattle.card_core.specs.declared.port.Port.{Port}

-- the ports after a reset of one of them
module _ (durable : Durable) (ports : List Port) (number place : ℕ) (port put : Port)
    (at : AreAtPorts durable ports) (below : number < length ports) (same : place ≡ number)
    (read : port ≡ get_or ports place port)
    (state : port_state put ≡ reset_port None (port_state port))
    (card : card_of put.card
    ≡ record (card_of port.card) { session = fresh_session false None }) where
  is : port ≡ get_or ports number port
  is = read ∙ ap (λ (n : ℕ). get_or ports n port) same

  there : slice_get ports number ≡ Some port
  there = found ports number port port below is

  pub reset_stands : AreAtPorts durable (slice_set ports place put)
  reset_stands =
      subst (λ (n : ℕ). AreAtPorts durable (slice_set ports n put)) (sym same)
      (stand_after durable durable ports number port at there put refl (λ other apart. refl)
      (reset_card durable number port put (fresh_session false None) (at.each number port there)
      (ap (λ (its : PortState). its.session) state) card))

  pub reset_states : (before : List PortState) → map port_state ports ≡ before
      → map port_state (slice_set ports place put)
      ≡ slice_set before number (reset_port None (slice_index_or before number fresh_port))
  reset_states before was =
      ap (λ (n : ℕ). map port_state (slice_set ports n put)) same
      ∙ ports_put ports number port put below is (reset_port None) state
      ∙ ap (λ (its : List PortState). slice_set its number
      (reset_port None (slice_index_or its number fresh_port))) was

-- the ports after a power cycle
module _ (durable : Durable) (before after : List Port) (at : AreAtPorts durable before)
    (same : length after ≡ length before)
    (each : (number : ℕ) (one its : Port) → slice_get before number ≡ Some one
    → slice_get after number ≡ Some its → IsRestarted one its) where
  restarted : (number : ℕ) (its : Port) → slice_get after number ≡ Some its
      → (one : Port) × (slice_get before number ≡ Some one) × IsRestarted one its
  restarted number its there =
      let was = also_there before after number its same there in
      (was.0, was.1, each number was.0 its was.1 there)

  pub restarted_states : map port_state after ≡ replicate durable.heads.ports.count fresh_port
  restarted_states =
      all_alike port_state fresh_port after
      (λ number its there. (restarted number its there).2.state)
      ∙ ap (λ (n : ℕ). replicate n fresh_port) (same ∙ at.count)

  pub restarted_stand : AreAtPorts durable after
  restarted_stand = record {
    count = same ∙ at.count;
    each = λ number its there.
        let was = restarted number its there in
        reset_card durable number was.0 its (fresh_session false None) (at.each number was.0 was.1)
        (ap (λ (one : PortState). one.session) was.2.state) was.2.card;
  }
