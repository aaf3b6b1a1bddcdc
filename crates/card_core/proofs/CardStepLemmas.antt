-- What comes to a port is one step of the card that stands there.
use Rattle.std.proofs.Common.{◌≡◌, ◌≢◌, ◌<◌, ℕ, List, length}
use Rattle.std.proofs.Common.{Option, Some, None, Ok, refl, ◌∙◌, ap, arith, inl}
use Rattle.std.proofs.Common.{length-set}
use Rattle.std.proofs.lemmas.List.{get_or-set_same}
use Rattle.std.specs.Prelude.{IfSome, slice_index_or, slice_set}
use Rattle.apdu_codec.specs.Command.{Apdu, Spells}
use Rattle.file_rows.specs.Change.{Fits, changed}
use Rattle.file_rows.specs.declared.change.Change.{Change}
use Rattle.file_rows.specs.declared.content.Content.{Content}
use Rattle.profile_card.proofs.FollowLemmas.{MayFollow-decision}
use Rattle.profile_card.specs.Card.{Card, IsSound, card_after}
use Rattle.profile_card.specs.Commands.{decision}
use Rattle.profile_card.specs.Step.{Steps, silent}
use Rattle.profile_card.specs.Step.Event.{Command, Power as PowerCycle, Reset as Restart}
use Rattle.record_codec.specs.Apply.{apply}
use Rattle.record_codec.specs.IsDurable.{IsDurable}
use Rattle.record_codec.specs.declared.durable.Durable.{Durable}
use Rattle.record_codec.specs.declared.durable.Heads.{Heads}
use Rattle.record_codec.specs.declared.record.Record.TheVariants as records
use Rattle.uicc_channels.specs.CarriesOut.{content_after}
use Rattle.uicc_channels.specs.CommandOutcome.{CommandOutcome}
use Rattle.card_core.proofs.PortLemmas.{made_here, none_changes}
use Rattle.card_core.proofs.SeenLemmas.{fresh_at}
use Rattle.card_core.proofs.StayLemmas.{content_elsewhere, heads_where, other_port}
use Rattle.card_core.proofs.WholeLemmas.{card_stays}
use Rattle.card_core.specs.ManageLsi.{counted_at, lsi_reset}
use Rattle.card_core.specs.OwnCommand.{changed_where, own_made, port_after}
use Rattle.card_core.specs.Port.{content_on, profile_on, with_change_of}
use Rattle.card_core.specs.PortReset.{reset_made}
use Rattle.card_core.specs.PortState.{PortState, counted, fresh_port, reset_port}
use Rattle.card_core.specs.World.{WorldState, card_in, card_on, opened, port_in}

-- the content at a port after a change that fits it
module _ (durable : Durable) (port : ℕ) where
  by_profile : (change : Change) → Fits (content_on durable port) change → (on : Option ℕ)
      → profile_on durable port ≡ on
      → content_on (with_change_of on change durable) port ≡ changed (content_on durable port) change
  by_profile change fits None on = absurd (none_changes durable port change fits on)
  by_profile change fits (Some profile) on =
      made_here {X = Unit {0}} {Y = Unit {0}} durable
      (apply durable (records.Content profile change)) port profile change on (Ok tt) fits refl

  pub content_here : (change : Option Change) → IfSome change (Fits (content_on durable port))
      → content_on (changed_where durable port change) port
      ≡ content_after (content_on durable port) change
  content_here None fits = refl
  content_here (Some change) fits = by_profile change fits (profile_on durable port) refl

-- the port that was put
pub there : (ports : List PortState) (port : ℕ) (put : PortState) → port < length ports
    → slice_index_or (slice_set ports port put) port fresh_port ≡ put
there ports port put below = get_or-set_same ports port put fresh_port below

module _ (state : WorldState) (port : ℕ) (below : port < length state.ports) where
  pub own_steps : (bytes : List ℕ) (c : Apdu) → IsSound (card_in state port) → Spells bytes c
      → Steps (card_in state port) (Command bytes) (record {
        answer = Some (decision (card_in state port) c).answer;
        card = card_in (own_made state port c).state port;
        change = (decision (card_in state port) c).change;
      })
  own_steps bytes c sound spelled =
      inl (
        c,
        spelled,
        ap (λ (its : Card). record {
          answer = Some outcome.answer;
          card = its;
          change = outcome.change;
        }) card_is,
      )
    where
      outcome : CommandOutcome
      outcome = decision (card_in state port) c

      after : Durable
      after = changed_where state.durable port outcome.change

      card_is : card_in (own_made state port c).state port
          ≡ card_after (card_in state port) outcome
      card_is =
          ap (λ (its : PortState). card_on after port its.session)
          (there state.ports port (port_after (port_in state port) c outcome) below)
          ∙ ap (λ (its : Content). record {
            content = its;
            session = outcome.session;
            mode = after.heads.ports.mode;
            port = Some port;
          }) (content_here state.durable port outcome.change
          (MayFollow-decision (card_in state port) sound c).change)
          ∙ ap (λ (its : Heads). record {
            content = content_after (content_on state.durable port) outcome.change;
            session = outcome.session;
            mode = its.ports.mode;
            port = Some port;
          }) (heads_where state.durable port outcome.change)

  pub reset_steps : Steps (card_in state port) Restart
      (silent (card_in (reset_made state port).state port))
  reset_steps =
      ap (λ (its : PortState). silent (card_on state.durable port its.session))
      (there state.ports port (counted (reset_port None (port_in state port))) below)

  pub foreign_steps : (came : ℕ) → Steps (card_in state port) Restart
      (silent (card_in (lsi_reset state came port).state port))
  foreign_steps came =
      let within : port < length (counted_at state came).ports =
      omega (arith, below, length-set state.ports came (counted (port_in state came))) in
      ap (λ (its : PortState). silent (card_on state.durable port its.session))
      (there (counted_at state came).ports port
      (reset_port None (port_in (counted_at state came) port)) within)

-- a command that the card of one port answers leaves the card at another
pub own_elsewhere : (state : WorldState) (port other : ℕ) (c : Apdu) → IsDurable state.durable
    → other ≢ port → card_in (own_made state port c).state other ≡ card_in state other
own_elsewhere state port other c are apart =
    let change : Option Change = (decision (card_in state port) c).change in
    ap (λ (its : PortState). card_on (changed_where state.durable port change) other its.session)
    (other_port state.ports port other
    (port_after (port_in state port) c (decision (card_in state port) c)) apart)
    ∙ card_stays state.durable (changed_where state.durable port change) other
    (port_in state other).session (heads_where state.durable port change)
    (content_elsewhere state.durable are port change other apart)

pub power_steps : (state : WorldState) (port : ℕ)
    → Steps (card_in state port) PowerCycle (silent (card_in (opened state.durable) port))
power_steps state port =
    ap (λ (its : PortState). silent (card_on state.durable port its.session))
    (fresh_at state.durable.heads.ports.count port)
