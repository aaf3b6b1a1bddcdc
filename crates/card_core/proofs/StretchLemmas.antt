-- What a statement that isn't shared leaves, and what it makes of other cards.
use Rattle.std.proofs.Common.{◌≡◌, ◌<◌, ◌+◌, ℕ, Bool, false, [], ◌∷◌, length, Option, Some, None}
use Rattle.std.proofs.Common.{refl, sym, ◌∙◌, ap, subst, arith, inl, inr}
use Rattle.std.specs.Prelude.{IfSome, is_some}
use Rattle.file_rows.specs.Change.{Fits}
use Rattle.file_rows.specs.declared.change.Change.{Change}
use Rattle.file_rows.specs.declared.content.Content.{Content}
use Rattle.record_codec.specs.declared.durable.Durable.{Durable}
use Rattle.record_codec.specs.declared.durable.Heads.{Heads}
use Rattle.uicc_channels.specs.CarriesOut.{content_after}
use Rattle.card_core.proofs.CardStepLemmas.{content_here, there}
use Rattle.card_core.proofs.LocalLemmas.{IsLocal, LocalMade, local_made}
use Rattle.card_core.proofs.StayLemmas.{content_elsewhere, heads_where, held_elsewhere, other_port}
use Rattle.card_core.specs.OwnCommand.{changed_where}
use Rattle.card_core.specs.Port.{content_on}
use Rattle.card_core.specs.PortState.{PortState}
use Rattle.card_core.specs.Sound.{IsSoundState}
use Rattle.card_core.specs.Stepped.{Happens}
use Rattle.card_core.specs.Stretch.{CountAsMany, CountsItsRecord, IsMadeAt, PortView, view_at}
use Rattle.card_core.specs.World.{Made, WorldState, count_if}
use Rattle.card_core.specs.declared.event.Event.{Event}

-- what is seen of the port afterwards
abbrev pub seen : PortView → LocalMade → PortView
seen view its = record view { port = its.put; content = content_after view.content its.change }

module _ (port : ℕ) where
  pub view_made : (state : WorldState) (its : LocalMade) → port < length state.ports
      → IfSome its.change (Fits (content_on state.durable port))
      → view_at (local_made state port its).state port ≡ seen (view_at state port) its
  view_made state its below fits =
      ap (λ (one : PortState). record {
        port = one;
        content = content_on after port;
        mode = after.heads.ports.mode;
        count = after.heads.ports.count;
        turn = state.shared;
      }) (there state.ports port its.put below)
      ∙ ap (λ (one : Content). record {
        port = its.put;
        content = one;
        mode = after.heads.ports.mode;
        count = after.heads.ports.count;
        turn = state.shared;
      }) (content_here state.durable port its.change fits)
      ∙ ap (λ (one : Heads). record {
        port = its.put;
        content = content_after (content_on state.durable port) its.change;
        mode = one.ports.mode;
        count = one.ports.count;
        turn = state.shared;
      }) (heads_where state.durable port its.change)
    where
      after : Durable
      after = changed_where state.durable port its.change

  counts_record : (state : WorldState) (its : LocalMade) (change : Option Change)
      → its.change ≡ change → CountsItsRecord state (local_made state port its)
  counts_record state its None is =
      let none : state.commits + count_if false ≡ state.commits = omega arith in
      inl (
        ap (λ (one : Option Change). state.commits + count_if (is_some one)) is ∙ none,
        ap (changed_where state.durable port) is,
      )
  counts_record state its (Some change) is =
      inr (ap (λ (one : Option Change). state.commits + count_if (is_some one)) is)

  module _ (state : WorldState) (sound : IsSoundState state) (event : Event) (failed : Bool)
      (made : Made) (local : IsLocal port state event failed made) where
    -- it leaves all but its own port
    pub local_stays : IsMadeAt port state made
    local_stays =
        subst (IsMadeAt port state) (sym local.is) (record {
          entries = (refl, tt);
          others = λ other apart. other_port state.ports port other local.its.put apart;
          contents = λ other apart.
              content_elsewhere state.durable sound.are port local.its.change other apart;
          heads = heads_where state.durable port local.its.change;
          held = λ profile apart.
              held_elsewhere state.durable sound.are port local.its.change profile apart;
          shared = refl;
          commits = counts_record state local.its local.its.change refl;
        })

    module _ (other : WorldState) (below : port < length state.ports)
        (within : port < length other.ports)
        (same : view_at other port ≡ view_at state port) where
      other_fits : IfSome local.its.change (Fits (content_on other.durable port))
      other_fits =
          subst (λ (view : PortView). IfSome local.its.change (Fits view.content)) (sym same)
          local.fits

      pub view_again : view_at (local_made other port local.its).state port
          ≡ view_at made.state port
      view_again =
          view_made other local.its within other_fits
          ∙ ap (λ (view : PortView). seen view local.its) same
          ∙ sym (view_made state local.its below local.fits)
          ∙ ap (λ (one : Made). view_at one.state port) (sym local.is)

      pub entries_again : (local_made other port local.its).entries ≡ made.entries
      entries_again =
          ap (λ (view : PortView). record {
            turn = view.turn;
            port = port;
            line = local.its.line;
          } ∷ []) same
          ∙ ap (λ (one : Made). one.entries) (sym local.is)

      -- and it makes the same of another card that shows its port the same
      pub local_again : (its : Made) × Happens failed other event its
          × (its.entries ≡ made.entries) × (view_at its.state port ≡ view_at made.state port)
          × CountAsMany state made other its
      local_again = (
        local_made other port local.its,
        local.again other same,
        entries_again,
        view_again,
        (
          count_if (is_some local.its.change),
          ap (λ (one : Made). one.state.commits) local.is,
          refl,
        ),
      )
