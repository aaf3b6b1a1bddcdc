use Rattle.std.proofs.Common.{◌≡◌, Some, subst}
use Rattle.std.specs.Prelude.{IfOk}
use Rattle.file_rows.specs.declared.content.Content.{Content}
use Rattle.profile_card.specs.CardState.{card_of}
use Rattle.uicc_channels.specs.Session.{fresh_session}
use Rattle.card_core.proofs.CardLemmas.{content_found}
use Rattle.card_core.specs.Port.{content_on}
use Rattle.card_core.proofs.port.cards.card_on.Goals as goal

pub returns : goal.returns
returns c =
    subst (λ (its : Content). IfOk c.fresh_card.result (λ card. card_of card ≡ record {
      content = its;
      session = fresh_session c.args.refresh c.args.kept;
      mode = c.args.durable.now.heads.ports.mode;
      port = Some c.args.port;
    })) (content_found c.content_on.result (λ its. its.now)
    (content_on c.args.durable.now c.args.port) c.content_on.ensures.found
    c.content_on.ensures.none) c.fresh_card.ensures.card
