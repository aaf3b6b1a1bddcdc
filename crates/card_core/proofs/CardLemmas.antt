-- The cards that stand at the ports, and what their commands come to.
use Rattle.std.proofs.Common.{◌≡◌, ℕ, Bool, [], Option, Some, None, refl, sym}
use Rattle.std.proofs.Common.{◌∙◌, ap, subst, arith, inl}
use Rattle.std.specs.Prelude.{IfNone, IfSome, option_map, unwrap_or}
use Rattle.apdu_codec.specs.Command.{Apdu}
use Rattle.file_rows.specs.Content.{IsValid}
use Rattle.file_rows.specs.declared.content.Content.{Content}
use Rattle.profile_card.specs.Card.{Card, outcome_at}
use Rattle.profile_card.specs.Commands.{decision}
use Rattle.record_codec.specs.declared.durable.Durable.{Durable}
use Rattle.uicc_channels.proofs.SessionLemmas.{Suits-fresh_session}
use Rattle.uicc_channels.specs.Session.{Suits, fresh_session}
use Rattle.uicc_channels.specs.declared.decided.Decided.{Decided}
use Rattle.uicc_channels.specs.declared.session.Session.{Session}
use Rattle.card_core.specs.Port.{blank_content}
use Rattle.card_core.specs.World.{card_on}

-- a blank card may be held
pub blank_valid : IsValid blank_content
blank_valid = record {
  quota = omega arith;
  few_pins = omega arith;
  system = inl (record { rows = refl; pins = refl });
}

-- a fresh session suits each card
pub suits_fresh : (session : Session) (content : Content) (refresh : Bool) (kept : Option ℕ)
    → session ≡ fresh_session refresh kept → IsValid content → Suits session content.rows
suits_fresh session content refresh kept is valid =
    subst (λ (its : Session). Suits its content.rows) (sym is)
    (Suits-fresh_session content refresh kept valid)

pub suits_blank : (session : Session) (refresh : Bool) (kept : Option ℕ)
    → session ≡ fresh_session refresh kept → Suits session []
suits_blank session refresh kept is =
    subst (λ (its : Session). Suits its []) (sym is)
    (Suits-fresh_session blank_content refresh kept blank_valid)

pub ruleset fresh_cards = (suits_fresh, suits_blank)

-- the content that was found, or a blank card's where none was
pub content_found : {X : Type 0} (found : Option X) (read : X → Content) (its : Content)
    → IfSome found (λ x. its ≡ read x) → IfNone found (its ≡ blank_content)
    → unwrap_or (option_map read found) blank_content ≡ its
content_found None read its some none = sym none
content_found (Some x) read its some none = sym some

-- what a decision comes to at the card that stands at a port
pub outcome_on : (durable : Durable) (port : ℕ) (session : Session) (card : Card)
    (decided : Decided) (c : Apdu) → card ≡ card_on durable port session
    → outcome_at card decided ≡ decision card c
    → outcome_at card decided ≡ decision (card_on durable port session) c
outcome_on durable port session card decided c at is =
    is ∙ ap (λ (its : Card). decision its c) at
