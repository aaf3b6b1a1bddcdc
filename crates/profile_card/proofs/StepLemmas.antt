use Rattle.std.proofs.Common.{◌≡◌, ℕ, ◌-◌, Bool, false, List, sym, ◌∙◌, ap, subst, Option, Some}
use Rattle.std.proofs.Common.{None, IfSome, inl, inr}
use Rattle.std.proofs.lemmas.Nat.Bits.{bit_at-zero}
use Rattle.std.specs.Prelude.{◌==◌}
use Rattle.apdu_codec.specs.Command.{Apdu, Spells, refusal}
use Rattle.file_rows.specs.Change.{Fits}
use Rattle.file_rows.specs.Content.{IsValid}
use Rattle.file_rows.specs.declared.change.Change.{Change}
use Rattle.uicc_channels.proofs.SessionLemmas.{Suits-fresh_session}
use Rattle.uicc_channels.specs.CommandOutcome.{CommandOutcome, refused}
use Rattle.uicc_channels.specs.Session.{fresh_session}
use Rattle.file_rows.specs.PinRow.{is_verified}
use Rattle.uicc_channels.specs.declared.decided.Decided.{Decided}
use Rattle.uicc_channels.specs.CarriesOut.{content_after}
use Rattle.profile_card.proofs.FollowLemmas.{MayFollow-decision}
use Rattle.profile_card.specs.Card.{Card, IsSound, MayFollow, card_after, outcome_at, settled}
use Rattle.profile_card.specs.Commands.{decision}
use Rattle.profile_card.specs.Step.{Event, Outcome, Responds, Steps, StepsAt, carried_out}
use Rattle.profile_card.specs.Step.{restarted, silent}
use Rattle.profile_card.specs.Step.Event.{Command, Reset, Power, Bound, Unbound}

-- a decision on a command that is carried out is what the card responds
pub Responds-settled : (card after : Card) (bytes : List ℕ) (c : Apdu) (decided : Decided) → Spells bytes c → outcome_at card decided ≡ decision card c
    → after ≡ settled card decided → Responds card bytes (record { answer = Some decided.answer; card = after; change = decided.change })
Responds-settled card after bytes c decided spelled same is_after =
    let first : record { answer = Some decided.answer; card = after; change = decided.change } ≡ carried_out card (outcome_at card decided) =
    ap (λ (after : Card). record { answer = Some decided.answer; card = after; change = decided.change }) is_after in
    inl (c, spelled, first ∙ ap (λ (o : CommandOutcome). carried_out card o) same)

module _ (card : Card) (sound : IsSound card) where
  IsValid-after : (change : Option Change) → IfSome change (Fits card.content) → IsValid (content_after card.content change)
  IsValid-after None fits = sound.content
  IsValid-after (Some change) fits = fits.after

  -- a card stays sound
  pub IsSound-card_after : (outcome : CommandOutcome) → MayFollow card outcome → IsSound (card_after card outcome)
  IsSound-card_after outcome may = record { content = IsValid-after outcome.change may.change; session = may.session }

  IsSound-Responds : (bytes : List ℕ) (outcome : Outcome) → Responds card bytes outcome → IsSound outcome.card
  IsSound-Responds bytes outcome (inl h) =
      subst (λ (o : Outcome). IsSound o.card) (sym h.2) (IsSound-card_after (decision card h.0) (MayFollow-decision card sound h.0))
  IsSound-Responds bytes outcome (inr h) =
      subst (λ (o : Outcome). IsSound o.card) (sym h.1)
      (IsSound-card_after (refused card.session (refusal bytes)) (record { change = tt; session = sound.session }))

  IsSound-fresh : (refresh : Bool) (kept port : Option ℕ) → IsSound (record card { session = fresh_session refresh kept; port = port })
  IsSound-fresh refresh kept port = record { content = sound.content; session = Suits-fresh_session card.content refresh kept sound.content }

  IsSound-restarted : IsSound (restarted card)
  IsSound-restarted = record { content = sound.content; session = Suits-fresh_session card.content false None sound.content }

  IsSound-StepsAt : (from : Option ℕ) (event : Event) (outcome : Outcome) → StepsAt from card event outcome → IsSound outcome.card
  IsSound-StepsAt (Some port) (Command bytes) outcome h = IsSound-Responds bytes outcome h
  IsSound-StepsAt (Some port) Reset outcome h = subst (λ (o : Outcome). IsSound o.card) (sym h) IsSound-restarted
  IsSound-StepsAt (Some port) Power outcome h = subst (λ (o : Outcome). IsSound o.card) (sym h) IsSound-restarted
  IsSound-StepsAt (Some port) (Bound to refresh kept) outcome h = subst (λ (o : Outcome). IsSound o.card) (sym h) (IsSound-fresh refresh kept (Some to))
  IsSound-StepsAt (Some port) Unbound outcome h = subst (λ (o : Outcome). IsSound o.card) (sym h) (record { content = sound.content; session = sound.session })
  IsSound-StepsAt None (Command bytes) outcome h = subst (λ (o : Outcome). IsSound o.card) (sym h) sound
  IsSound-StepsAt None Reset outcome h = subst (λ (o : Outcome). IsSound o.card) (sym h) sound
  IsSound-StepsAt None Power outcome h = subst (λ (o : Outcome). IsSound o.card) (sym h) sound
  IsSound-StepsAt None (Bound to refresh kept) outcome h = subst (λ (o : Outcome). IsSound o.card) (sym h) (IsSound-fresh refresh kept (Some to))
  IsSound-StepsAt None Unbound outcome h = subst (λ (o : Outcome). IsSound o.card) (sym h) (record { content = sound.content; session = sound.session })

  -- each event leaves a sound card
  pub IsSound-Steps : (event : Event) (outcome : Outcome) → Steps card event outcome → IsSound outcome.card
  IsSound-Steps event outcome h = IsSound-StepsAt card.port event outcome h

-- in a fresh session nothing is verified
unverified : (refresh : Bool) (kept : Option ℕ) (number : ℕ) → is_verified (fresh_session refresh kept).verified number ≡ false
unverified refresh None number = ap (λ bit. bit == 1) (bit_at-zero (number - 1))
unverified refresh (Some channel) number = ap (λ bit. bit == 1) (bit_at-zero (number - 1))

unverified_in : (card after : Card) (outcome : Outcome) (number : ℕ) → is_verified after.session.verified number ≡ false → outcome ≡ silent after
    → is_verified outcome.card.session.verified number ≡ false
unverified_in card after outcome number none is = ap (λ (o : Outcome). is_verified o.card.session.verified number) is ∙ none

-- nor is it after what ends a session
pub unverified-Reset : (card : Card) (port number : ℕ) (outcome : Outcome) → card.port ≡ Some port → Steps card Reset outcome → is_verified outcome.card.session.verified number ≡ false
unverified-Reset card port number outcome at steps =
    unverified_in card (restarted card) outcome number (unverified false None number) (subst (λ (from : Option ℕ). StepsAt from card Reset outcome) at steps)

pub unverified-Power : (card : Card) (port number : ℕ) (outcome : Outcome) → card.port ≡ Some port → Steps card Power outcome → is_verified outcome.card.session.verified number ≡ false
unverified-Power card port number outcome at steps =
    unverified_in card (restarted card) outcome number (unverified false None number) (subst (λ (from : Option ℕ). StepsAt from card Power outcome) at steps)

pub unverified-Bound : (card : Card) (port number : ℕ) (refresh : Bool) (kept : Option ℕ) (outcome : Outcome) → Steps card (Bound port refresh kept) outcome
    → is_verified outcome.card.session.verified number ≡ false
unverified-Bound card port number refresh kept outcome steps =
    unverified_in card (record card { session = fresh_session refresh kept; port = Some port }) outcome number (unverified refresh kept number) (bound card.port steps)
  where
    bound : (from : Option ℕ) → StepsAt from card (Bound port refresh kept) outcome → outcome ≡ silent (record card { session = fresh_session refresh kept; port = Some port })
    bound None h = h
    bound (Some at) h = h
