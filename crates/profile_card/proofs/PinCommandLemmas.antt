-- What the PIN commands come to at a card.
use Rattle.std.proofs.Common.{◌≡◌, ℕ, Bool, true, false, cond, List, [], ◌∷◌, sym, subst, arith}
use Rattle.std.proofs.Common.{⊎_elim, Option, Some, None, IfSome, Contains}
use Rattle.std.specs.Prelude.{option_map}
use Rattle.std.specs.List.{AllByRecursion}
use Rattle.access_rules.proofs.Finding.{Contains-pin_for}
use Rattle.access_rules.specs.Met.{pin_for}
use Rattle.apdu_codec.specs.Answer.{status_alone}
use Rattle.apdu_codec.specs.Command.{Apdu}
use Rattle.file_rows.proofs.ListLemmas.{contains_cases}
use Rattle.file_rows.proofs.PinSetLemmas.{fits_pin}
use Rattle.file_rows.specs.Change.{Fits, KeepsPin}
use Rattle.file_rows.specs.Content.{IsValid}
use Rattle.file_rows.specs.PinRow.{IsPin}
use Rattle.file_rows.specs.declared.change.Change.TheVariants.{PinSet}
use Rattle.file_rows.specs.declared.content.Content.{Content}
use Rattle.file_rows.specs.declared.pin.PinRow.{PinRow}
use Rattle.pin_state.proofs.FormLemmas.{IsPin-outcome, KeepsPin-outcome}
use Rattle.pin_state.specs.PinCommand.{PinCommand, outcome}
use Rattle.pin_state.specs.PinOutcome.{PinOutcome}
use Rattle.pin_state.specs.SamePin.{same_pin}
use Rattle.uicc_channels.specs.Session.{Suits, open_channel}
use Rattle.uicc_channels.specs.Verified.{verified_after}
use Rattle.file_rows.specs.PinRow.{is_verified}
use Rattle.uicc_channels.specs.declared.session.Session.{Session}
use Rattle.profile_card.specs.Card.{Card, IsSound, MayFollow}
use Rattle.profile_card.specs.PinCommands.{done_where, pin_command, pin_done, pin_row}
use Rattle.profile_card.specs.declared.pin_commands.PinInstruction.{PinInstruction}

-- what each element has, an element has
each_contained : {X : Type 0} (P : X → Type 0) (xs : List X) (x : X) → AllByRecursion P xs → Contains xs x → P x
each_contained P [] x each there = absurd (omega (arith, there.1))
each_contained P (y ∷ ys) x each there =
    ⊎_elim (λ same. subst P same each.0) (λ later. each_contained P ys x each.1 later) (contains_cases y ys x there)

-- the PINs of a card have the form of PINs
pub are_pins : (content : Content) → IsValid content → AllByRecursion IsPin content.pins
are_pins content valid =
    ⊎_elim (λ empty. subst (AllByRecursion IsPin) (sym empty.pins) tt) (λ system. system.pins.each) valid.system

-- the PIN that is found for a key has the form of one
IsPin-pin_for : (pins : List PinRow) (directory : List ℕ) (key : ℕ) → AllByRecursion IsPin pins → IfSome (pin_for pins directory key) IsPin
IsPin-pin_for pins directory key each = form (pin_for pins directory key) (Contains-pin_for pins directory key)
  where
    form : (o : Option PinRow) → IfSome o (Contains pins) → IfSome o IsPin
    form None there = tt
    form (Some pin) there = each_contained IsPin pins pin each there

-- so has one that was found
pub IsPin-found : (pins : List PinRow) (directory : List ℕ) (key : ℕ) (pin : PinRow) → AllByRecursion IsPin pins → Some pin ≡ pin_for pins directory key → IsPin pin
IsPin-found pins directory key pin each found = subst (λ (o : Option PinRow). IfSome o IsPin) (sym found) (IsPin-pin_for pins directory key each)

-- a session that suits its card goes on to suit it, whatever is verified
suits_verified : (session : Session) (content : Content) (verified : ℕ) → Suits session content.rows → Suits (record session { verified = verified }) content.rows
suits_verified session content verified suits = record { places = suits.places; basic = suits.basic; each = suits.each }

module _ (card : Card) (sound : IsSound card) where
  -- what a PIN command comes to at a PIN of the card may follow
  MayFollow-pin_done : (pin : PinRow) (outcome : PinOutcome) → Contains card.content.pins pin → IsPin outcome.pin → KeepsPin pin outcome.pin → MayFollow card (pin_done card.session pin outcome)
  MayFollow-pin_done pin outcome there form keeps = step (same_pin outcome.pin pin)
    where
      after : Session
      after = record card.session { verified = verified_after card.session.verified pin.number outcome.verified }

      suits : Suits after card.content.rows
      suits = suits_verified card.session card.content (verified_after card.session.verified pin.number outcome.verified) sound.session

      fits : Fits card.content (PinSet outcome.pin)
      fits = (fits_pin outcome.pin card.content sound.content).1 (record { there = (there.0, pin, there.1, there.2, keeps); form = form })

      step : (b : Bool) → MayFollow card (record { answer = status_alone outcome.sw; session = after; change = option_map PinSet (cond b None (Some outcome.pin)) })
      step true = record { change = tt; session = suits }
      step false = record { change = fits; session = suits }

  MayFollow-done_where : (command : List ℕ → PinCommand) (c : Apdu) (o : Option PinRow) → IfSome o (Contains card.content.pins) → MayFollow card (done_where card.session command c o)
  MayFollow-done_where command c None there = record { change = tt; session = sound.session }
  MayFollow-done_where command c (Some pin) there =
      let form : IsPin pin = each_contained IsPin card.content.pins pin (are_pins card.content sound.content) there in
      let verified = is_verified card.session.verified pin.number in
      MayFollow-pin_done pin (outcome pin verified (command c.body)) there (IsPin-outcome pin verified (command c.body) form) (KeepsPin-outcome pin verified (command c.body))

  pub MayFollow-pin_row : (instruction : PinInstruction) (c : Apdu) → MayFollow card (pin_row instruction card.content.pins card.session c).done
  MayFollow-pin_row instruction c =
      MayFollow-done_where (pin_command instruction) c _ (Contains-pin_for card.content.pins (open_channel card.session c.channel).dir c.p2)
