use Rattle.std.proofs.Common.{◌≡◌, Bool, true, false, cond, ◌&&◌, ◌||◌, ◌⊎◌, inl, inr, refl, sym}
use Rattle.std.proofs.Common.{ap, ◌∙◌}
use Rattle.std.specs.Prelude.{◌==◌, is_some}
use Rattle.std.proofs.lemmas.Bool.{eqb-true, true≢false}
use Rattle.apdu_codec.specs.Command.{Apdu}
use Rattle.apdu_codec.specs.declared.status.TheConstants.Sw.{WRONG_INSTRUCTION}
use Rattle.lsi_refresh.proofs.OutcomeLemmas.{announced-other}
use Rattle.lsi_refresh.specs.Announcement.{announced}
use Rattle.uicc_channels.specs.CommandOutcome.{CommandOutcome, refused}
use Rattle.uicc_channels.specs.CommandRow.{CommandRow, decided}
use Rattle.uicc_channels.specs.Session.{channel_at, open_channel}
use Rattle.profile_card.specs.Card.{Card}
use Rattle.profile_card.specs.Commands.{command_row, decision, instruction_row, is_for_isdr}
use Rattle.profile_card.specs.Commands.{is_known_at, unknown_row}
use Rattle.profile_card.specs.Own.{is_common}

both_met : (one other : Bool) → (one && other) ≡ true → (one ≡ true) × (other ≡ true)
both_met true other e = (refl, e)
both_met false other e = absurd (true≢false (sym e))

either_met : (one other : Bool) → (one || other) ≡ true → (one ≡ true) ⊎ (other ≡ true)
either_met true other e = inl refl
either_met false other e = inr e

module _ (card : Card) (c : Apdu) where
  -- an unknown instruction on an open channel
  by_row : command_row card c ≡ unknown_row card.session c → is_some (channel_at card.session c.channel) ≡ true → decision card c ≡ refused card.session WRONG_INSTRUCTION
  by_row unknown is_open =
      let is_refused : decided card.session (unknown_row card.session c) ≡ refused card.session WRONG_INSTRUCTION = rw is_open refl in
      ap (λ (row : CommandRow). announced (decided card.session row)) unknown
      ∙ (ap (λ (outcome : CommandOutcome). announced outcome) is_refused ∙ announced-other (refused card.session WRONG_INSTRUCTION) refl)

  either_way : (known : Bool) (row : CommandRow) → row ≡ unknown_row card.session c → cond known row (unknown_row card.session c) ≡ unknown_row card.session c
  either_way true row same = same
  either_way false row same = refl

  unknown-lsi : c.ins ≡ 0x7A → command_row card c ≡ unknown_row card.session c
  unknown-lsi is = either_way (is_known_at (open_channel card.session c.channel) c.ins) (instruction_row card c) (rw is refl)

  -- where the ISD-R is selected, an instruction is unknown that isn't for it
  unknown_at_isdr : (open_channel card.session c.channel).isdr ≡ true → is_for_isdr c.ins ≡ false → command_row card c ≡ unknown_row card.session c
  unknown_at_isdr isdr other =
      let known : is_known_at (open_channel card.session c.channel) c.ins ≡ false = rw (isdr, other) refl in
      ap (λ (known : Bool). cond known (instruction_row card c) (unknown_row card.session c)) known

  -- what the common part answers in the card's place is unknown to the card
  pub unknown_to_the_card : is_common card.session c ≡ true → decision card c ≡ refused card.session WRONG_INSTRUCTION
  unknown_to_the_card common =
      let isdr_alone = ((c.ins == 0xE2) || (c.ins == 0xC0)) && (open_channel card.session c.channel).isdr in
      let met = both_met (is_some (channel_at card.session c.channel)) ((c.ins == 0x7A) || isdr_alone) common in
      elim (either_met (c.ins == 0x7A) isdr_alone met.1) [
        | inl lsi ↦ by_row (unknown-lsi (eqb-true c.ins 0x7A lsi)) met.0
        | inr isdr ↦
            let both = both_met ((c.ins == 0xE2) || (c.ins == 0xC0)) (open_channel card.session c.channel).isdr isdr in
            elim (either_met (c.ins == 0xE2) (c.ins == 0xC0) both.0) [
              | inl store ↦ by_row (unknown_at_isdr both.1 (rw (eqb-true c.ins 0xE2 store) refl)) met.0
              | inr response ↦ by_row (unknown_at_isdr both.1 (rw (eqb-true c.ins 0xC0 response) refl)) met.0
            ]
      ]
