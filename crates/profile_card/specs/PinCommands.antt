-- The PIN commands of a card (ETSI TS 102 221, VERIFY PIN to UNBLOCK PIN).
use Rattle.std.specs.Prelude.{ℕ, Bool, true, false, not, ◌==◌, ◌||◌, List, [], ◌∷◌, length, Option}
use Rattle.std.specs.Prelude.{Some, None, is_some, option_map}
use Rattle.access_rules.specs.Met.{pin_for}
use Rattle.apdu_codec.specs.Answer.{status_alone}
use Rattle.apdu_codec.specs.Command.{Apdu}
use Rattle.apdu_codec.specs.Ins.{is_one_of}
use Rattle.apdu_codec.specs.declared.status.TheConstants.Sw.{DATA_NOT_FOUND, OK}
use Rattle.file_rows.specs.declared.change.Change.TheVariants.{PinSet}
use Rattle.file_rows.specs.declared.pin.PinRow.{PinRow}
use Rattle.pin_state.specs.PinCommand.{PinCommand, outcome}
use Rattle.pin_state.specs.PinCommand.PinCommand.{Change as ChangePin, Disable as DisablePin}
use Rattle.pin_state.specs.PinCommand.PinCommand.{Enable as EnablePin, Unblock as UnblockPin}
use Rattle.pin_state.specs.PinCommand.PinCommand.{Verify as VerifyPin}
use Rattle.pin_state.specs.PinOutcome.{PinOutcome}
use Rattle.pin_state.specs.SamePin.{set_row}
use Rattle.uicc_channels.specs.CommandOutcome.{CommandOutcome, answering}
use Rattle.uicc_channels.specs.CommandRow.{CommandRow}
use Rattle.uicc_channels.specs.Needs.{needs_of, refused_unless}
use Rattle.uicc_channels.specs.Session.{open_channel}
use Rattle.uicc_channels.specs.Verified.{verified_after}
use Rattle.file_rows.specs.PinRow.{is_verified}
use Rattle.uicc_channels.specs.declared.session.Session.{Session}
use Rattle.profile_card.specs.declared.pin_commands.PinInstruction.{PinInstruction}
use Rattle.profile_card.specs.declared.pin_commands.PinInstruction.TheVariants.{Change, Disable}
use Rattle.profile_card.specs.declared.pin_commands.PinInstruction.TheVariants.{Enable, Unblock}
use Rattle.profile_card.specs.declared.pin_commands.PinInstruction.TheVariants.{Verify}

abbrev pub pin_command : PinInstruction → List ℕ → PinCommand
pin_command Verify body = VerifyPin body
pin_command Change body = ChangePin body
pin_command Disable body = DisablePin body
pin_command Enable body = EnablePin body
pin_command Unblock body = UnblockPin body

-- whether the command asks for the tries left where it has no body
abbrev pub asks_without_body : PinInstruction → Bool
asks_without_body Verify = true
asks_without_body Change = false
asks_without_body Disable = false
asks_without_body Enable = false
asks_without_body Unblock = true

-- VERIFY, CHANGE, DISABLE, ENABLE and UNBLOCK PIN
abbrev pub is_pin_instruction : ℕ → Bool
is_pin_instruction ins = is_one_of (0x20 ∷ 0x24 ∷ 0x26 ∷ 0x28 ∷ 0x2C ∷ []) ins

-- what a PIN command comes to at a card by what it comes to at its PIN: the PIN is set where it
-- changes
abbrev pub pin_done : Session → PinRow → PinOutcome → CommandOutcome
pin_done session pin outcome =
    record {
      answer = status_alone outcome.sw;
      session = record session {
        verified = verified_after session.verified pin.number outcome.verified;
      };
      change = option_map PinSet (set_row pin outcome);
    }

abbrev pub done_where : Session → (List ℕ → PinCommand) → Apdu → Option PinRow → CommandOutcome
done_where session command c None = answering session (status_alone OK)
done_where session command c (Some pin) = pin_done session pin
    (outcome pin (is_verified session.verified pin.number) (command c.body))

-- a PIN command, at the PIN of the key P2 that is found from the current directory upwards
abbrev pub pin_row : PinInstruction → List PinRow → Session → Apdu → CommandRow
pin_row instruction pins session c =
    let pin = pin_for pins (open_channel session c.channel).dir c.p2 in
    record {
      needs = record (needs_of session c) {
        parameters = c.p1 == 0;
        lengths = not (length c.body == 0) || asks_without_body instruction;
        own = refused_unless (is_some pin) DATA_NOT_FOUND;
      };
      done = done_where session (pin_command instruction) c pin;
    }
