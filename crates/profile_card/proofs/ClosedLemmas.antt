-- What comes to a card on a channel that isn't open.
use Rattle.std.proofs.Common.{◌≡◌, Bool, true, false, cond, ◌∙◌, ap, refl, Option, None}
use Rattle.std.specs.Prelude.{◌==◌, is_some}
use Rattle.apdu_codec.specs.Command.{Apdu}
use Rattle.apdu_codec.specs.declared.status.TheConstants.Sw.{CHANNEL_NOT_SUPPORTED}
use Rattle.plain_lists.specs.FirstOf.{first_of}
use Rattle.lsi_refresh.specs.Fetch.{fetch_row}
use Rattle.lsi_refresh.specs.TerminalCapability.{terminal_capability_row}
use Rattle.lsi_refresh.specs.TerminalProfile.{terminal_profile_row}
use Rattle.lsi_refresh.specs.TerminalResponse.{terminal_response_row}
use Rattle.uicc_channels.specs.CommandOutcome.{refused}
use Rattle.uicc_channels.specs.CommandRow.{CommandRow, decided, refused_or}
use Rattle.uicc_admin.proofs.ClosedLemmas.{channel-admin}
use Rattle.uicc_admin.specs.Administration.{admin_row, is_administration}
use Rattle.uicc_channels.specs.GetResponse.{get_response_row}
use Rattle.uicc_channels.specs.ManageChannel.{manage_channel_row}
use Rattle.uicc_channels.specs.Needs.{refusals}
use Rattle.uicc_channels.specs.Session.{channel_at, open_channel}
use Rattle.uicc_channels.specs.declared.chan.Chan.{Chan}
use Rattle.uicc_data.proofs.ClosedLemmas.{channel-increase, channel-read_binary}
use Rattle.uicc_data.proofs.ClosedLemmas.{channel-read_record, channel-search_record}
use Rattle.uicc_data.proofs.ClosedLemmas.{channel-update_binary, channel-update_record}
use Rattle.uicc_data.specs.Binary.{read_binary_row, update_binary_row}
use Rattle.uicc_data.specs.Increase.{increase_row}
use Rattle.uicc_data.specs.Record.{read_record_row, update_record_row}
use Rattle.uicc_data.specs.Search.{search_record_row}
use Rattle.uicc_select.specs.Select.{select_row}
use Rattle.uicc_select.specs.Status.{status_row}
use Rattle.profile_card.specs.Card.{Card, allowed_at, isdr_here}
use Rattle.profile_card.specs.Commands.{command_row, instruction_row, is_known_at, unknown_row}
use Rattle.profile_card.specs.PinCommands.{pin_row}
use Rattle.profile_card.specs.declared.pin_commands.PinInstruction.TheVariants.{Change as ChangePin}
use Rattle.profile_card.specs.declared.pin_commands.PinInstruction.TheVariants.{Disable as DisablePin}
use Rattle.profile_card.specs.declared.pin_commands.PinInstruction.TheVariants.{Enable as EnablePin}
use Rattle.profile_card.specs.declared.pin_commands.PinInstruction.TheVariants.{Unblock as UnblockPin}
use Rattle.profile_card.specs.declared.pin_commands.PinInstruction.TheVariants.{Verify as VerifyPin}

module _ (card : Card) (c : Apdu) (closed : is_some (channel_at card.session c.channel) ≡ false) where
  abbrev IsRefused : CommandRow → Type 0
  IsRefused row = decided card.session row ≡ refused card.session CHANNEL_NOT_SUPPORTED

  by_need : (row : CommandRow) → row.needs.channel ≡ is_some (channel_at card.session c.channel) → IsRefused row
  by_need row need =
      let first : row.needs.channel ≡ false = need ∙ closed in
      ap (λ (channel : Bool). refused_or (first_of (refusals (record row.needs { channel = channel }))) card.session row.done) first

  by_test : (is_its : Bool) (one other : CommandRow) → IsRefused one → IsRefused other → IsRefused (cond is_its one other)
  by_test true one other first second = first
  by_test false one other first second = second

  by_instruction : IsRefused (instruction_row card c)
  by_instruction =
      let rows = card.content.rows in
      let pins = card.content.pins in
      let session = card.session in
      let allowed = allowed_at card in
      by_test (c.ins == 0xA4) _ _ (by_need (select_row rows pins session (isdr_here card) c) refl)
      (by_test (c.ins == 0xF2) _ _ (by_need (status_row rows pins session c) refl)
      (by_test (c.ins == 0xB0) _ _ (by_need (read_binary_row rows allowed session c) (channel-read_binary rows allowed session c))
      (by_test (c.ins == 0xD6) _ _ (by_need (update_binary_row rows allowed session c) (channel-update_binary rows allowed session c))
      (by_test (c.ins == 0xB2) _ _ (by_need (read_record_row rows allowed session c) (channel-read_record rows allowed session c))
      (by_test (c.ins == 0xDC) _ _ (by_need (update_record_row rows allowed session c) (channel-update_record rows allowed session c))
      (by_test (c.ins == 0xA2) _ _ (by_need (search_record_row rows allowed session c) (channel-search_record rows allowed session c))
      (by_test (c.ins == 0x32) _ _ (by_need (increase_row rows allowed session c) (channel-increase rows allowed session c))
      (by_test (c.ins == 0x20) _ _ (by_need (pin_row VerifyPin pins session c) refl)
      (by_test (c.ins == 0x24) _ _ (by_need (pin_row ChangePin pins session c) refl)
      (by_test (c.ins == 0x26) _ _ (by_need (pin_row DisablePin pins session c) refl)
      (by_test (c.ins == 0x28) _ _ (by_need (pin_row EnablePin pins session c) refl)
      (by_test (c.ins == 0x2C) _ _ (by_need (pin_row UnblockPin pins session c) refl)
      (by_test (c.ins == 0x70) _ _ (by_need (manage_channel_row session c) refl)
      (by_test (c.ins == 0xC0) _ _ (by_need (get_response_row session c) refl)
      (by_test (is_administration c.ins) _ _ (by_need (admin_row rows allowed session c) (channel-admin rows allowed session c))
      (by_test (c.ins == 0x10) _ _ (by_need (terminal_profile_row session c) refl)
      (by_test (c.ins == 0xAA) _ _ (by_need (terminal_capability_row session c) refl)
      (by_test (c.ins == 0x12) _ _ (by_need (fetch_row session c) refl)
      (by_test (c.ins == 0x14) _ _ (by_need (terminal_response_row session c) refl)
      (by_need (unknown_row session c) refl))))))))))))))))))))

  closed_row : IsRefused (command_row card c)
  closed_row = by_test (is_known_at (open_channel card.session c.channel) c.ins) _ _ by_instruction (by_need (unknown_row card.session c) refl)

-- a command on a channel that isn't open is refused
pub refused_where_closed : (card : Card) (c : Apdu) → channel_at card.session c.channel ≡ None → decided card.session (command_row card c) ≡ refused card.session CHANNEL_NOT_SUPPORTED
refused_where_closed card c none = closed_row card c (ap (λ (o : Option Chan). is_some o) none)
