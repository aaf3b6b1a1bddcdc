-- What a command leaves of the session.
use Rattle.std.proofs.Common.{◌≡◌, ◌≢◌, Bool, true, false, cond, List, refl, ap, Option, Some}
use Rattle.std.proofs.Common.{None}
use Rattle.std.proofs.lemmas.Bool.{eqb-true}
use Rattle.std.specs.Prelude.{◌==◌, slice_index_or}
use Rattle.apdu_codec.specs.Command.{Apdu}
use Rattle.file_rows.specs.declared.pin.PinRow.{PinRow}
use Rattle.lsi_refresh.specs.Fetch.{fetch_row}
use Rattle.lsi_refresh.specs.TerminalCapability.{terminal_capability_row}
use Rattle.lsi_refresh.specs.TerminalProfile.{terminal_profile_row}
use Rattle.lsi_refresh.specs.TerminalResponse.{terminal_response_row}
use Rattle.uicc_admin.proofs.OthersLemmas.{others-admin}
use Rattle.uicc_admin.specs.Administration.{is_administration}
use Rattle.uicc_channels.proofs.ResponseLemmas.{response-has}
use Rattle.uicc_channels.proofs.RowLemmas.{decided-has}
use Rattle.uicc_channels.proofs.SessionLemmas.{channel_at-waiting}
use Rattle.uicc_channels.specs.ChannelLaws.{LeavesOthers}
use Rattle.uicc_channels.specs.CommandOutcome.{CommandOutcome}
use Rattle.uicc_channels.specs.CommandRow.{CommandRow, decided}
use Rattle.uicc_channels.specs.GetResponse.{get_response_row}
use Rattle.uicc_channels.specs.Session.{open_channel}
use Rattle.uicc_channels.specs.declared.chan.Chan.{Chan}
use Rattle.uicc_channels.specs.declared.session.Session.{Session}
use Rattle.uicc_data.proofs.DoneLemmas.{others-increase, others-read_binary, others-read_record}
use Rattle.uicc_data.proofs.DoneLemmas.{others-search_record, others-update_binary}
use Rattle.uicc_data.proofs.DoneLemmas.{others-update_record}
use Rattle.uicc_select.proofs.LocalLemmas.{stays-select, stays-status}
use Rattle.profile_card.specs.Card.{Card, allowed_at, isdr_here}
use Rattle.profile_card.specs.Commands.{decision, instruction_row, is_known_at}
use Rattle.profile_card.specs.Commands.{unknown_row}
use Rattle.profile_card.specs.PinCommands.{done_where, pin_command, pin_row}
use Rattle.profile_card.specs.declared.pin_commands.PinInstruction.{PinInstruction}
use Rattle.profile_card.specs.declared.pin_commands.PinInstruction.TheVariants.{Change as ChangePin}
use Rattle.profile_card.specs.declared.pin_commands.PinInstruction.TheVariants.{Disable as DisablePin}
use Rattle.profile_card.specs.declared.pin_commands.PinInstruction.TheVariants.{Enable as EnablePin}
use Rattle.profile_card.specs.declared.pin_commands.PinInstruction.TheVariants.{Unblock as UnblockPin}
use Rattle.profile_card.specs.declared.pin_commands.PinInstruction.TheVariants.{Verify as VerifyPin}

-- a PIN command leaves the channels
channels-pin : (session : Session) (instruction : PinInstruction) (c : Apdu) (pin : Option PinRow)
    → (done_where session (pin_command instruction) c pin).session.channels ≡ session.channels
channels-pin session instruction c None = refl
channels-pin session instruction c (Some pin) = refl

module _ (card : Card) (c : Apdu) where
  abbrev KeepsOthers : CommandRow → Type 0
  KeepsOthers row = LeavesOthers card.session c.channel (decided card.session row).session

  -- what is done leaves the channels
  by_done : (row : CommandRow) → row.done.session.channels ≡ card.session.channels → KeepsOthers row
  by_done row same =
      decided-has (λ outcome. LeavesOthers card.session c.channel outcome.session) card.session row (λ sw said other apart. refl)
      (λ none other apart. ap (λ (channels : List (Option Chan)). slice_index_or channels other None) same)

  pin : (instruction : PinInstruction) → KeepsOthers (pin_row instruction card.content.pins card.session c)
  pin instruction = by_done (pin_row instruction card.content.pins card.session c) (channels-pin card.session instruction c _)

  response : KeepsOthers (get_response_row card.session c)
  response =
      response-has (λ (outcome : CommandOutcome). LeavesOthers card.session c.channel outcome.session) card.session c
      (λ sw other apart. refl) (λ le is_open other apart. channel_at-waiting None card.session c.channel other _ apart)

  by_test : (is_its : Bool) (one other : CommandRow) → (is_its ≡ true → KeepsOthers one) → KeepsOthers other → KeepsOthers (cond is_its one other)
  by_test true one other first second = first refl
  by_test false one other first second = second

  -- but for MANAGE CHANNEL and RESIZE FILE a command leaves the other channels as they were
  others-instruction : c.ins ≢ 0x70 → c.ins ≢ 0xD4 → KeepsOthers (instruction_row card c)
  others-instruction no_manage no_resize =
      let rows = card.content.rows in
      let pins = card.content.pins in
      let session = card.session in
      let allowed = allowed_at card in
      by_test (c.ins == 0xA4) _ _ (λ is. (stays-select rows pins session (isdr_here card) c).others)
      (by_test (c.ins == 0xF2) _ _ (λ is. (stays-status rows pins session c).others)
      (by_test (c.ins == 0xB0) _ _ (λ is. others-read_binary rows allowed session c)
      (by_test (c.ins == 0xD6) _ _ (λ is. others-update_binary rows allowed session c)
      (by_test (c.ins == 0xB2) _ _ (λ is. others-read_record rows allowed session c)
      (by_test (c.ins == 0xDC) _ _ (λ is. others-update_record rows allowed session c)
      (by_test (c.ins == 0xA2) _ _ (λ is. others-search_record rows allowed session c)
      (by_test (c.ins == 0x32) _ _ (λ is. others-increase rows allowed session c)
      (by_test (c.ins == 0x20) _ _ (λ is. pin VerifyPin)
      (by_test (c.ins == 0x24) _ _ (λ is. pin ChangePin)
      (by_test (c.ins == 0x26) _ _ (λ is. pin DisablePin)
      (by_test (c.ins == 0x28) _ _ (λ is. pin EnablePin)
      (by_test (c.ins == 0x2C) _ _ (λ is. pin UnblockPin)
      (by_test (c.ins == 0x70) _ _ (λ is. absurd (no_manage (eqb-true c.ins 0x70 is)))
      (by_test (c.ins == 0xC0) _ _ (λ is. response)
      (by_test (is_administration c.ins) _ _ (λ is. others-admin rows allowed session c no_resize)
      (by_test (c.ins == 0x10) _ _ (λ is. by_done (terminal_profile_row session c) refl)
      (by_test (c.ins == 0xAA) _ _ (λ is. by_done (terminal_capability_row session c) refl)
      (by_test (c.ins == 0x12) _ _ (λ is. by_done (fetch_row session c) refl)
      (by_test (c.ins == 0x14) _ _ (λ is. by_done (terminal_response_row session c) refl)
      (by_done (unknown_row session c) refl))))))))))))))))))))

  pub others-decision : c.ins ≢ 0x70 → c.ins ≢ 0xD4 → LeavesOthers card.session c.channel (decision card c).session
  others-decision no_manage no_resize =
      by_test (is_known_at (open_channel card.session c.channel) c.ins) (instruction_row card c) (unknown_row card.session c)
      (λ is. others-instruction no_manage no_resize) (by_done (unknown_row card.session c) refl)
