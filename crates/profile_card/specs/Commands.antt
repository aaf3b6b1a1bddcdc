use Rattle.std.specs.Prelude.{ℕ, Bool, false, not, ◌==◌, ◌||◌, [], ◌∷◌, if◌then◌else◌}
use Rattle.apdu_codec.specs.Answer.{status_alone}
use Rattle.apdu_codec.specs.Command.{Apdu}
use Rattle.apdu_codec.specs.Ins.{is_one_of}
use Rattle.apdu_codec.specs.declared.status.TheConstants.Sw.{OK}
use Rattle.lsi_refresh.specs.Announcement.{announced}
use Rattle.lsi_refresh.specs.Fetch.{fetch_row}
use Rattle.lsi_refresh.specs.TerminalCapability.{terminal_capability_row}
use Rattle.lsi_refresh.specs.TerminalProfile.{terminal_profile_row}
use Rattle.lsi_refresh.specs.TerminalResponse.{terminal_response_row}
use Rattle.uicc_admin.specs.Administration.{admin_row, is_administration}
use Rattle.uicc_channels.specs.CommandOutcome.{CommandOutcome, answering}
use Rattle.uicc_channels.specs.CommandRow.{CommandRow, decided}
use Rattle.uicc_channels.specs.GetResponse.{get_response_row}
use Rattle.uicc_channels.specs.ManageChannel.{manage_channel_row}
use Rattle.uicc_channels.specs.Needs.{needs_of}
use Rattle.uicc_channels.specs.Session.{open_channel}
use Rattle.uicc_channels.specs.declared.chan.Chan.{Chan}
use Rattle.uicc_channels.specs.declared.session.Session.{Session}
use Rattle.uicc_data.specs.Binary.{read_binary_row, update_binary_row}
use Rattle.uicc_data.specs.Increase.{increase_row}
use Rattle.uicc_data.specs.Record.{read_record_row, update_record_row}
use Rattle.uicc_data.specs.Search.{search_record_row}
use Rattle.uicc_select.specs.Select.{select_row}
use Rattle.uicc_select.specs.Status.{status_row}
use Rattle.profile_card.specs.Card.{Card, allowed_at, isdr_here}
use Rattle.profile_card.specs.PinCommands.{pin_row}
use Rattle.profile_card.specs.declared.pin_commands.PinInstruction.TheVariants.{Change, Disable}
use Rattle.profile_card.specs.declared.pin_commands.PinInstruction.TheVariants.{Enable, Unblock}
use Rattle.profile_card.specs.declared.pin_commands.PinInstruction.TheVariants.{Verify}

-- an instruction that the card doesn't know
abbrev pub unknown_row : Session → Apdu → CommandRow
unknown_row session c =
    record {
      needs = record (needs_of session c) { instruction = false };
      done = answering session (status_alone OK);
    }

-- the instructions that a channel knows where the ISD-R is selected on it: SELECT, MANAGE CHANNEL,
-- TERMINAL PROFILE, TERMINAL CAPABILITY, FETCH and TERMINAL RESPONSE
abbrev pub is_for_isdr : ℕ → Bool
is_for_isdr ins = is_one_of (0xA4 ∷ 0x70 ∷ 0x10 ∷ 0xAA ∷ 0x12 ∷ 0x14 ∷ []) ins

-- whether a channel knows an instruction; where the ISD-R isn't selected it knows them all
abbrev pub is_known_at : Chan → ℕ → Bool
is_known_at chan ins = not chan.isdr || is_for_isdr ins

-- the row of an instruction
abbrev pub instruction_row : Card → Apdu → CommandRow
instruction_row card c =
    let session = card.session in
    let rows = card.content.rows in
    let pins = card.content.pins in
    let allowed = allowed_at card in
    if c.ins == 0xA4 then select_row rows pins session (isdr_here card) c
    else if c.ins == 0xF2 then status_row rows pins session c
    else if c.ins == 0xB0 then read_binary_row rows allowed session c
    else if c.ins == 0xD6 then update_binary_row rows allowed session c
    else if c.ins == 0xB2 then read_record_row rows allowed session c
    else if c.ins == 0xDC then update_record_row rows allowed session c
    else if c.ins == 0xA2 then search_record_row rows allowed session c
    else if c.ins == 0x32 then increase_row rows allowed session c
    else if c.ins == 0x20 then pin_row Verify pins session c
    else if c.ins == 0x24 then pin_row Change pins session c
    else if c.ins == 0x26 then pin_row Disable pins session c
    else if c.ins == 0x28 then pin_row Enable pins session c
    else if c.ins == 0x2C then pin_row Unblock pins session c
    else if c.ins == 0x70 then manage_channel_row session c
    else if c.ins == 0xC0 then get_response_row session c
    else if is_administration c.ins then admin_row rows allowed session c
    else if c.ins == 0x10 then terminal_profile_row session c
    else if c.ins == 0xAA then terminal_capability_row session c
    else if c.ins == 0x12 then fetch_row session c
    else if c.ins == 0x14 then terminal_response_row session c
    else unknown_row session c

-- the row of a command: that of its instruction, where its channel knows it
abbrev pub command_row : Card → Apdu → CommandRow
command_row card c =
    if is_known_at (open_channel card.session c.channel) c.ins then instruction_row card c
    else unknown_row card.session c

-- what a command comes to at a card: what its row says, with the REFRESH announced that waits
abbrev pub decision : Card → Apdu → CommandOutcome
decision card c = announced (decided card.session (command_row card c))
