use Rattle.std.proofs.Common.{◌≡◌, Bool, true, false, cond, sym, subst, ap, ◌∙◌, Option, Some, None}
use Rattle.std.proofs.Common.{IfSome}
use Rattle.std.specs.Prelude.{◌==◌}
use Rattle.apdu_codec.specs.Answer.{status_alone}
use Rattle.apdu_codec.specs.Command.{Apdu}
use Rattle.apdu_codec.specs.declared.answers.Answer.{Answer}
use Rattle.apdu_codec.specs.declared.status.TheConstants.Sw.{OK}
use Rattle.apdu_codec.specs.declared.status.Sw.{Sw}
use Rattle.file_rows.specs.Change.{Fits}
use Rattle.file_rows.specs.declared.change.Change.{Change}
use Rattle.lsi_refresh.proofs.OutcomeLemmas.{Suits-with_refresh}
use Rattle.lsi_refresh.specs.Announcement.{announced}
use Rattle.lsi_refresh.specs.Fetch.{fetch_row}
use Rattle.lsi_refresh.specs.RefreshCommand.{refresh_command}
use Rattle.lsi_refresh.specs.RefreshState.{with_refresh}
use Rattle.lsi_refresh.specs.TerminalCapability.{terminal_capability_row}
use Rattle.lsi_refresh.specs.TerminalProfile.{terminal_profile_row}
use Rattle.lsi_refresh.specs.TerminalResponse.{terminal_response_row}
use Rattle.uicc_channels.specs.declared.session.Refresh.{Refresh}
use Rattle.uicc_channels.specs.declared.session.Refresh.TheVariants.{Fetched, Quiet}
use Rattle.uicc_channels.specs.CommandOutcome.{CommandOutcome, answering, refused}
use Rattle.uicc_channels.specs.CommandRow.{CommandRow, decided, refusal_of, refused_or}
use Rattle.uicc_channels.specs.Session.{Suits, open_channel}
use Rattle.uicc_admin.proofs.AdministrationLemmas.{CanCarryOut-administration}
use Rattle.uicc_admin.specs.Administration.{is_administration}
use Rattle.uicc_channels.proofs.CarryLemmas.{CanCarryOut-get_response, CanCarryOut-manage_channel}
use Rattle.uicc_data.proofs.BinaryLemmas.{CanCarryOut-read_binary, CanCarryOut-update_binary}
use Rattle.uicc_data.proofs.RecordCarryLemmas.{CanCarryOut-read_record, CanCarryOut-update_record}
use Rattle.uicc_data.proofs.SearchCarryLemmas.{CanCarryOut-increase, CanCarryOut-search_record}
use Rattle.uicc_channels.specs.CarriesOut.{content_after}
use Rattle.uicc_select.proofs.SelectionLemmas.{change-select_row, change-status_row}
use Rattle.uicc_select.proofs.SuitsLemmas.{AreRows-valid, Suits-select_row, Suits-status_row}
use Rattle.uicc_select.specs.Select.{select_row}
use Rattle.uicc_select.specs.Status.{status_row}
use Rattle.profile_card.proofs.PinCommandLemmas.{MayFollow-pin_row}
use Rattle.profile_card.specs.Card.{Card, IsSound, MayFollow, allowed_at, isdr_here}
use Rattle.profile_card.specs.Commands.{command_row, decision, instruction_row, is_known_at}
use Rattle.profile_card.specs.Commands.{unknown_row}
use Rattle.profile_card.specs.PinCommands.{pin_row}
use Rattle.profile_card.specs.declared.pin_commands.PinInstruction.{PinInstruction}
use Rattle.profile_card.specs.declared.pin_commands.PinInstruction.TheVariants.{Change as ChangePin}
use Rattle.profile_card.specs.declared.pin_commands.PinInstruction.TheVariants.{Disable as DisablePin}
use Rattle.profile_card.specs.declared.pin_commands.PinInstruction.TheVariants.{Enable as EnablePin}
use Rattle.profile_card.specs.declared.pin_commands.PinInstruction.TheVariants.{Unblock as UnblockPin}
use Rattle.profile_card.specs.declared.pin_commands.PinInstruction.TheVariants.{Verify as VerifyPin}

module _ (card : Card) (sound : IsSound card) where
  -- what changes no content may follow where its session suits the card
  pub MayFollow-unchanged : (outcome : CommandOutcome) → outcome.change ≡ None → Suits outcome.session card.content.rows → MayFollow card outcome
  MayFollow-unchanged outcome none suits = record {
    change = subst (λ (change : Option Change). IfSome change (Fits card.content)) (sym none) tt;
    session = subst (λ (change : Option Change). Suits outcome.session (content_after card.content change).rows) (sym none) suits;
  }

  -- One fact for each instruction: what it comes to may follow.

  MayFollow-select_row : (c : Apdu) → MayFollow card (select_row card.content.rows card.content.pins card.session (isdr_here card) c).done
  MayFollow-select_row c =
      MayFollow-unchanged _ (change-select_row card.content.rows card.content.pins card.session (isdr_here card) c)
      (Suits-select_row card.content.rows (AreRows-valid card.content sound.content) card.session sound.session card.content.pins (isdr_here card) c)

  MayFollow-status_row : (c : Apdu) → MayFollow card (status_row card.content.rows card.content.pins card.session c).done
  MayFollow-status_row c =
      MayFollow-unchanged _ (change-status_row card.content.rows card.content.pins card.session c)
      (Suits-status_row card.content.rows (AreRows-valid card.content sound.content) card.session sound.session card.content.pins c)

  MayFollow-answering : (answer : Answer) → MayFollow card (answering card.session answer)
  MayFollow-answering answer = record { change = tt; session = sound.session }

  MayFollow-with_refresh : (refresh : Refresh) (answer : Answer) → MayFollow card (answering (with_refresh refresh card.session) answer)
  MayFollow-with_refresh refresh answer = record { change = tt; session = Suits-with_refresh card.content.rows refresh card.session sound.session }

  MayFollow-unknown_row : (c : Apdu) → MayFollow card (unknown_row card.session c).done
  MayFollow-unknown_row c = MayFollow-answering (status_alone OK)

  -- a refusal may follow, and what is done where nothing refuses it

  pub MayFollow-refused : (sw : Sw) → MayFollow card (refused card.session sw)
  MayFollow-refused sw = record { change = tt; session = sound.session }

  MayFollow-refused_or : (refusal : Option Sw) (done : CommandOutcome) → MayFollow card done → MayFollow card (refused_or refusal card.session done)
  MayFollow-refused_or None done may = may
  MayFollow-refused_or (Some sw) done may = MayFollow-refused sw

  abbrev MayFollowRow : CommandRow → Type 0
  MayFollowRow row = MayFollow card (decided card.session row)

  by_done : (row : CommandRow) → MayFollow card row.done → MayFollowRow row
  by_done row may = MayFollow-refused_or (refusal_of row) row.done may

  -- The dispatch goes over them all.

  unknown : (c : Apdu) → MayFollowRow (unknown_row card.session c)
  unknown c = by_done (unknown_row card.session c) (MayFollow-unknown_row c)

  by_test : (is_its : Bool) (one other : CommandRow) → MayFollowRow one → MayFollowRow other → MayFollowRow (cond is_its one other)
  by_test true one other first second = first
  by_test false one other first second = second

  pin : (instruction : PinInstruction) (c : Apdu) → MayFollowRow (pin_row instruction card.content.pins card.session c)
  pin instruction c = by_done (pin_row instruction card.content.pins card.session c) (MayFollow-pin_row card sound instruction c)

  MayFollow-instruction_row : (c : Apdu) → MayFollowRow (instruction_row card c)
  MayFollow-instruction_row c =
      let rows = card.content.rows in
      let pins = card.content.pins in
      let select = select_row rows pins card.session (isdr_here card) c in
      let status = status_row rows pins card.session c in
      by_test (c.ins == 0xA4) _ _ (by_done select (MayFollow-select_row c))
      (by_test (c.ins == 0xF2) _ _ (by_done status (MayFollow-status_row c))
      (by_test (c.ins == 0xB0) _ _ (CanCarryOut-read_binary card.content sound.content card.session sound.session (allowed_at card) c)
      (by_test (c.ins == 0xD6) _ _ (CanCarryOut-update_binary card.content sound.content card.session sound.session (allowed_at card) c)
      (by_test (c.ins == 0xB2) _ _ (CanCarryOut-read_record card.content sound.content card.session sound.session (allowed_at card) c)
      (by_test (c.ins == 0xDC) _ _ (CanCarryOut-update_record card.content sound.content card.session sound.session (allowed_at card) c)
      (by_test (c.ins == 0xA2) _ _ (CanCarryOut-search_record card.content sound.content card.session sound.session (allowed_at card) c)
      (by_test (c.ins == 0x32) _ _ (CanCarryOut-increase card.content sound.content card.session sound.session (allowed_at card) c)
      (by_test (c.ins == 0x20) _ _ (pin VerifyPin c)
      (by_test (c.ins == 0x24) _ _ (pin ChangePin c)
      (by_test (c.ins == 0x26) _ _ (pin DisablePin c)
      (by_test (c.ins == 0x28) _ _ (pin EnablePin c)
      (by_test (c.ins == 0x2C) _ _ (pin UnblockPin c)
      (by_test (c.ins == 0x70) _ _ (CanCarryOut-manage_channel card.content card.session c sound.content sound.session)
      (by_test (c.ins == 0xC0) _ _ (CanCarryOut-get_response card.content card.session c sound.session)
      (by_test (is_administration c.ins) _ _ (CanCarryOut-administration card.content sound.content card.session sound.session (allowed_at card) c)
      (by_test (c.ins == 0x10) _ _ (by_done (terminal_profile_row card.session c) (MayFollow-answering (status_alone OK)))
      (by_test (c.ins == 0xAA) _ _ (by_done (terminal_capability_row card.session c) (MayFollow-answering (status_alone OK)))
      (by_test (c.ins == 0x12) _ _ (by_done (fetch_row card.session c) (MayFollow-with_refresh Fetched (record { body = refresh_command; sw = OK })))
      (by_test (c.ins == 0x14) _ _ (by_done (terminal_response_row card.session c) (MayFollow-with_refresh Quiet (status_alone OK)))
      (unknown c))))))))))))))))))))

  -- a card may carry out what a command comes to
  pub MayFollow-decision : (c : Apdu) → MayFollow card (decision card c)
  MayFollow-decision c =
      let may = by_test (is_known_at (open_channel card.session c.channel) c.ins) _ _ (MayFollow-instruction_row c) (unknown c) in
      record { change = may.change; session = may.session }

  -- and so it may what its row comes to with the announcement
  pub MayFollow-announced : (c : Apdu) (row_outcome outcome : CommandOutcome) → row_outcome ≡ decided card.session (command_row card c)
      → outcome ≡ announced row_outcome → MayFollow card outcome
  MayFollow-announced c row_outcome outcome by_row with_it =
      subst (λ (outcome : CommandOutcome). MayFollow card outcome) (sym (with_it ∙ ap (λ (outcome : CommandOutcome). announced outcome) by_row)) (MayFollow-decision c)
