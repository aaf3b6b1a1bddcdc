-- What a command changes that isn't accepted.
use Rattle.std.proofs.Common.{◌≡◌, ℕ, Bool, true, false, cond, Contains, List, Option, Some, None}
use Rattle.std.proofs.Common.{IfSome, refl, sym, subst, ap, ◌≢◌, ◌∙◌}
use Rattle.std.proofs.lemmas.Bool.{eqb-true, true≢false}
use Rattle.std.specs.Prelude.{◌==◌, option_map}
use Rattle.apdu_codec.specs.Command.{Apdu}
use Rattle.apdu_codec.specs.declared.status.Sw.{Sw}
use Rattle.apdu_codec.specs.declared.status.TheConstants.Sw.{OK}
use Rattle.access_rules.proofs.Finding.{Contains-pin_for}
use Rattle.access_rules.specs.Met.{pin_for}
use Rattle.file_rows.specs.PinRow.{is_verified}
use Rattle.file_rows.specs.declared.change.Change.TheVariants.{PinSet}
use Rattle.file_rows.specs.declared.pin.PinRow.{PinRow}
use Rattle.lsi_refresh.proofs.OutcomeLemmas.{IsDoneOrRefused-announced, accepted-announcing}
use Rattle.lsi_refresh.specs.Announcement.{announced}
use Rattle.pin_state.proofs.TriesLemmas.{Spares-outcome}
use Rattle.pin_state.specs.PinCommand.{PinCommand, outcome}
use Rattle.pin_state.specs.PinOutcome.{PinOutcome}
use Rattle.pin_state.specs.SamePin.{same_pin}
use Rattle.pin_state.specs.Tries.{KeepsAllButTries}
use Rattle.lsi_refresh.specs.Fetch.{fetch_row}
use Rattle.lsi_refresh.specs.TerminalCapability.{terminal_capability_row}
use Rattle.lsi_refresh.specs.TerminalProfile.{terminal_profile_row}
use Rattle.lsi_refresh.specs.TerminalResponse.{terminal_response_row}
use Rattle.uicc_admin.proofs.RefusedLemmas.{refused-admin}
use Rattle.uicc_admin.specs.Administration.{admin_row, is_administration}
use Rattle.uicc_channels.proofs.AcceptedLemmas.{IsDoneOrRefused-decided}
use Rattle.uicc_channels.proofs.RefusedLemmas.{refused-get_response, refused-manage_channel}
use Rattle.uicc_channels.proofs.RowLemmas.{decided-has}
use Rattle.uicc_channels.specs.Accepted.{IsDoneOrRefused, is_accepted}
use Rattle.uicc_channels.specs.CommandOutcome.{CommandOutcome, refused}
use Rattle.uicc_channels.specs.CommandRow.{CommandRow, decided}
use Rattle.uicc_channels.specs.GetResponse.{get_response_row}
use Rattle.uicc_channels.specs.ManageChannel.{manage_channel_row}
use Rattle.uicc_channels.specs.Session.{open_channel}
use Rattle.uicc_data.proofs.DoneLemmas.{local-increase, local-read_binary, local-read_record}
use Rattle.uicc_data.proofs.DoneLemmas.{local-search_record, local-update_binary}
use Rattle.uicc_data.proofs.DoneLemmas.{local-update_record}
use Rattle.uicc_data.specs.Binary.{read_binary_row, update_binary_row}
use Rattle.uicc_data.specs.Increase.{increase_row}
use Rattle.uicc_data.specs.Record.{read_record_row, update_record_row}
use Rattle.uicc_data.specs.Search.{search_record_row}
use Rattle.uicc_select.specs.Select.{select_row}
use Rattle.uicc_select.specs.Status.{status_row}
use Rattle.uicc_select.proofs.LocalLemmas.{refused-select, refused-status}
use Rattle.profile_card.specs.Card.{Card, allowed_at, isdr_here}
use Rattle.profile_card.specs.Commands.{command_row, decision, instruction_row, is_known_at}
use Rattle.profile_card.specs.Commands.{unknown_row}
use Rattle.profile_card.specs.PinCommands.{done_where, is_pin_instruction, pin_command, pin_done}
use Rattle.profile_card.specs.PinCommands.{pin_row}
use Rattle.profile_card.specs.Refused.{ChangesTriesAlone}
use Rattle.profile_card.specs.declared.pin_commands.PinInstruction.{PinInstruction}
use Rattle.profile_card.specs.declared.pin_commands.PinInstruction.TheVariants.{Change as ChangePin}
use Rattle.profile_card.specs.declared.pin_commands.PinInstruction.TheVariants.{Disable as DisablePin}
use Rattle.profile_card.specs.declared.pin_commands.PinInstruction.TheVariants.{Enable as EnablePin}
use Rattle.profile_card.specs.declared.pin_commands.PinInstruction.TheVariants.{Unblock as UnblockPin}
use Rattle.profile_card.specs.declared.pin_commands.PinInstruction.TheVariants.{Verify as VerifyPin}

-- each of the five is a PIN instruction
is_pin : (ins n : ℕ) → (ins == n) ≡ true → is_pin_instruction n ≡ true → is_pin_instruction ins ≡ true
is_pin ins n same known = subst (λ (n : ℕ). is_pin_instruction n ≡ true) (sym (eqb-true ins n same)) known

module _ (card : Card) (c : Apdu) (P : CommandRow → Type 0)
    (where_done : (row : CommandRow) → IsDoneOrRefused card.session (decided card.session row) → P row)
    (where_pin : (instruction : PinInstruction) → is_pin_instruction c.ins ≡ true → P (pin_row instruction card.content.pins card.session c)) where
  by_done : (row : CommandRow) → is_accepted row.done.answer.sw ≡ true → P row
  by_done row accepted = where_done row (IsDoneOrRefused-decided card.session row (λ none. accepted))

  by_test : (is_its : Bool) (one other : CommandRow) → (is_its ≡ true → P one) → P other → P (cond is_its one other)
  by_test true one other first second = first refl
  by_test false one other first second = second

  -- what holds of each PIN command, and of each command that is accepted or changes nothing
  by_instruction : P (instruction_row card c)
  by_instruction =
      let rows = card.content.rows in
      let pins = card.content.pins in
      let session = card.session in
      let allowed = allowed_at card in
      by_test (c.ins == 0xA4) _ _ (λ is. where_done (select_row rows pins session (isdr_here card) c) (refused-select rows pins session (isdr_here card) c))
      (by_test (c.ins == 0xF2) _ _ (λ is. where_done (status_row rows pins session c) (refused-status rows pins session c))
      (by_test (c.ins == 0xB0) _ _ (λ is. where_done (read_binary_row rows allowed session c) (local-read_binary rows allowed session c).0)
      (by_test (c.ins == 0xD6) _ _ (λ is. where_done (update_binary_row rows allowed session c) (local-update_binary rows allowed session c).0)
      (by_test (c.ins == 0xB2) _ _ (λ is. where_done (read_record_row rows allowed session c) (local-read_record rows allowed session c).0)
      (by_test (c.ins == 0xDC) _ _ (λ is. where_done (update_record_row rows allowed session c) (local-update_record rows allowed session c).0)
      (by_test (c.ins == 0xA2) _ _ (λ is. where_done (search_record_row rows allowed session c) (local-search_record rows allowed session c).0)
      (by_test (c.ins == 0x32) _ _ (λ is. where_done (increase_row rows allowed session c) (local-increase rows allowed session c).0)
      (by_test (c.ins == 0x20) _ _ (λ is. where_pin VerifyPin (is_pin c.ins 0x20 is refl))
      (by_test (c.ins == 0x24) _ _ (λ is. where_pin ChangePin (is_pin c.ins 0x24 is refl))
      (by_test (c.ins == 0x26) _ _ (λ is. where_pin DisablePin (is_pin c.ins 0x26 is refl))
      (by_test (c.ins == 0x28) _ _ (λ is. where_pin EnablePin (is_pin c.ins 0x28 is refl))
      (by_test (c.ins == 0x2C) _ _ (λ is. where_pin UnblockPin (is_pin c.ins 0x2C is refl))
      (by_test (c.ins == 0x70) _ _ (λ is. where_done (manage_channel_row session c) (refused-manage_channel session c))
      (by_test (c.ins == 0xC0) _ _ (λ is. where_done (get_response_row session c) (refused-get_response session c))
      (by_test (is_administration c.ins) _ _ (λ is. where_done (admin_row rows allowed session c) (refused-admin rows allowed session c))
      (by_test (c.ins == 0x10) _ _ (λ is. by_done (terminal_profile_row session c) refl)
      (by_test (c.ins == 0xAA) _ _ (λ is. by_done (terminal_capability_row session c) refl)
      (by_test (c.ins == 0x12) _ _ (λ is. by_done (fetch_row session c) refl)
      (by_test (c.ins == 0x14) _ _ (λ is. by_done (terminal_response_row session c) refl)
      (by_done (unknown_row session c) refl))))))))))))))))))))

  by_command : P (command_row card c)
  by_command = by_test (is_known_at (open_channel card.session c.channel) c.ins) _ _ (λ is. by_instruction) (by_done (unknown_row card.session c) refl)

-- a command other than a PIN command is accepted or changes nothing
pub refused-decision : (card : Card) (c : Apdu) → is_pin_instruction c.ins ≡ false → IsDoneOrRefused card.session (decision card c)
refused-decision card c no_pin =
    IsDoneOrRefused-announced card.session (decided card.session (command_row card c))
    (by_command card c (λ row. IsDoneOrRefused card.session (decided card.session row)) (λ row done. done)
    (λ instruction is. absurd (true≢false (sym is ∙ no_pin))))

module _ (card : Card) where
  -- where it isn't accepted it spares all but a PIN's tries and what is verified
  abbrev Spares : CommandOutcome → Type 0
  Spares outcome = is_accepted outcome.answer.sw ≡ false → ChangesTriesAlone card outcome

  spares-refused : (sw : Sw) → ChangesTriesAlone card (refused card.session sw)
  spares-refused sw = (refl, tt)

  spares-done : (outcome : CommandOutcome) → IsDoneOrRefused card.session outcome → Spares outcome
  spares-done outcome done other = subst (ChangesTriesAlone card) (sym (done other)) (spares-refused outcome.answer.sw)

  spares-pin : (pin : PinRow) (outcome : PinOutcome) → Contains card.content.pins pin → (outcome.sw ≢ OK → KeepsAllButTries pin outcome.pin)
      → Spares (pin_done card.session pin outcome)
  spares-pin pin outcome there keeps other = (refl, by_row (same_pin outcome.pin pin))
    where
      not_ok : outcome.sw ≢ OK
      not_ok same = true≢false (sym (ap (λ (sw : Sw). is_accepted sw) same) ∙ other)

      by_row : (same : Bool) → IfSome (option_map PinSet (cond same None (Some outcome.pin)))
          (λ change. (pin : PinRow) × (after : PinRow) × Contains card.content.pins pin × (change ≡ PinSet after) × KeepsAllButTries pin after)
      by_row true = tt
      by_row false = (pin, outcome.pin, there, refl, keeps not_ok)

  spares-where : (command : List ℕ → PinCommand) (c : Apdu) (pin : Option PinRow) → IfSome pin (Contains card.content.pins) → Spares (done_where card.session command c pin)
  spares-where command c None there = λ other. (refl, tt)
  spares-where command c (Some pin) there =
      let verified = is_verified card.session.verified pin.number in
      spares-pin pin (outcome pin verified (command c.body)) there (Spares-outcome pin verified (command c.body))

  spares-pin_row : (instruction : PinInstruction) (c : Apdu) → Spares (decided card.session (pin_row instruction card.content.pins card.session c))
  spares-pin_row instruction c =
      decided-has Spares card.session (pin_row instruction card.content.pins card.session c)
      (λ sw said other. spares-refused sw)
      (λ none. spares-where (pin_command instruction) c (pin_for card.content.pins (open_channel card.session c.channel).dir c.p2)
      (Contains-pin_for card.content.pins (open_channel card.session c.channel).dir c.p2))

  pub spares-decision : (c : Apdu) → Spares (decision card c)
  spares-decision c other =
      let row : CommandOutcome = decided card.session (command_row card c) in
      let spares : Spares row = by_command card c (λ row. Spares (decided card.session row)) (λ row done. spares-done (decided card.session row) done) (λ instruction is. spares-pin_row instruction c) in
      either row spares (is_accepted row.answer.sw) refl other
    where
      either : (outcome : CommandOutcome) → Spares outcome → (accepted : Bool) → is_accepted outcome.answer.sw ≡ accepted → Spares (announced outcome)
      either outcome spares true e other = absurd (true≢false (sym (accepted-announcing outcome.session.refresh outcome.answer e) ∙ other))
      either outcome spares false e other = spares e
