-- A command leaves each file as it was that it doesn't work on.
use Rattle.std.proofs.Common.{◌≡◌, ℕ, Bool, true, false, cond, List, [], ◌∷◌, refl, sym, ◌∙◌, subst}
use Rattle.std.proofs.Common.{Option, Some, None, inl, inr, IsTrue}
use Rattle.std.proofs.lemmas.Bool.{eqb-true}
use Rattle.std.specs.Prelude.{◌==◌, option_map}
use Rattle.apdu_codec.specs.Command.{Apdu}
use Rattle.apdu_codec.specs.Ins.{is_one_of}
use Rattle.apdu_codec.specs.declared.status.Sw.{Sw}
use Rattle.access_rules.specs.Met.{pin_for}
use Rattle.file_rows.proofs.ChangeLemmas.{others}
use Rattle.file_rows.specs.Content.{file_at}
use Rattle.file_rows.specs.declared.change.Change.{Change}
use Rattle.file_rows.specs.declared.change.Change.TheVariants.{WriteRange, WriteRecord, PinSet}
use Rattle.file_rows.specs.declared.change.Change.TheVariants.{FileAdd, FileGone, FileState}
use Rattle.file_rows.specs.declared.change.Change.TheVariants.{FileSize}
use Rattle.file_rows.specs.declared.pin.PinRow.{PinRow}
use Rattle.file_rows.specs.declared.row.FileRow.{FileRow}
use Rattle.lsi_refresh.specs.Fetch.{fetch_row}
use Rattle.lsi_refresh.specs.TerminalCapability.{terminal_capability_row}
use Rattle.lsi_refresh.specs.TerminalProfile.{terminal_profile_row}
use Rattle.lsi_refresh.specs.TerminalResponse.{terminal_response_row}
use Rattle.pin_state.specs.PinCommand.{PinCommand, outcome}
use Rattle.uicc_admin.proofs.ReachLemmas.{spares-administration}
use Rattle.uicc_admin.specs.Administration.{is_administration}
use Rattle.uicc_channels.proofs.ChannelLemmas.{opening-alone}
use Rattle.uicc_channels.proofs.ManageLemmas.{manage-has}
use Rattle.uicc_channels.proofs.ResponseLemmas.{response-has}
use Rattle.uicc_channels.proofs.RowLemmas.{decided-has}
use Rattle.uicc_channels.specs.CarriesOut.{content_after}
use Rattle.uicc_channels.specs.CommandOutcome.{CommandOutcome, refused}
use Rattle.uicc_channels.specs.CommandRow.{CommandRow, decided}
use Rattle.uicc_channels.specs.ManageChannel.{manage_channel_row, opening}
use Rattle.uicc_channels.specs.Session.{open_channel}
use Rattle.uicc_data.proofs.DoneLemmas.{local-increase, local-update_binary, local-update_record}
use Rattle.uicc_data.proofs.OutcomeLemmas.{read_binary-has, read_record-has, search_record-has}
use Rattle.uicc_data.specs.WorksOn.{WritesWhereItWorks}
use Rattle.uicc_select.proofs.SelectionLemmas.{change-select_row, change-status_row}
use Rattle.uicc_select.specs.Select.{select_row}
use Rattle.uicc_select.specs.Status.{status_row}
use Rattle.profile_card.specs.Card.{Card, IsSound, allowed_at, card_after, isdr_here}
use Rattle.profile_card.specs.Commands.{decision, instruction_row, is_known_at}
use Rattle.profile_card.specs.Commands.{unknown_row}
use Rattle.profile_card.specs.PinCommands.{done_where, pin_command, pin_row}
use Rattle.profile_card.specs.Reach.{WorksOn}
use Rattle.profile_card.specs.declared.pin_commands.PinInstruction.{PinInstruction}
use Rattle.profile_card.specs.declared.pin_commands.PinInstruction.TheVariants.{Change as ChangePin}
use Rattle.profile_card.specs.declared.pin_commands.PinInstruction.TheVariants.{Disable as DisablePin}
use Rattle.profile_card.specs.declared.pin_commands.PinInstruction.TheVariants.{Enable as EnablePin}
use Rattle.profile_card.specs.declared.pin_commands.PinInstruction.TheVariants.{Unblock as UnblockPin}
use Rattle.profile_card.specs.declared.pin_commands.PinInstruction.TheVariants.{Verify as VerifyPin}

-- the instructions that write into a file
abbrev writes : ℕ → Bool
writes ins = is_one_of (0xD6 ∷ 0xDC ∷ 0x32 ∷ []) ins

by_its : (ins n : ℕ) → (ins == n) ≡ true → IsTrue (writes n) → IsTrue (writes ins)
by_its ins n is known = subst (λ (n : ℕ). IsTrue (writes n)) (sym (eqb-true ins n is)) known

module _ (card : Card) (sound : IsSound card) (c : Apdu) (path : List ℕ) (file : FileRow) (there : file_at path card.content.rows ≡ Some file)
    (elsewhere : ¬ WorksOn card c path) where
  -- the file is as it was
  abbrev Spares : CommandOutcome → Type 0
  Spares outcome = file_at path (content_after card.content outcome.change).rows ≡ Some file

  abbrev SparesRow : CommandRow → Type 0
  SparesRow row = Spares (decided card.session row)

  spares-refused : (sw : Sw) → Spares (refused card.session sw)
  spares-refused sw = there

  by_none : (outcome : CommandOutcome) → outcome.change ≡ None → Spares outcome
  by_none outcome none = subst (λ (change : Option Change). file_at path (content_after card.content change).rows ≡ Some file) (sym none) there

  -- what is done changes no file
  by_done : (row : CommandRow) → row.done.change ≡ None → SparesRow row
  by_done row none = decided-has Spares card.session row (λ sw said. spares-refused sw) (λ accepted. by_none row.done none)

  -- what is written is in the file that the command works on
  written : IsTrue (writes c.ins) → (change : Option Change) → WritesWhereItWorks card.content.rows (open_channel card.session c.channel) change
      → file_at path (content_after card.content change).rows ≡ Some file
  written is None works = there
  written is (Some (WriteRange at offset bytes)) works =
      others card.content (WriteRange at offset bytes) path
      (λ same. elsewhere (inl (record { instruction = is; row = works.0; worked_on = works.1; there = sym works.2 ∙ same })))
      ∙ there
  written is (Some (WriteRecord at number bytes)) works =
      others card.content (WriteRecord at number bytes) path
      (λ same. elsewhere (inl (record { instruction = is; row = works.0; worked_on = works.1; there = sym works.2 ∙ same })))
      ∙ there
  written is (Some (PinSet set)) works = absurd works.2
  written is (Some (FileAdd head)) works = absurd works.2
  written is (Some (FileGone top)) works = absurd works.2
  written is (Some (FileState at life)) works = absurd works.2
  written is (Some (FileSize at size)) works = absurd works.2

  spares-set : (set : Option PinRow) → file_at path (content_after card.content (option_map PinSet set)).rows ≡ Some file
  spares-set None = there
  spares-set (Some pin) = there

  spares-where : (command : List ℕ → PinCommand) (pin : Option PinRow) → Spares (done_where card.session command c pin)
  spares-where command None = there
  spares-where command (Some pin) = spares-set _

  pin : (instruction : PinInstruction) → SparesRow (pin_row instruction card.content.pins card.session c)
  pin instruction =
      decided-has Spares card.session (pin_row instruction card.content.pins card.session c) (λ sw said. spares-refused sw)
      (λ accepted. spares-where (pin_command instruction) (pin_for card.content.pins (open_channel card.session c.channel).dir c.p2))

  manage : SparesRow (manage_channel_row card.session c)
  manage = manage-has Spares card.session c spares-refused (λ number opens. by_none (opening card.session c number) (opening-alone card.session c number).1) (λ closes. there)

  by_test : (is_its : Bool) (one other : CommandRow) → (is_its ≡ true → SparesRow one) → SparesRow other → SparesRow (cond is_its one other)
  by_test true one other first second = first refl
  by_test false one other first second = second

  spares-instruction : SparesRow (instruction_row card c)
  spares-instruction =
      let rows = card.content.rows in
      let pins = card.content.pins in
      let session = card.session in
      let allowed = allowed_at card in
      by_test (c.ins == 0xA4) _ _ (λ is. by_done (select_row rows pins session (isdr_here card) c) (change-select_row rows pins session (isdr_here card) c))
      (by_test (c.ins == 0xF2) _ _ (λ is. by_done (status_row rows pins session c) (change-status_row rows pins session c))
      (by_test (c.ins == 0xB0) _ _ (λ is. read_binary-has Spares rows allowed session c spares-refused (λ path pointer answer. there))
      (by_test (c.ins == 0xD6) _ _ (λ is. written (by_its c.ins 0xD6 is refl) _ (local-update_binary rows allowed session c).1)
      (by_test (c.ins == 0xB2) _ _ (λ is. read_record-has Spares rows allowed session c spares-refused (λ path pointer answer. there))
      (by_test (c.ins == 0xDC) _ _ (λ is. written (by_its c.ins 0xDC is refl) _ (local-update_record rows allowed session c).1)
      (by_test (c.ins == 0xA2) _ _ (λ is. search_record-has Spares rows allowed session c spares-refused (λ path pointer bytes. there))
      (by_test (c.ins == 0x32) _ _ (λ is. written (by_its c.ins 0x32 is refl) _ (local-increase rows allowed session c).1)
      (by_test (c.ins == 0x20) _ _ (λ is. pin VerifyPin)
      (by_test (c.ins == 0x24) _ _ (λ is. pin ChangePin)
      (by_test (c.ins == 0x26) _ _ (λ is. pin DisablePin)
      (by_test (c.ins == 0x28) _ _ (λ is. pin EnablePin)
      (by_test (c.ins == 0x2C) _ _ (λ is. pin UnblockPin)
      (by_test (c.ins == 0x70) _ _ (λ is. manage)
      (by_test (c.ins == 0xC0) _ _ (λ is. response-has Spares session c spares-refused (λ le is_open. there))
      (by_test (is_administration c.ins) _ _ (λ is.
      spares-administration card.content sound.content session sound.session allowed c path file there (λ administered. elsewhere (inr (is, administered))) is)
      (by_test (c.ins == 0x10) _ _ (λ is. by_done (terminal_profile_row session c) refl)
      (by_test (c.ins == 0xAA) _ _ (λ is. by_done (terminal_capability_row session c) refl)
      (by_test (c.ins == 0x12) _ _ (λ is. by_done (fetch_row session c) refl)
      (by_test (c.ins == 0x14) _ _ (λ is. by_done (terminal_response_row session c) refl)
      (by_done (unknown_row session c) refl))))))))))))))))))))

  pub spares-decision : file_at path (card_after card (decision card c)).content.rows ≡ Some file
  spares-decision =
      by_test (is_known_at (open_channel card.session c.channel) c.ins) (instruction_row card c) (unknown_row card.session c)
      (λ is. spares-instruction) (by_done (unknown_row card.session c) refl)
