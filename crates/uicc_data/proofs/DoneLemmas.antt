-- A command on data is accepted or changes nothing, and writes into the file that it works on alone.
use Rattle.std.proofs.Common.{◌≡◌, ℕ, Bool, true, false, cond, List, [], ◌∷◌, ◌++◌, refl, ◌∙◌}
use Rattle.std.proofs.Common.{Option, Some, None}
use Rattle.std.specs.Prelude.{◌==◌}
use Rattle.apdu_codec.specs.Command.{Apdu}
use Rattle.apdu_codec.specs.declared.status.Sw.{Sw}
use Rattle.apdu_codec.specs.declared.status.TheConstants.Sw.{OK, WRONG_LENGTH}
use Rattle.file_rows.specs.declared.mode.Mode.{Mode}
use Rattle.file_rows.specs.declared.row.FileRow.{FileRow}
use Rattle.uicc_channels.proofs.AcceptedLemmas.{IsDoneOrRefused-accepted, accepted-answered}
use Rattle.uicc_channels.proofs.NeedsLemmas.{first_none, rest_none}
use Rattle.uicc_channels.specs.Accepted.{IsDoneOrRefused}
use Rattle.uicc_channels.proofs.SessionLemmas.{channel_at-waiting, channel_at-with_channel}
use Rattle.uicc_channels.specs.ChannelLaws.{LeavesOthers}
use Rattle.uicc_channels.specs.CommandOutcome.{CommandOutcome, refused}
use Rattle.uicc_channels.specs.CommandRow.{CommandRow, decided}
use Rattle.uicc_channels.specs.Delivery.{waiting}
use Rattle.uicc_channels.specs.Needs.{refused_unless}
use Rattle.uicc_channels.specs.Session.{open_channel}
use Rattle.uicc_channels.specs.declared.session.Session.{Session}
use Rattle.uicc_data.proofs.OutcomeLemmas.{increase-has, read_binary-has, read_record-has}
use Rattle.uicc_data.proofs.OutcomeLemmas.{search_record-has, update_binary-has, update_record-has}
use Rattle.uicc_data.proofs.RecordCarryLemmas.{at_record-has}
use Rattle.uicc_data.proofs.RowLemmas.{on_file-has, where_named-has}
use Rattle.uicc_data.specs.Binary.{binary_place, read_binary_row, reading, update_binary_row}
use Rattle.uicc_data.specs.Binary.{writing}
use Rattle.uicc_data.specs.Data.{data_row}
use Rattle.uicc_data.specs.FileReference.{file_named, not_there, pointer_at, using}
use Rattle.uicc_data.specs.FileUse.{needs_of_reading, needs_of_writing}
use Rattle.uicc_data.specs.Increase.{can_be_added, giving_sum, increase_file, increase_row}
use Rattle.uicc_data.specs.Increase.{increasing}
use Rattle.uicc_data.specs.Number.{sum_of}
use Rattle.uicc_data.specs.Record.{read_record_row, reading_number, reading_record, record_place}
use Rattle.uicc_data.specs.Record.{update_record_row, write_place, writing_number, writing_record}
use Rattle.uicc_data.specs.RecordWalk.{record_bytes, record_in}
use Rattle.uicc_data.specs.Search.{found_from, giving_numbers, search_place, search_record_row}
use Rattle.uicc_data.specs.Search.{search_start, searching}
use Rattle.uicc_data.specs.WorksOn.{WritesWhereItWorks}
use Rattle.uicc_data.specs.declared.reference.FileReference.{FileReference}

module _ (rows : List FileRow) (allowed : List ℕ → Mode → Bool) (session : Session) (c : Apdu) where
  -- it is accepted or changes nothing, and what it changes is where it works
  abbrev IsLocal : CommandOutcome → Type 0
  IsLocal outcome = IsDoneOrRefused session outcome × WritesWhereItWorks rows (open_channel session c.channel) outcome.change

  refusal : (sw : Sw) → IsLocal (refused session sw)
  refusal sw = ((λ other. refl), tt)

  pub local-read_binary : IsLocal (decided session (read_binary_row rows allowed session c))
  local-read_binary =
      where_named-has IsLocal session refusal (needs_of_reading session c) _ (binary_place c.p1 c.p2)
      (λ place. on_file-has IsLocal session refusal (needs_of_reading session c) allowed (not_there place.file) (reading session c place)
      (file_named rows (open_channel session c.channel) place.file)
      (λ row named channel lengths kind own. (IsDoneOrRefused-accepted session (reading session c place row).done refl, tt)))

  pub local-update_binary : IsLocal (decided session (update_binary_row rows allowed session c))
  local-update_binary =
      where_named-has IsLocal session refusal (needs_of_writing session c) _ (binary_place c.p1 c.p2)
      (λ place. on_file-has IsLocal session refusal (needs_of_writing session c) allowed (not_there place.file) (writing session c place)
      (file_named rows (open_channel session c.channel) place.file)
      (λ row named channel lengths kind own. (IsDoneOrRefused-accepted session (writing session c place row).done refl, (row, (place.file, named), refl))))

  pub local-read_record : IsLocal (decided session (read_record_row rows allowed session c))
  local-read_record =
      where_named-has IsLocal session refusal (needs_of_reading session c) _ (record_place c.p1 c.p2)
      (λ place. on_file-has IsLocal session refusal (needs_of_reading session c) allowed (not_there place.file) (reading_record session c place)
      (file_named rows (open_channel session c.channel) place.file)
      (λ row named channel lengths kind own. at_record-has IsLocal session (reading_number session c place row)
      (record_in row.head (pointer_at (open_channel session c.channel) place.file) place.name)
      (λ number at last. (IsDoneOrRefused-accepted session (reading_number session c place row number).done refl, tt)) own))

  pub local-update_record : IsLocal (decided session (update_record_row rows allowed session c))
  local-update_record =
      where_named-has IsLocal session refusal (needs_of_writing session c) _ (record_place c.p1 c.p2)
      (λ place. on_file-has IsLocal session refusal (needs_of_writing session c) allowed (not_there place.file) (writing_record session c place)
      (file_named rows (open_channel session c.channel) place.file)
      (λ row named channel lengths kind own. at_record-has IsLocal session (writing_number session c row)
      (write_place row.head (pointer_at (open_channel session c.channel) place.file) place.name)
      (λ written at last. (IsDoneOrRefused-accepted session (writing_number session c row written).done refl, (row, (place.file, named), refl))) own))

  numbers : (path found : List ℕ) → (giving_numbers session c path found).own ≡ None → IsLocal (giving_numbers session c path found).done
  numbers path [] own = absurd (cc)
  numbers path (first ∷ rest) own =
      (IsDoneOrRefused-accepted session (giving_numbers session c path (first ∷ rest)).done (accepted-answered OK c.le (first ∷ rest) refl own), tt)

  pub local-search_record : IsLocal (decided session (search_record_row rows allowed session c))
  local-search_record =
      where_named-has IsLocal session refusal (needs_of_writing session c) _ (search_place c.p1 c.p2)
      (λ place. on_file-has IsLocal session refusal (needs_of_writing session c) allowed (not_there place.file) (searching session c place)
      (file_named rows (open_channel session c.channel) place.file)
      (λ row named channel lengths kind own. at_record-has IsLocal session (λ number. giving_numbers session c row.head.path (found_from row c.body place.direction number))
      (record_in row.head (pointer_at (open_channel session c.channel) place.file) (search_start place (pointer_at (open_channel session c.channel) place.file)))
      (λ number at last. numbers row.head.path (found_from row c.body place.direction number) last) own))

  sums : (row : FileRow) → (file : FileReference) → file_named rows (open_channel session c.channel) file ≡ Some row → (sum : Option (List ℕ))
      → (giving_sum session c row.head.path sum).own ≡ None → IsLocal (giving_sum session c row.head.path sum).done
  sums row file named None own = absurd (cc)
  sums row file named (Some sum) own = (
    IsDoneOrRefused-accepted session (giving_sum session c row.head.path (Some sum)).done (accepted-answered OK c.le (sum ++ c.body) refl own),
    (row, (file, named), refl),
  )

  pub local-increase : IsLocal (decided session (increase_row rows allowed session c))
  local-increase =
      where_named-has IsLocal session refusal (needs_of_writing session c) _ (increase_file c.p1 c.p2)
      (λ file. on_file-has IsLocal session refusal (needs_of_writing session c) allowed (not_there file) (increasing session c)
      (file_named rows (open_channel session c.channel) file)
      (λ row named channel lengths kind own. sums row file named (sum_of (record_bytes row 1) c.body)
      (first_none _ _ (rest_none (refused_unless (can_be_added (record_bytes row 1) c.body) WRONG_LENGTH) _ own))))

  by_test : (is_its : Bool) (one other : CommandRow) → IsLocal (decided session one) → IsLocal (decided session other) → IsLocal (decided session (cond is_its one other))
  by_test true one other first second = first
  by_test false one other first second = second

  -- whichever of the instructions it is
  pub local-data : IsLocal (decided session (data_row rows allowed session c))
  local-data =
      by_test (c.ins == 0xB0) _ _ local-read_binary
      (by_test (c.ins == 0xD6) _ _ local-update_binary
      (by_test (c.ins == 0xB2) _ _ local-read_record
      (by_test (c.ins == 0xDC) _ _ local-update_record
      (by_test (c.ins == 0xA2) _ _ local-search_record local-increase))))

  others-left : (path : List ℕ) (pointer : ℕ) → LeavesOthers session c.channel (using session c.channel path pointer)
  others-left path pointer other apart = channel_at-with_channel session c.channel other _ apart

  others-delivered : (path : List ℕ) (pointer : ℕ) (body : List ℕ) → LeavesOthers session c.channel (waiting c.le (using session c.channel path pointer) c.channel body)
  others-delivered path pointer body other apart =
      channel_at-waiting c.le (using session c.channel path pointer) c.channel other body apart ∙ others-left path pointer other apart

  abbrev KeepsOthers : CommandOutcome → Type 0
  KeepsOthers outcome = LeavesOthers session c.channel outcome.session

  same : (sw : Sw) → KeepsOthers (refused session sw)
  same sw other apart = refl

  -- each leaves the other channels as they were
  pub others-read_binary : KeepsOthers (decided session (read_binary_row rows allowed session c))
  others-read_binary = read_binary-has KeepsOthers rows allowed session c same (λ path pointer answer. others-left path pointer)

  pub others-update_binary : KeepsOthers (decided session (update_binary_row rows allowed session c))
  others-update_binary = update_binary-has KeepsOthers rows allowed session c same (λ path pointer answer change. others-left path pointer)

  pub others-read_record : KeepsOthers (decided session (read_record_row rows allowed session c))
  others-read_record = read_record-has KeepsOthers rows allowed session c same (λ path pointer answer. others-left path pointer)

  pub others-update_record : KeepsOthers (decided session (update_record_row rows allowed session c))
  others-update_record = update_record-has KeepsOthers rows allowed session c same (λ path pointer answer change. others-left path pointer)

  pub others-search_record : KeepsOthers (decided session (search_record_row rows allowed session c))
  others-search_record = search_record-has KeepsOthers rows allowed session c same others-delivered

  pub others-increase : KeepsOthers (decided session (increase_row rows allowed session c))
  others-increase = increase-has KeepsOthers rows allowed session c same (λ path pointer body change. others-delivered path pointer body)
