-- What each command on data may come to.
use Rattle.std.proofs.Common.{◌≡◌, ℕ, Bool, List, [], ◌∷◌, ◌++◌, refl, sym, ◌∙◌, ap, Option, Some}
use Rattle.std.proofs.Common.{None}
use Rattle.std.proofs.lemmas.List.{set-get_or}
use Rattle.apdu_codec.specs.Command.{Apdu}
use Rattle.apdu_codec.specs.declared.answers.Answer.{Answer}
use Rattle.apdu_codec.specs.declared.status.Sw.{Sw}
use Rattle.apdu_codec.specs.declared.status.TheConstants.Sw.{WRONG_LENGTH}
use Rattle.file_rows.specs.declared.change.Change.{Change}
use Rattle.file_rows.specs.declared.mode.Mode.{Mode}
use Rattle.file_rows.specs.declared.row.FileRow.{FileRow}
use Rattle.uicc_channels.specs.CommandOutcome.{CommandOutcome, refused}
use Rattle.uicc_channels.specs.CommandRow.{decided}
use Rattle.uicc_channels.specs.Delivery.{delivered, waiting}
use Rattle.uicc_channels.specs.Needs.{refused_unless}
use Rattle.uicc_channels.specs.Session.{channel_at, open_channel, with_channel}
use Rattle.uicc_channels.specs.declared.chan.Chan.{Chan}
use Rattle.uicc_channels.specs.declared.session.Session.{Session}
use Rattle.uicc_data.proofs.RecordCarryLemmas.{at_record-has}
use Rattle.uicc_channels.proofs.NeedsLemmas.{first_none, rest_none}
use Rattle.uicc_data.proofs.RowLemmas.{on_file-has, where_named-has}
use Rattle.uicc_data.proofs.SearchLemmas.{waiting_moved}
use Rattle.uicc_data.specs.Binary.{binary_place, read_binary_row, reading, update_binary_row}
use Rattle.uicc_data.specs.Binary.{writing}
use Rattle.uicc_data.specs.FileReference.{file_named, not_there, pointer_at, standing_on, using}
use Rattle.uicc_data.specs.Moves.{MovesAlone, MovesAndWaits}
use Rattle.uicc_data.specs.FileUse.{needs_of_reading, needs_of_writing}
use Rattle.uicc_data.specs.Increase.{can_be_added, giving_sum, increase_file, increase_row}
use Rattle.uicc_data.specs.Increase.{increasing}
use Rattle.uicc_data.specs.Number.{sum_of}
use Rattle.uicc_data.specs.Record.{read_record_row, reading_number, reading_record, record_place}
use Rattle.uicc_data.specs.Record.{update_record_row, write_place, writing_number, writing_record}
use Rattle.uicc_data.specs.RecordWalk.{record_bytes, record_in}
use Rattle.uicc_data.specs.Search.{found_from, giving_numbers, search_place, search_record_row}
use Rattle.uicc_data.specs.Search.{search_start, searching}

module _ (P : CommandOutcome → Type 0) (rows : List FileRow) (allowed : List ℕ → Mode → Bool) (session : Session) (c : Apdu) (where_refused : (sw : Sw) → P (refused session sw)) where
  abbrev left_on : List ℕ → ℕ → Answer → Option Change → CommandOutcome
  left_on path pointer answer change = record { answer = answer; session = using session c.channel path pointer; change = change }

  pub read_binary-has : ((path : List ℕ) (pointer : ℕ) (answer : Answer) → P (left_on path pointer answer None)) → P (decided session (read_binary_row rows allowed session c))
  read_binary-has holds =
      where_named-has P session where_refused (needs_of_reading session c) _ (binary_place c.p1 c.p2)
      (λ place. on_file-has P session where_refused (needs_of_reading session c) allowed (not_there place.file) (reading session c place)
      (file_named rows (open_channel session c.channel) place.file) (λ row named channel lengths kind own. holds _ _ _))

  pub update_binary-has : ((path : List ℕ) (pointer : ℕ) (answer : Answer) (change : Option Change) → P (left_on path pointer answer change))
      → P (decided session (update_binary_row rows allowed session c))
  update_binary-has holds =
      where_named-has P session where_refused (needs_of_writing session c) _ (binary_place c.p1 c.p2)
      (λ place. on_file-has P session where_refused (needs_of_writing session c) allowed (not_there place.file) (writing session c place)
      (file_named rows (open_channel session c.channel) place.file) (λ row named channel lengths kind own. holds _ _ _ _))

  pub read_record-has : ((path : List ℕ) (pointer : ℕ) (answer : Answer) → P (left_on path pointer answer None)) → P (decided session (read_record_row rows allowed session c))
  read_record-has holds =
      where_named-has P session where_refused (needs_of_reading session c) _ (record_place c.p1 c.p2)
      (λ place. on_file-has P session where_refused (needs_of_reading session c) allowed (not_there place.file) (reading_record session c place)
      (file_named rows (open_channel session c.channel) place.file)
      (λ row named channel lengths kind own. at_record-has P session (reading_number session c place row)
      (record_in row.head (pointer_at (open_channel session c.channel) place.file) place.name) (λ number at last. holds _ _ _) own))

  pub update_record-has : ((path : List ℕ) (pointer : ℕ) (answer : Answer) (change : Option Change) → P (left_on path pointer answer change))
      → P (decided session (update_record_row rows allowed session c))
  update_record-has holds =
      where_named-has P session where_refused (needs_of_writing session c) _ (record_place c.p1 c.p2)
      (λ place. on_file-has P session where_refused (needs_of_writing session c) allowed (not_there place.file) (writing_record session c place)
      (file_named rows (open_channel session c.channel) place.file)
      (λ row named channel lengths kind own. at_record-has P session (writing_number session c row)
      (write_place row.head (pointer_at (open_channel session c.channel) place.file) place.name) (λ written at last. holds _ _ _ _) own))

  numbers-has : ((path : List ℕ) (pointer : ℕ) (bytes : List ℕ) → P (delivered (using session c.channel path pointer) c bytes)) → (path numbers : List ℕ)
      → (giving_numbers session c path numbers).own ≡ None → P (giving_numbers session c path numbers).done
  numbers-has holds path [] own = absurd (cc)
  numbers-has holds path (first ∷ rest) own = holds path first (first ∷ rest)

  pub search_record-has : ((path : List ℕ) (pointer : ℕ) (bytes : List ℕ) → P (delivered (using session c.channel path pointer) c bytes))
      → P (decided session (search_record_row rows allowed session c))
  search_record-has holds =
      where_named-has P session where_refused (needs_of_writing session c) _ (search_place c.p1 c.p2)
      (λ place. on_file-has P session where_refused (needs_of_writing session c) allowed (not_there place.file) (searching session c place)
      (file_named rows (open_channel session c.channel) place.file)
      (λ row named channel lengths kind own. at_record-has P session (λ number. giving_numbers session c row.head.path (found_from row c.body place.direction number))
      (record_in row.head (pointer_at (open_channel session c.channel) place.file) (search_start place (pointer_at (open_channel session c.channel) place.file)))
      (λ number at last. numbers-has holds row.head.path (found_from row c.body place.direction number) last) own))

  sum-has : ((path : List ℕ) (pointer : ℕ) (bytes : List ℕ) (change : Option Change) → P (record (delivered (using session c.channel path pointer) c bytes) { change = change }))
      → (path : List ℕ) (sum : Option (List ℕ)) → (giving_sum session c path sum).own ≡ None → P (giving_sum session c path sum).done
  sum-has holds path None own = absurd (cc)
  sum-has holds path (Some sum) own = holds path 1 (sum ++ c.body) _

  pub increase-has : ((path : List ℕ) (pointer : ℕ) (bytes : List ℕ) (change : Option Change) → P (record (delivered (using session c.channel path pointer) c bytes) { change = change }))
      → P (decided session (increase_row rows allowed session c))
  increase-has holds =
      where_named-has P session where_refused (needs_of_writing session c) _ (increase_file c.p1 c.p2)
      (λ file. on_file-has P session where_refused (needs_of_writing session c) allowed (not_there file) (increasing session c)
      (file_named rows (open_channel session c.channel) file)
      (λ row named channel lengths kind own. sum-has holds row.head.path (sum_of (record_bytes row 1) c.body)
      (first_none _ _ (rest_none (refused_unless (can_be_added (record_bytes row 1) c.body) WRONG_LENGTH) _ own))))

module _ (session : Session) (number : ℕ) (chan : Chan) (is_open : channel_at session number ≡ Some chan) where
  the_channel : open_channel session number ≡ chan
  the_channel = rw is_open refl

  same_session : session ≡ with_channel session number (Some chan)
  same_session =
      sym (ap (λ (place : Option Chan). with_channel session number place) (sym is_open)
      ∙ ap (λ (channels : List (Option Chan)). record session { channels = channels }) (set-get_or session.channels number None))

  pub stays : MovesAlone session number chan session
  stays = (chan.file, chan.pointer, same_session)

  pub moves : (path : List ℕ) (pointer : ℕ) → MovesAlone session number chan (using session number path pointer)
  moves path pointer = (Some path, pointer, rw the_channel refl)

  pub stays_waiting : MovesAndWaits session number chan session
  stays_waiting = (chan.file, chan.pointer, chan.pending, same_session)

  pub waits : (le : Option ℕ) (path : List ℕ) (pointer : ℕ) (bytes : List ℕ) → MovesAndWaits session number chan (waiting le (using session number path pointer) number bytes)
  waits None path pointer bytes = (
    Some path,
    pointer,
    bytes,
    sym (waiting_moved session number (standing_on path pointer (open_channel session number)) bytes (rw is_open refl)) ∙ rw the_channel refl,
  )
  waits (Some le) path pointer bytes = (Some path, pointer, chan.pending, rw the_channel refl)
