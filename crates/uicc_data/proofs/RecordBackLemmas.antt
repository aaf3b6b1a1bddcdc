-- A record that was written is read back.
use Rattle.std.proofs.Common.{◌≡◌, ◌⊎◌, ◌≤◌, ◌%◌, ℕ, Bool, true, false, cond, List, length, refl}
use Rattle.std.proofs.Common.{sym, ◌∙◌, ap, subst, inl, inr, Option, Some, None, arith}
use Rattle.std.proofs.lemmas.Bool.Decides.{nat_tests}
use Rattle.std.specs.Option.{option_map}
use Rattle.std.specs.Prelude.{◌==◌, ◌||◌, nat_lt, option_and_then}
use Rattle.apdu_codec.specs.Command.{Apdu}
use Rattle.apdu_codec.specs.declared.status.Sw.{Sw}
use Rattle.file_rows.specs.Change.{changed, with_body, with_record}
use Rattle.file_rows.specs.Content.{IsValid}
use Rattle.file_rows.specs.FileHead.{HasRecord}
use Rattle.file_rows.specs.declared.change.Change.{Change}
use Rattle.file_rows.specs.declared.change.Change.TheVariants.{WriteRecord}
use Rattle.file_rows.specs.declared.content.Content.{Content}
use Rattle.file_rows.specs.declared.head.Kind.TheVariants.{Cyclic}
use Rattle.file_rows.specs.declared.mode.Mode.{Mode}
use Rattle.file_rows.specs.declared.row.FileRow.{FileRow}
use Rattle.uicc_channels.proofs.AmongLemmas.{IsAmong}
use Rattle.uicc_channels.specs.CommandOutcome.{CommandOutcome, refused}
use Rattle.uicc_channels.specs.CommandRow.{decided, refusal_of}
use Rattle.uicc_channels.specs.Session.{IsOpen, Suits, open_channel}
use Rattle.uicc_channels.specs.declared.session.Session.{Session}
use Rattle.uicc_data.proofs.ReadBackLemmas.{done_where_taken, named_written, stands_there}
use Rattle.uicc_data.proofs.RecordCarryLemmas.{IsWritable, OnRecords, at_record-has, exact_record}
use Rattle.uicc_data.proofs.RecordCarryLemmas.{on_records, updatable, write_place_is}
use Rattle.uicc_data.proofs.RecordLemmas.{up_to_count}
use Rattle.uicc_data.proofs.RowLemmas.{named-has, on_file-has}
use Rattle.uicc_data.proofs.SuitsLemmas.{written_rows}
use Rattle.uicc_data.proofs.WriteLemmas.{first_written, record_written}
use Rattle.uicc_data.specs.FileReference.{file_named, not_there, pointer_at, standing_on, using}
use Rattle.uicc_data.specs.FileUse.{needs_of_reading, needs_of_writing, on_file, on_named}
use Rattle.uicc_data.specs.FileUse.{where_named}
use Rattle.uicc_data.specs.Record.{at_record, is_previous, read_record_row, reading_number}
use Rattle.uicc_data.specs.Record.{reading_record, record_file, record_name, record_place}
use Rattle.uicc_data.specs.Record.{update_record_row, write_place, writing_number, writing_record}
use Rattle.uicc_data.specs.RecordReadBack.{ReadsRecordBack, number_written, record_read_outcome}
use Rattle.uicc_data.specs.RecordReadBack.{record_update_outcome}
use Rattle.uicc_data.specs.RecordWalk.{HoldsWholeRecords, record_bytes, record_count, record_in}
use Rattle.uicc_data.specs.RecordWalk.{record_numbered}
use Rattle.uicc_data.specs.declared.record_update.WritePlace.{WritePlace}
use Rattle.uicc_data.specs.declared.reference.FileReference.{FileReference}
use Rattle.uicc_data.specs.declared.walk.RecordName.{RecordName}
use Rattle.uicc_data.specs.declared.walk.RecordName.TheVariants.{Absolute, Current}
use Rattle.uicc_data.specs.declared.walk.RecordPlace.{RecordPlace}

-- what an UPDATE RECORD that changes something did
record WroteRecord (content : Content) (session : Session) (c : Apdu) (change : Change) (after : Session) : Type 0 where
  place : RecordPlace
  at : record_place c.p1 c.p2 ≡ Some place
  row : FileRow
  named : file_named content.rows (open_channel session c.channel) place.file ≡ Some row
  is_open : IsOpen session c.channel
  among : IsAmong content.rows row
  whole : HoldsWholeRecords row
  written : WritePlace
  exact : length c.body ≡ row.head.record_len
  number : HasRecord row.head written.number ⊎ ((written.number ≡ 0) × (row.head.kind ≡ Cyclic))
  made : WriteRecord row.head.path written.number c.body ≡ change
  left : after ≡ using session c.channel row.head.path written.pointer

module _ (content : Content) (valid : IsValid content) (session : Session) (suits : Suits session content.rows) (allowed : List ℕ → Mode → Bool) (c : Apdu) (change : Change) where
  abbrev IsWrite : CommandOutcome → Type 0
  IsWrite outcome = outcome.change ≡ Some change → WroteRecord content session c change outcome.session

  no_write : (sw : Sw) → IsWrite (refused session sw)
  no_write sw e = absurd (cc)

  wrote_record : IsWrite (decided session (update_record_row content.rows allowed session c))
  wrote_record =
      named-has IsWrite session no_write (needs_of_writing session c)
      (λ place. on_named content.rows allowed session c (needs_of_writing session c) place.file (writing_record session c place)) (record_place c.p1 c.p2)
      (λ place at. on_file-has IsWrite session no_write (needs_of_writing session c) allowed (not_there place.file) (writing_record session c place)
      (file_named content.rows (open_channel session c.channel) place.file)
      (λ row named channel lengths kind own.
      let on : OnRecords content valid session suits allowed c place.file row =
      on_records content valid session suits allowed c place.file row named channel (updatable row.head.kind (is_previous place.name) kind) in
      let before : ℕ = pointer_at (open_channel session c.channel) place.file in
      at_record-has IsWrite session (writing_number session c row) (write_place row.head before place.name)
      (λ written there last same.
      let is : IsWritable row.head written = write_place_is row before place.name on.whole on.pointer written there in
      record {
        place = place;
        at = at;
        row = row;
        named = named;
        is_open = channel;
        among = on.among;
        whole = on.whole;
        written = written;
        exact = exact_record row c.body last;
        number = is.number;
        made = cc;
        left = refl;
      })
      own))

-- what a READ RECORD that isn't refused gives, by its place and its file
record_body : (rows : List FileRow) (allowed : List ℕ → Mode → Bool) (session : Session) (c : Apdu) (place : RecordPlace) (row : FileRow) (number : ℕ) → record_place c.p1 c.p2 ≡ Some place
    → file_named rows (open_channel session c.channel) place.file ≡ Some row → record_in row.head (pointer_at (open_channel session c.channel) place.file) place.name ≡ Some number
    → refusal_of (read_record_row rows allowed session c) ≡ None → (decided session (read_record_row rows allowed session c)).answer.body ≡ record_bytes row number
record_body rows allowed session c place row number at named found taken =
    ap (λ (outcome : CommandOutcome). outcome.answer.body) (done_where_taken session (read_record_row rows allowed session c) taken)
    ∙ ap (λ (o : Option RecordPlace). (where_named (needs_of_reading session c) session
    (λ place. on_named rows allowed session c (needs_of_reading session c) place.file (reading_record session c place)) o).done.answer.body) at
    ∙ ap (λ (o : Option FileRow). (on_file (needs_of_reading session c) session allowed (not_there place.file) (reading_record session c place) o).done.answer.body) named
    ∙ ap (λ (o : Option ℕ). (at_record session (reading_number session c place row) o).done.answer.body) found

named_by : (file : FileReference) (name : Option RecordName) (place : RecordPlace) → option_map (λ name. record { file = file; name = name }) name ≡ Some place → file ≡ place.file
named_by file None place e = absurd (cc)
named_by file (Some name) place e =
    let same : record { file = file; name = name } ≡ place = cc in
    ap (λ (place : RecordPlace). place.file) same

-- the file that P2 names
file_of_place : (p1 p2 : ℕ) (place : RecordPlace) → record_place p1 p2 ≡ Some place → record_file p2 ≡ Some place.file
file_of_place p1 p2 place e = either (record_file p2) e
  where
    either : (file : Option FileReference) → option_and_then (λ file. option_map (λ name. record { file = file; name = name }) (record_name p1 p2)) file ≡ Some place → file ≡ Some place.file
    either None e = absurd (cc)
    either (Some file) e = ap (λ (f : FileReference). Some f) (named_by file (record_name p1 p2) place e)

not_none : (n : ℕ) → 1 ≤ n → (n == 0) ≡ false
not_none n some = grind (arith, nat_tests)

-- by its number
name_of : (p1 p2 : ℕ) → p2 % 8 ≡ 4 → 1 ≤ p1 → record_name p1 p2 ≡ Some (Absolute p1)
name_of p1 p2 absolute some = rw absolute (ap (λ (b : Bool). Some (cond b Current (Absolute p1))) (not_none p1 some))

place_of : (p1 p2 : ℕ) (file : FileReference) → record_file p2 ≡ Some file → p2 % 8 ≡ 4 → 1 ≤ p1 → record_place p1 p2 ≡ Some (record { file = file; name = Absolute p1 })
place_of p1 p2 file is absolute some =
    ap (λ (o : Option FileReference). option_and_then (λ file. option_map (λ name. record { file = file; name = name }) (record_name p1 p2)) o) is
    ∙ ap (λ (o : Option RecordName). option_map (λ name. record { file = file; name = name }) o) (name_of p1 p2 absolute some)

numbered_there : (count number : ℕ) → 1 ≤ number → number ≤ count → record_numbered count number ≡ Some number
numbered_there count number first last =
    let none : ((number == 0) || nat_lt count number) ≡ false = grind (arith, nat_tests) in
    ap (λ (b : Bool). cond b None (Some number)) none

module _ (content : Content) (valid : IsValid content) (allowed : List ℕ → Mode → Bool) (session : Session) (suits : Suits session content.rows) (write : Apdu) (change : Change) (read : Apdu)
    (back : ReadsRecordBack content allowed session write change read) where
  abbrev after : Session
  after = (record_update_outcome content allowed session write).session

  abbrev wrote : WroteRecord content session write change after
  wrote = wrote_record content valid session suits allowed write change back.made

  abbrev row_after : FileRow
  row_after = with_body (with_record wrote.written.number write.body) wrote.row

  by_number : read.p1 ≡ number_written (WriteRecord wrote.row.head.path wrote.written.number write.body)
  by_number = back.number ∙ ap (λ (change : Change). number_written change) (sym wrote.made)

  stands : file_named (changed content change).rows (open_channel after read.channel) wrote.place.file ≡ Some row_after
  stands =
      let chan : open_channel after read.channel ≡ standing_on wrote.row.head.path wrote.written.pointer (open_channel session write.channel) =
      rw (back.channel, wrote.left) (stands_there session write.channel wrote.row.head.path wrote.written.pointer wrote.is_open) in
      let rows : (changed content change).rows ≡ written_rows wrote.row.head.path (with_record wrote.written.number write.body) content.rows =
      ap (λ (change : Change). (changed content change).rows) (sym wrote.made) in
      rw (chan, rows)
      (named_written (with_record wrote.written.number write.body) content.rows (open_channel session write.channel) wrote.written.pointer wrote.place.file wrote.row wrote.among wrote.named)

  -- where the number that is read is that of a record, and the record has these bytes, they are read
  reads : 1 ≤ read.p1 → read.p1 ≤ record_count wrote.row.head → record_bytes row_after read.p1 ≡ write.body → (record_read_outcome content allowed session write change read).answer.body ≡ write.body
  reads first last bytes =
      let file : record_file read.p2 ≡ Some wrote.place.file = back.file ∙ file_of_place write.p1 write.p2 wrote.place wrote.at in
      record_body (changed content change).rows allowed after read (record { file = wrote.place.file; name = Absolute read.p1 }) row_after read.p1
      (place_of read.p1 read.p2 wrote.place.file file back.absolute first) stands (numbered_there (record_count wrote.row.head) read.p1 first last) back.taken
      ∙ bytes

  -- the record that was written last is the one that is read
  pub record_back : (record_read_outcome content allowed session write change read).answer.body ≡ write.body
  record_back = either wrote.number
    where
      either : HasRecord wrote.row.head wrote.written.number ⊎ ((wrote.written.number ≡ 0) × (wrote.row.head.kind ≡ Cyclic))
          → (record_read_outcome content allowed session write change read).answer.body ≡ write.body
      either (inl has) =
          let is : read.p1 ≡ wrote.written.number = by_number ∙ ap (λ (b : Bool). cond b 1 wrote.written.number) (not_none wrote.written.number has.first) in
          reads (omega (arith, is, has.first)) (omega (arith, is, up_to_count wrote.row wrote.written.number has))
          (ap (λ (n : ℕ). record_bytes row_after n) is ∙ record_written wrote.row wrote.written.number write.body wrote.whole.body has wrote.exact)
      either (inr new) =
          let is : read.p1 ≡ 1 = by_number ∙ ap (λ (n : ℕ). cond (n == 0) 1 n) new.0 in
          reads (omega (arith, is)) (omega (arith, is, wrote.whole.first))
          (ap (λ (n : ℕ). record_bytes row_after n) is
          ∙ ap (λ (n : ℕ). record_bytes (with_body (with_record n write.body) wrote.row) 1) new.0
          ∙ first_written wrote.row write.body wrote.exact)
