-- A card can carry out what READ RECORD and UPDATE RECORD come to.
use Rattle.std.proofs.Common.{◌≡◌, ◌⊎◌, ℕ, Bool, true, false, cond, ◌&&◌, ◌||◌, List, length, refl}
use Rattle.std.proofs.Common.{subst, inl, inr, ⊎_elim, Option, Some, None, IfSome, arith}
use Rattle.std.proofs.lemmas.Bool.Decides.{Decides-eqb}
use Rattle.std.specs.Option.{option_map}
use Rattle.std.specs.Prelude.{◌==◌}
use Rattle.apdu_codec.specs.Command.{Apdu}
use Rattle.apdu_codec.specs.declared.status.TheConstants.Sw.{WRONG_LENGTH}
use Rattle.file_rows.proofs.ConditionLemmas.{fits_where}
use Rattle.file_rows.specs.Change.{IsRecordFor, with_record}
use Rattle.file_rows.specs.Content.{IsValid}
use Rattle.file_rows.specs.FileHead.{HasRecord, has_records, holds_files, is_cyclic, is_linear}
use Rattle.file_rows.specs.declared.change.Change.TheVariants.{WriteRecord}
use Rattle.file_rows.specs.declared.content.Content.{Content}
use Rattle.file_rows.specs.declared.head.FileHead.{FileHead}
use Rattle.file_rows.specs.declared.head.Kind.{Kind}
use Rattle.file_rows.specs.declared.head.Kind.TheVariants.{Master, Directory, Application}
use Rattle.file_rows.specs.declared.head.Kind.TheVariants.{Transparent, Linear, Cyclic}
use Rattle.file_rows.specs.declared.mode.Mode.{Mode}
use Rattle.file_rows.specs.declared.row.FileRow.{FileRow}
use Rattle.uicc_channels.proofs.AmongLemmas.{IsAmong}
use Rattle.uicc_channels.proofs.CarryLemmas.{stands_open}
use Rattle.uicc_channels.specs.CommandOutcome.{CommandOutcome}
use Rattle.uicc_channels.specs.CommandRow.{decided}
use Rattle.uicc_channels.specs.Needs.{refused_unless}
use Rattle.uicc_channels.specs.Session.{IsOpen, Suits, open_channel}
use Rattle.uicc_channels.specs.declared.session.Session.{Session}
use Rattle.uicc_tree.proofs.ApplyLemmas.{row_is}
use Rattle.uicc_tree.specs.Change.{AreRows}
use Rattle.uicc_data.proofs.CarryLemmas.{CanCarryOut-refused, apart_rows, at_its_path}
use Rattle.uicc_data.proofs.RecordLemmas.{has_record, record_there, whole_records}
use Rattle.uicc_channels.proofs.NeedsLemmas.{is_met}
use Rattle.uicc_data.proofs.RowLemmas.{on_file-has, where_named-has}
use Rattle.uicc_data.proofs.SuitsLemmas.{Suits-using, Suits-written, named_among, pointer_stands}
use Rattle.uicc_channels.specs.CarriesOut.{CanCarryOut}
use Rattle.uicc_data.specs.FileReference.{file_named, not_there, pointer_at}
use Rattle.uicc_data.specs.FileUse.{needs_of_reading, needs_of_writing}
use Rattle.uicc_data.specs.Record.{RecordUse, at_record, is_previous, new_first_record}
use Rattle.uicc_data.specs.Record.{read_record_row, reading_number, reading_record, record_place}
use Rattle.uicc_data.specs.Record.{update_record_row, write_place, writing_number, writing_record}
use Rattle.uicc_data.specs.RecordWalk.{HoldsWholeRecords, IsPointerIn, pointer_after, record_in}
use Rattle.uicc_data.specs.declared.record_update.WritePlace.{WritePlace}
use Rattle.uicc_data.specs.declared.reference.FileReference.{FileReference}
use Rattle.uicc_data.specs.declared.walk.RecordName.{RecordName}
use Rattle.uicc_data.specs.declared.walk.RecordName.TheVariants.{Next, Previous, Absolute, Current}

-- a file with records holds no files
pub bare_records : (kind : Kind) → has_records kind ≡ true → holds_files kind ≡ false
bare_records Master e = absurd (cc)
bare_records Directory e = absurd (cc)
bare_records Application e = absurd (cc)
bare_records Transparent e = absurd (cc)
bare_records Linear e = refl
bare_records Cyclic e = refl

pub updatable : (kind : Kind) (previous : Bool) → (is_linear kind || (is_cyclic kind && previous)) ≡ true → has_records kind ≡ true
updatable Master previous e = absurd (cc)
updatable Directory previous e = absurd (cc)
updatable Application previous e = absurd (cc)
updatable Transparent previous e = absurd (cc)
updatable Linear previous e = refl
updatable Cyclic previous e = refl

pub cyclic_kind : (kind : Kind) → is_cyclic kind ≡ true → kind ≡ Cyclic
cyclic_kind Master e = absurd (cc)
cyclic_kind Directory e = absurd (cc)
cyclic_kind Application e = absurd (cc)
cyclic_kind Transparent e = absurd (cc)
cyclic_kind Linear e = absurd (cc)
cyclic_kind Cyclic e = refl

-- the files of a valid content, or none
pub are_rows : (content : Content) → IsValid content → AreRows content.rows
are_rows content valid = ⊎_elim (λ empty. inr empty.rows) (λ system. inl system.files) valid.system

-- a command that is done on a record names one, and does there what it does
pub at_record-has : {X : Type 0} (P : CommandOutcome → Type 0) (session : Session) (usage : X → RecordUse) (o : Option X)
    → ((x : X) → o ≡ Some x → (usage x).own ≡ None → P (usage x).done) → (at_record session usage o).own ≡ None → P (at_record session usage o).done
at_record-has P session usage None holds own = absurd (cc)
at_record-has P session usage (Some x) holds own = holds x refl own

pointer_after_in : (head : FileHead) (before : ℕ) (name : RecordName) (number : ℕ) → IsPointerIn head before → HasRecord head number → IsPointerIn head (pointer_after before name number)
pointer_after_in head before Next number is has = inr has
pointer_after_in head before Previous number is has = inr has
pointer_after_in head before (Absolute named) number is has = is
pointer_after_in head before Current number is has = is

pub if_some : (P : ℕ → Type 0) (o : Option ℕ) (x : ℕ) → IfSome o P → o ≡ Some x → P x
if_some P o x said e = subst (λ (o : Option ℕ). IfSome o P) e said

-- where UPDATE RECORD writes there is a record, or it writes a new one into a cyclic file
pub record IsWritable (head : FileHead) (place : WritePlace) : Type 0 where
  pub number : HasRecord head place.number ⊎ ((place.number ≡ 0) × (head.kind ≡ Cyclic))
  pub pointer : IsPointerIn head place.pointer

module _ (row : FileRow) (before : ℕ) (name : RecordName) (whole : HoldsWholeRecords row) (is : IsPointerIn row.head before) where
  linear_place : (o : Option ℕ) (place : WritePlace) → IfSome o (HasRecord row.head)
      → option_map (λ number. record { number = number; pointer = pointer_after before name number }) o ≡ Some place → IsWritable row.head place
  linear_place None place there e = absurd (cc)
  linear_place (Some number) place there e =
      let same : record { number = number; pointer = pointer_after before name number } ≡ place = cc in
      subst (λ (place : WritePlace). IsWritable row.head place) same (record { number = inl there; pointer = pointer_after_in row.head before name number is there })

  pub write_place_is : (place : WritePlace) → write_place row.head before name ≡ Some place → IsWritable row.head place
  write_place_is place e = either (is_cyclic row.head.kind) refl e
    where
      either : (goes : Bool) → is_cyclic row.head.kind ≡ goes
          → cond goes (Some new_first_record) (option_map (λ number. record { number = number; pointer = pointer_after before name number }) (record_in row.head before name)) ≡ Some place
          → IsWritable row.head place
      either true goes f =
          let same : new_first_record ≡ place = cc in
          subst (λ (place : WritePlace). IsWritable row.head place) same
          (record { number = inr (refl, cyclic_kind row.head.kind goes); pointer = inr (has_record row 1 whole (omega arith) whole.first) })
      either false goes f = linear_place (record_in row.head before name) place (record_there row before name whole is) f

pub exact_record : (row : FileRow) (bytes : List ℕ) → refused_unless (length bytes == row.head.record_len) WRONG_LENGTH ≡ None → length bytes ≡ row.head.record_len
exact_record row bytes e = (Decides-eqb (length bytes) row.head.record_len).0 (is_met (length bytes == row.head.record_len) WRONG_LENGTH e)

module _ (content : Content) (valid : IsValid content) (session : Session) (suits : Suits session content.rows) (allowed : List ℕ → Mode → Bool) (c : Apdu) where
  -- what is known of the file that a record command works on
  pub record OnRecords (file : FileReference) (row : FileRow) : Type 0 where
    pub among : IsAmong content.rows row
    pub whole : HoldsWholeRecords row
    pub pointer : IsPointerIn row.head (pointer_at (open_channel session c.channel) file)

  pub on_records : (file : FileReference) (row : FileRow) → file_named content.rows (open_channel session c.channel) file ≡ Some row → IsOpen session c.channel
      → has_records row.head.kind ≡ true → OnRecords file row
  on_records file row named is_open has =
      let among : IsAmong content.rows row = named_among content.rows (open_channel session c.channel) file row (apart_rows content valid) named in
      record {
        among = among;
        whole = whole_records row (row_is content.rows (are_rows content valid) row.head.path row among) has;
        pointer = pointer_stands content.rows (open_channel session c.channel) file row (stands_open session content.rows c.channel suits is_open) named;
      }

  pub CanCarryOut-read_record : CanCarryOut content (decided session (read_record_row content.rows allowed session c))
  CanCarryOut-read_record =
      where_named-has (CanCarryOut content) session (CanCarryOut-refused content session suits) (needs_of_reading session c) _ (record_place c.p1 c.p2)
      (λ place. on_file-has (CanCarryOut content) session (CanCarryOut-refused content session suits) (needs_of_reading session c) allowed (not_there place.file)
      (reading_record session c place) (file_named content.rows (open_channel session c.channel) place.file)
      (λ row named channel lengths kind own.
      let on : OnRecords place.file row = on_records place.file row named channel kind in
      let before : ℕ = pointer_at (open_channel session c.channel) place.file in
      at_record-has (CanCarryOut content) session (reading_number session c place row) (record_in row.head before place.name)
      (λ number at last. record {
        change = tt;
        session = Suits-using session content.rows c.channel row (pointer_after before place.name number) suits channel on.among (bare_records row.head.kind kind)
            (pointer_after_in row.head before place.name number on.pointer
            (if_some (HasRecord row.head) (record_in row.head before place.name) number (record_there row before place.name on.whole on.pointer) at));
      })
      own))

  pub CanCarryOut-update_record : CanCarryOut content (decided session (update_record_row content.rows allowed session c))
  CanCarryOut-update_record =
      where_named-has (CanCarryOut content) session (CanCarryOut-refused content session suits) (needs_of_writing session c) _ (record_place c.p1 c.p2)
      (λ place. on_file-has (CanCarryOut content) session (CanCarryOut-refused content session suits) (needs_of_writing session c) allowed (not_there place.file)
      (writing_record session c place) (file_named content.rows (open_channel session c.channel) place.file)
      (λ row named channel lengths kind own.
      let has : has_records row.head.kind ≡ true = updatable row.head.kind (is_previous place.name) kind in
      let on : OnRecords place.file row = on_records place.file row named channel has in
      let before : ℕ = pointer_at (open_channel session c.channel) place.file in
      at_record-has (CanCarryOut content) session (writing_number session c row) (write_place row.head before place.name)
      (λ written at last.
      let is : IsWritable row.head written = write_place_is row before place.name on.whole on.pointer written at in
      let fits : IsRecordFor row written.number c.body = record { exact = exact_record row c.body last; place = is.number } in
      record {
        change = (fits_where content (WriteRecord row.head.path written.number c.body) valid).1
            (at_its_path (λ row. IsRecordFor row written.number c.body) content.rows row on.among fits);
        session = Suits-written row.head.path (with_record written.number c.body) _ content.rows
            (Suits-using session content.rows c.channel row written.pointer suits channel on.among (bare_records row.head.kind has) is.pointer);
      })
      own))
