-- READ RECORD and UPDATE RECORD (ETSI TS 102 221).
use Rattle.std.specs.Prelude.{ℕ, ◌/◌, ◌%◌, Bool, true, false, ◌==◌, ◌&&◌, ◌||◌, nat_le}
use Rattle.std.specs.Prelude.{if◌then◌else◌, List, length, Option, Some, None, option_and_then}
use Rattle.std.specs.Prelude.{option_map, ◌≡◌, Result, Ok, Err}
use Rattle.apdu_codec.specs.Answer.{status_alone}
use Rattle.apdu_codec.specs.Command.{Apdu}
use Rattle.apdu_codec.specs.declared.status.Sw.{Sw}
use Rattle.apdu_codec.specs.declared.status.TheConstants.Sw.{OK, RECORD_NOT_FOUND, WRONG_LENGTH}
use Rattle.file_rows.specs.FileHead.{has_records, is_cyclic, is_linear}
use Rattle.file_rows.specs.declared.change.Change.TheVariants.{WriteRecord}
use Rattle.file_rows.specs.declared.head.FileHead.{FileHead}
use Rattle.file_rows.specs.declared.mode.Mode.{Mode}
use Rattle.file_rows.specs.declared.mode.Mode.TheVariants.{Bit}
use Rattle.file_rows.specs.declared.row.FileRow.{FileRow}
use Rattle.uicc_channels.specs.CommandOutcome.{CommandOutcome, answering, outcome_of}
use Rattle.uicc_channels.specs.CommandRow.{CommandRow}
use Rattle.uicc_channels.specs.Delivery.{le_refusal}
use Rattle.uicc_channels.specs.Needs.{refused_unless}
use Rattle.uicc_channels.specs.Session.{open_channel}
use Rattle.uicc_channels.specs.declared.decided.Decided.{Decided}
use Rattle.uicc_channels.specs.declared.session.Session.{Session}
use Rattle.uicc_data.specs.FileReference.{pointer_at, using}
use Rattle.uicc_data.specs.FileUse.{FileUse, needs_of_reading, needs_of_writing, on_named}
use Rattle.uicc_data.specs.FileUse.{where_named}
use Rattle.uicc_data.specs.RecordWalk.{pointer_after, record_bytes, record_in}
use Rattle.uicc_data.specs.declared.walk.RecordName.{RecordName}
use Rattle.uicc_data.specs.declared.walk.RecordName.TheVariants.{Next, Previous, Absolute, Current}
use Rattle.uicc_data.specs.declared.record_update.WritePlace.{WritePlace}
use Rattle.uicc_data.specs.declared.walk.RecordPlace.{RecordPlace}
use Rattle.uicc_data.specs.declared.reference.FileReference.{FileReference}
use Rattle.uicc_data.specs.declared.reference.FileReference.TheVariants.{CurrentEf, Sfi}

-- b8 to b4 of P2 are an SFI from 1 to 30, or 0 for the current EF
abbrev pub record_file : ℕ → Option FileReference
record_file p2 =
    if p2 / 8 == 0 then Some CurrentEf
    else if nat_le (p2 / 8) 30 then Some (Sfi (p2 / 8))
    else None

-- the record of that number, and by 00 the one at the pointer
abbrev pub numbered : ℕ → RecordName
numbered p1 = if p1 == 0 then Current else Absolute p1

-- b3 to b1 of P2: 2 next, 3 previous, 4 the record with the number P1
abbrev pub record_name : ℕ → ℕ → Option RecordName
record_name p1 p2 =
    if p2 % 8 == 2 then Some Next
    else if p2 % 8 == 3 then Some Previous
    else if p2 % 8 == 4 then Some (numbered p1)
    else None

-- what P1 and P2 of READ RECORD and UPDATE RECORD name
abbrev pub record_place : ℕ → ℕ → Option RecordPlace
record_place p1 p2 =
    option_and_then (λ file. option_map
    (λ name. record { file = file; name = name }) (record_name p1 p2)) (record_file p2)

-- what comes of a command on one record
pub record RecordUse : Type 0 where
  pub own : Option Sw
  pub done : CommandOutcome

-- what came of a command on its record is what it does there
abbrev pub FollowsRecordUse : Session → RecordUse → Decided → Result Unit Sw → Type 0
FollowsRecordUse session usage done (Ok _) =
    (usage.own ≡ None) × (outcome_of session done ≡ usage.done)
FollowsRecordUse session usage done (Err sw) = usage.own ≡ Some sw

-- on the record that a command names, which may not be there
abbrev pub at_record : {X : Type 0} → Session → (X → RecordUse) → Option X → RecordUse
at_record session usage None =
    record { own = Some RECORD_NOT_FOUND; done = answering session (status_alone OK) }
at_record session usage (Some found) = usage found

-- reading the record of that number
abbrev pub reading_number : Session → Apdu → RecordPlace → FileRow → ℕ → RecordUse
reading_number session c place row number =
    let before = pointer_at (open_channel session c.channel) place.file in
    let after = pointer_after before place.name number in
    record {
      own = le_refusal c.le (record_bytes row number);
      done = record {
        answer = record { body = record_bytes row number; sw = OK };
        session = using session c.channel row.head.path after;
        change = None;
      };
    }

-- reading a record of a file
abbrev pub reading_record : Session → Apdu → RecordPlace → FileRow → FileUse
reading_record session c place row =
    let before = pointer_at (open_channel session c.channel) place.file in
    let number = record_in row.head before place.name in
    let usage = at_record session (reading_number session c place row) number in
    record {
      kind = has_records row.head.kind;
      mode = Bit 0x01;
      own = usage.own;
      done = usage.done;
    }

-- bytes that don't have the length of a record
abbrev pub not_a_record : FileRow → List ℕ → Option Sw
not_a_record row bytes = refused_unless (length bytes == row.head.record_len) WRONG_LENGTH

-- writing bytes as a record
abbrev pub writing_number : Session → Apdu → FileRow → WritePlace → RecordUse
writing_number session c row place =
    record {
      own = not_a_record row c.body;
      done = record {
        answer = status_alone OK;
        session = using session c.channel row.head.path place.pointer;
        change = Some (WriteRecord row.head.path place.number c.body);
      };
    }

-- a new record 1, on which the pointer is afterwards
abbrev pub new_first_record : WritePlace
new_first_record = record { number = 0; pointer = 1 }

-- where UPDATE RECORD writes: in a cyclic file the bytes become record 1, and the last record goes
abbrev pub write_place : FileHead → ℕ → RecordName → Option WritePlace
write_place head pointer name =
    if is_cyclic head.kind then Some new_first_record
    else option_map
    (λ number. record { number = number; pointer = pointer_after pointer name number })
    (record_in head pointer name)

abbrev pub is_previous : RecordName → Bool
is_previous Next = false
is_previous Previous = true
is_previous (Absolute number) = false
is_previous Current = false

-- writing a record of a file; a cyclic file takes previous alone
abbrev pub writing_record : Session → Apdu → RecordPlace → FileRow → FileUse
writing_record session c place row =
    let before = pointer_at (open_channel session c.channel) place.file in
    let written = write_place row.head before place.name in
    let usage = at_record session (writing_number session c row) written in
    record {
      kind = is_linear row.head.kind || (is_cyclic row.head.kind && is_previous place.name);
      mode = Bit 0x02;
      own = usage.own;
      done = usage.done;
    }

-- READ RECORD
abbrev pub read_record_row :
    List FileRow → (List ℕ → Mode → Bool) → Session → Apdu → CommandRow
read_record_row rows allowed session c =
    let needs = needs_of_reading session c in
    where_named needs session
    (λ place. on_named rows allowed session c needs place.file (reading_record session c place))
    (record_place c.p1 c.p2)

-- UPDATE RECORD
abbrev pub update_record_row :
    List FileRow → (List ℕ → Mode → Bool) → Session → Apdu → CommandRow
update_record_row rows allowed session c =
    let needs = needs_of_writing session c in
    where_named needs session
    (λ place. on_named rows allowed session c needs place.file (writing_record session c place))
    (record_place c.p1 c.p2)
