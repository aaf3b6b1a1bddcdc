-- INCREASE (ETSI TS 102 221).
use Rattle.std.specs.Prelude.{ℕ, ◌+◌, ◌-◌, Bool, ◌==◌, ◌&&◌, nat_le, if◌then◌else◌, List, [], ◌∷◌}
use Rattle.std.specs.Prelude.{◌++◌, length, Option, Some, None}
use Rattle.apdu_codec.specs.Answer.{status_alone}
use Rattle.apdu_codec.specs.Class.{is_within}
use Rattle.apdu_codec.specs.Command.{Apdu}
use Rattle.apdu_codec.specs.declared.status.TheConstants.Sw.{MAXIMUM_REACHED, OK, WRONG_LENGTH}
use Rattle.file_rows.specs.declared.change.Change.TheVariants.{WriteRecord}
use Rattle.file_rows.specs.declared.mode.Mode.{Mode}
use Rattle.file_rows.specs.declared.mode.Mode.TheVariants.{Ins}
use Rattle.file_rows.specs.declared.row.FileRow.{FileRow}
use Rattle.plain_lists.specs.FirstOf.{first_of}
use Rattle.uicc_channels.specs.CommandOutcome.{answering}
use Rattle.uicc_channels.specs.CommandRow.{CommandRow}
use Rattle.uicc_channels.specs.Delivery.{delivered, le_refusal}
use Rattle.uicc_channels.specs.Needs.{refused_unless}
use Rattle.uicc_channels.specs.declared.session.Session.{Session}
use Rattle.uicc_data.specs.FileReference.{using}
use Rattle.uicc_data.specs.FileUse.{FileUse, needs_of_writing, on_named, where_named}
use Rattle.uicc_data.specs.Number.{sum_of}
use Rattle.uicc_data.specs.Record.{RecordUse, new_first_record}
use Rattle.file_rows.specs.FileHead.{is_cyclic}
use Rattle.uicc_data.specs.RecordWalk.{record_bytes}
use Rattle.uicc_data.specs.declared.reference.FileReference.{FileReference}
use Rattle.uicc_data.specs.declared.reference.FileReference.TheVariants.{CurrentEf, Sfi}

-- P2 is 00; P1 is 00 for the current EF, or has b8 set, b7 and b6 clear, and an SFI from 1 to 30 in
-- b5 to b1
abbrev pub increase_file : ℕ → ℕ → Option FileReference
increase_file p1 p2 =
    if (p1 == 0) && (p2 == 0) then Some CurrentEf
    else if is_within 0x81 0x9E p1 && (p2 == 0) then Some (Sfi (p1 - 0x80))
    else None

-- the bytes to add are no more than a record, and one answer takes both
abbrev pub can_be_added : List ℕ → List ℕ → Bool
can_be_added number addend =
    nat_le (length addend) (length number) && nat_le (length number + length addend) 256

-- the sum becomes record 1, and it is delivered with what was added
abbrev pub giving_sum : Session → Apdu → List ℕ → Option (List ℕ) → RecordUse
giving_sum session c path None =
    record { own = Some MAXIMUM_REACHED; done = answering session (status_alone OK) }
giving_sum session c path (Some sum) =
    let after = using session c.channel path new_first_record.pointer in
    record {
      own = le_refusal c.le (sum ++ c.body);
      done = record (delivered after c (sum ++ c.body)) {
        change = Some (WriteRecord path new_first_record.number sum);
      };
    }

abbrev pub increasing : Session → Apdu → FileRow → FileUse
increasing session c row =
    let number = record_bytes row 1 in
    let usage = giving_sum session c row.head.path (sum_of number c.body) in
    record {
      kind = is_cyclic row.head.kind;
      mode = Ins 0x32;
      own = first_of
          (refused_unless (can_be_added number c.body) WRONG_LENGTH ∷ usage.own ∷ []);
      done = usage.done;
    }

-- INCREASE
abbrev pub increase_row :
    List FileRow → (List ℕ → Mode → Bool) → Session → Apdu → CommandRow
increase_row rows allowed session c =
    let needs = needs_of_writing session c in
    where_named needs session
    (λ file. on_named rows allowed session c needs file (increasing session c))
    (increase_file c.p1 c.p2)
