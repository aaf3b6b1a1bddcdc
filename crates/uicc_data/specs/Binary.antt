-- READ BINARY and UPDATE BINARY (ETSI TS 102 221).
use Rattle.std.specs.Prelude.{ℕ, ◌+◌, ◌-◌, ◌*◌, Bool, ◌==◌, nat_lt, nat_le, if◌then◌else◌, List}
use Rattle.std.specs.Prelude.{length, take, drop, Option, Some, None, unwrap_or}
use Rattle.apdu_codec.specs.Answer.{status_alone}
use Rattle.apdu_codec.specs.Class.{is_within}
use Rattle.apdu_codec.specs.Command.{Apdu}
use Rattle.apdu_codec.specs.Sw.{wrong_le}
use Rattle.apdu_codec.specs.declared.status.Sw.{Sw}
use Rattle.apdu_codec.specs.declared.status.TheConstants.Sw.{OK, WRONG_LENGTH, WRONG_OFFSET}
use Rattle.file_rows.specs.FileHead.{is_transparent}
use Rattle.file_rows.specs.declared.change.Change.TheVariants.{WriteRange}
use Rattle.file_rows.specs.declared.mode.Mode.{Mode}
use Rattle.file_rows.specs.declared.mode.Mode.TheVariants.{Bit}
use Rattle.file_rows.specs.declared.row.FileRow.{FileRow}
use Rattle.uicc_channels.specs.CommandRow.{CommandRow}
use Rattle.uicc_channels.specs.Session.{open_channel}
use Rattle.uicc_channels.specs.declared.session.Session.{Session}
use Rattle.uicc_data.specs.FileReference.{pointer_at, using}
use Rattle.uicc_data.specs.FileUse.{FileUse, needs_of_reading, needs_of_writing, on_named}
use Rattle.uicc_data.specs.FileUse.{where_named}
use Rattle.uicc_data.specs.declared.binary.BinaryPlace.{BinaryPlace}
use Rattle.uicc_data.specs.declared.reference.FileReference.TheVariants.{CurrentEf, Sfi}

-- what P1 and P2 name: with b8 of P1 clear an offset in the current EF; with b8 set, and b7 and b6
-- clear, an SFI from 1 to 30 in b5 to b1 of P1, and P2 is the offset
abbrev pub binary_place : ℕ → ℕ → Option BinaryPlace
binary_place p1 p2 =
    if nat_lt p1 0x80 then Some (record { file = CurrentEf; offset = p1 * 256 + p2 })
    else if is_within 0x81 0x9E p1 then Some (record { file = Sfi (p1 - 0x80); offset = p2 })
    else None

-- why a body can't be read from an offset, wanting so many bytes: 256 is what an Le of 00 asks
-- for, as many as there are
abbrev pub read_refusal : List ℕ → ℕ → ℕ → Option Sw
read_refusal body offset le =
    if nat_le (length body) offset then Some WRONG_OFFSET
    else if le == 256 then None
    else if nat_lt (length body - offset) le then Some (wrong_le (length body - offset))
    else None

-- why bytes can't be written from an offset on
abbrev pub write_refusal : List ℕ → ℕ → List ℕ → Option Sw
write_refusal body offset bytes =
    if nat_le (length body) offset then Some WRONG_OFFSET
    else if nat_lt (length body) (offset + length bytes) then Some WRONG_LENGTH
    else None

-- reading from a file: nothing changes but that the channel stands on it
abbrev pub reading : Session → Apdu → BinaryPlace → FileRow → FileUse
reading session c place row =
    let pointer = pointer_at (open_channel session c.channel) place.file in
    let le = unwrap_or c.le 0 in
    record {
      kind = is_transparent row.head.kind;
      mode = Bit 0x01;
      own = read_refusal row.body place.offset le;
      done = record {
        answer = record { body = take le (drop place.offset row.body); sw = OK };
        session = using session c.channel row.head.path pointer;
        change = None;
      };
    }

-- writing into a file
abbrev pub writing : Session → Apdu → BinaryPlace → FileRow → FileUse
writing session c place row =
    let pointer = pointer_at (open_channel session c.channel) place.file in
    record {
      kind = is_transparent row.head.kind;
      mode = Bit 0x02;
      own = write_refusal row.body place.offset c.body;
      done = record {
        answer = status_alone OK;
        session = using session c.channel row.head.path pointer;
        change = Some (WriteRange row.head.path place.offset c.body);
      };
    }

-- READ BINARY
abbrev pub read_binary_row :
    List FileRow → (List ℕ → Mode → Bool) → Session → Apdu → CommandRow
read_binary_row rows allowed session c =
    let needs = needs_of_reading session c in
    where_named needs session
    (λ place. on_named rows allowed session c needs place.file (reading session c place))
    (binary_place c.p1 c.p2)

-- UPDATE BINARY
abbrev pub update_binary_row :
    List FileRow → (List ℕ → Mode → Bool) → Session → Apdu → CommandRow
update_binary_row rows allowed session c =
    let needs = needs_of_writing session c in
    where_named needs session
    (λ place. on_named rows allowed session c needs place.file (writing session c place))
    (binary_place c.p1 c.p2)
