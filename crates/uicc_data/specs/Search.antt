-- SEARCH RECORD (ETSI TS 102 221), the simple search.
use Rattle.std.specs.Prelude.{ℕ, zero, suc, ◌+◌, ◌-◌, ◌%◌, Bool, ◌==◌, ◌&&◌, ◌||◌, if◌then◌else◌}
use Rattle.std.specs.Prelude.{List, [], ◌∷◌, filter, nat_eq, Option, Some, None, option_and_then}
use Rattle.std.specs.Prelude.{option_map}
use Rattle.std.specs.List.{starts_with}
use Rattle.apdu_codec.specs.Answer.{status_alone}
use Rattle.apdu_codec.specs.Command.{Apdu}
use Rattle.apdu_codec.specs.declared.status.TheConstants.Sw.{NOT_FOUND_IN_RECORDS, OK}
use Rattle.file_rows.specs.declared.mode.Mode.{Mode}
use Rattle.file_rows.specs.declared.mode.Mode.TheVariants.{Bit}
use Rattle.file_rows.specs.declared.row.FileRow.{FileRow}
use Rattle.uicc_channels.specs.CommandOutcome.{answering}
use Rattle.uicc_channels.specs.CommandRow.{CommandRow}
use Rattle.uicc_channels.specs.Delivery.{delivered, le_refusal}
use Rattle.uicc_channels.specs.Session.{open_channel}
use Rattle.uicc_channels.specs.declared.session.Session.{Session}
use Rattle.uicc_data.specs.FileReference.{pointer_at, using}
use Rattle.uicc_data.specs.FileUse.{FileUse, needs_of_writing, on_named, where_named}
use Rattle.uicc_data.specs.Record.{RecordUse, at_record, numbered, record_file}
use Rattle.file_rows.specs.FileHead.{has_records}
use Rattle.uicc_data.specs.RecordWalk.{record_bytes, record_count, record_in}
use Rattle.uicc_data.specs.declared.search.Direction.{Direction}
use Rattle.uicc_data.specs.declared.search.Direction.TheVariants.{Forwards, Backwards}
use Rattle.uicc_data.specs.declared.search.SearchPlace.{SearchPlace}
use Rattle.uicc_data.specs.declared.walk.RecordName.{RecordName}
use Rattle.uicc_data.specs.declared.walk.RecordName.TheVariants.{Next, Previous}

-- b3 to b1 of P2: 4 forwards, 5 backwards
abbrev pub direction_of : ℕ → Option Direction
direction_of p2 =
    if p2 % 8 == 4 then Some Forwards else if p2 % 8 == 5 then Some Backwards else None

-- what P1 and P2 name
abbrev pub search_place : ℕ → ℕ → Option SearchPlace
search_place p1 p2 =
    option_and_then (λ file. option_map
    (λ way. record { file = file; direction = way; from = p1 }) (direction_of p2))
    (record_file p2)

-- the first record in a direction: without a pointer next is the first of the file, and previous
-- the last
abbrev pub first_one : Direction → RecordName
first_one Forwards = Next
first_one Backwards = Previous

-- where a search begins: at the record of that number, by 00 at the pointer, and without one at the
-- first record in its direction
abbrev pub search_start : SearchPlace → ℕ → RecordName
search_start place pointer =
    if (place.from == 0) && (pointer == 0) then first_one place.direction else numbered place.from

-- so many numbers of records from one on in a direction
abbrev pub walk : Direction → ℕ → ℕ → List ℕ
walk way number zero = []
walk Forwards number (suc more) = number ∷ walk Forwards (number + 1) more
walk Backwards number (suc more) = number ∷ walk Backwards (number - 1) more

-- how many records there are from one on to the end of a file in a direction
abbrev pub records_left : Direction → ℕ → ℕ → ℕ
records_left Forwards count number = count + 1 - number
records_left Backwards count number = number

-- the number so many records further in a direction
abbrev pub after_steps : Direction → ℕ → ℕ → ℕ
after_steps Forwards number steps = number + steps
after_steps Backwards number steps = number - steps

-- whether bytes hold these others as a run
abbrev pub holds_run : List ℕ → List ℕ → Bool
holds_run run [] = starts_with nat_eq [] run
holds_run run (b ∷ bytes) = starts_with nat_eq (b ∷ bytes) run || holds_run run bytes

-- those of the records that hold the bytes as a run
abbrev pub found_among : FileRow → List ℕ → List ℕ → List ℕ
found_among row run numbers = filter (λ number. holds_run run (record_bytes row number)) numbers

-- the records found from one on to the end of the file
abbrev pub found_from : FileRow → List ℕ → Direction → ℕ → List ℕ
found_from row run way number =
    found_among row run (walk way number (records_left way (record_count row.head) number))

-- the numbers are delivered, and the pointer is at the first
abbrev pub giving_numbers : Session → Apdu → List ℕ → List ℕ → RecordUse
giving_numbers session c path [] =
    record { own = Some NOT_FOUND_IN_RECORDS; done = answering session (status_alone OK) }
giving_numbers session c path (first ∷ rest) =
    record {
      own = le_refusal c.le (first ∷ rest);
      done = delivered (using session c.channel path first) c (first ∷ rest);
    }

abbrev pub searching : Session → Apdu → SearchPlace → FileRow → FileUse
searching session c place row =
    let before = pointer_at (open_channel session c.channel) place.file in
    let start = record_in row.head before (search_start place before) in
    let found = found_from row c.body place.direction in
    let usage = at_record session
    (λ number. giving_numbers session c row.head.path (found number)) start in
    record {
      kind = has_records row.head.kind;
      mode = Bit 0x01;
      own = usage.own;
      done = usage.done;
    }

-- SEARCH RECORD
abbrev pub search_record_row :
    List FileRow → (List ℕ → Mode → Bool) → Session → Apdu → CommandRow
search_record_row rows allowed session c =
    let needs = needs_of_writing session c in
    where_named needs session
    (λ place. on_named rows allowed session c needs place.file (searching session c place))
    (search_place c.p1 c.p2)
