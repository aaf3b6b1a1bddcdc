use Rattle.std.specs.Prelude.{ℕ, ◌≡◌, ◌%◌, Bool, ◌==◌, if◌then◌else◌, List, Some, None}
use Rattle.apdu_codec.specs.Command.{Apdu}
use Rattle.file_rows.specs.Change.{changed}
use Rattle.file_rows.specs.declared.change.Change.{Change}
use Rattle.file_rows.specs.declared.change.Change.TheVariants.{WriteRecord}
use Rattle.file_rows.specs.declared.content.Content.{Content}
use Rattle.file_rows.specs.declared.mode.Mode.{Mode}
use Rattle.uicc_channels.specs.CommandOutcome.{CommandOutcome}
use Rattle.uicc_channels.specs.CommandRow.{decided, refusal_of}
use Rattle.uicc_channels.specs.declared.session.Session.{Session}
use Rattle.uicc_data.specs.Record.{read_record_row, record_file, update_record_row}

-- what an UPDATE RECORD comes to
abbrev pub record_update_outcome :
    Content → (List ℕ → Mode → Bool) → Session → Apdu → CommandOutcome
record_update_outcome content allowed session write =
    decided session (update_record_row content.rows allowed session write)

-- what a READ RECORD comes to on the card as the UPDATE RECORD with this change left it
abbrev pub record_read_outcome :
    Content → (List ℕ → Mode → Bool) → Session → Apdu → Change → Apdu
    → CommandOutcome
record_read_outcome content allowed session write change read =
    let after = (record_update_outcome content allowed session write).session in
    decided after (read_record_row (changed content change).rows allowed after read)

-- the number of the record that was written; a new record of a cyclic file is the first
abbrev pub number_written : Change → ℕ
number_written (WriteRecord path number bytes) = if number == 0 then 1 else number
number_written _ = 0

-- an accepted UPDATE RECORD makes this change, and a READ RECORD that isn't refused then asks on
-- the same channel for the record of that number in the file that P2 names in the same way
pub record ReadsRecordBack (content : Content) (allowed : List ℕ → Mode → Bool)
    (session : Session) (write : Apdu) (change : Change) (read : Apdu) : Type 0 where
  pub made : (record_update_outcome content allowed session write).change ≡ Some change
  pub channel : read.channel ≡ write.channel
  pub file : record_file read.p2 ≡ record_file write.p2
  pub absolute : read.p2 % 8 ≡ 4
  pub number : read.p1 ≡ number_written change
  pub taken : refusal_of
      (read_record_row (changed content change).rows allowed
      (record_update_outcome content allowed session write).session read) ≡ None
