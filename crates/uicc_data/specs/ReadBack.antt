use Rattle.std.specs.Prelude.{ℕ, ◌≡◌, Bool, List, length, Some, None}
use Rattle.apdu_codec.specs.Command.{Apdu}
use Rattle.file_rows.specs.Change.{changed}
use Rattle.file_rows.specs.declared.change.Change.{Change}
use Rattle.file_rows.specs.declared.content.Content.{Content}
use Rattle.file_rows.specs.declared.mode.Mode.{Mode}
use Rattle.uicc_channels.specs.CommandOutcome.{CommandOutcome}
use Rattle.uicc_channels.specs.CommandRow.{decided, refusal_of}
use Rattle.uicc_channels.specs.declared.session.Session.{Session}
use Rattle.uicc_data.specs.Binary.{read_binary_row, update_binary_row}

-- what an UPDATE BINARY comes to
abbrev pub update_outcome :
    Content → (List ℕ → Mode → Bool) → Session → Apdu → CommandOutcome
update_outcome content allowed session write =
    decided session (update_binary_row content.rows allowed session write)

-- what a READ BINARY comes to on the card as the UPDATE BINARY with this change left it
abbrev pub read_outcome :
    Content → (List ℕ → Mode → Bool) → Session → Apdu → Change → Apdu
    → CommandOutcome
read_outcome content allowed session write change read =
    let after = (update_outcome content allowed session write).session in
    decided after (read_binary_row (changed content change).rows allowed after read)

-- an accepted UPDATE BINARY makes this change, and a READ BINARY that isn't refused then asks on
-- the same channel, at the same place, for as many bytes
pub record ReadsBack (content : Content) (allowed : List ℕ → Mode → Bool) (session : Session)
    (write : Apdu) (change : Change) (read : Apdu) : Type 0 where
  pub made : (update_outcome content allowed session write).change ≡ Some change
  pub channel : read.channel ≡ write.channel
  pub p1 : read.p1 ≡ write.p1
  pub p2 : read.p2 ≡ write.p2
  pub le : read.le ≡ Some (length write.body)
  pub taken : refusal_of
      (read_binary_row (changed content change).rows allowed
      (update_outcome content allowed session write).session read) ≡ None
