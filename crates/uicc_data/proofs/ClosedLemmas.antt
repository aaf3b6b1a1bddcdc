-- What a command on data needs first: that its channel is open.
use Rattle.std.proofs.Common.{◌≡◌, ℕ, Bool, List, refl, Option, Some, None}
use Rattle.apdu_codec.specs.Command.{Apdu}
use Rattle.file_rows.specs.declared.mode.Mode.{Mode}
use Rattle.file_rows.specs.declared.row.FileRow.{FileRow}
use Rattle.apdu_codec.specs.declared.status.Sw.{Sw}
use Rattle.std.specs.Prelude.{is_some}
use Rattle.uicc_channels.specs.CommandRow.{CommandRow}
use Rattle.uicc_channels.specs.Needs.{Needs}
use Rattle.uicc_channels.specs.Session.{channel_at, open_channel}
use Rattle.uicc_channels.specs.declared.session.Session.{Session}
use Rattle.uicc_data.specs.Binary.{binary_place, reading, read_binary_row, update_binary_row}
use Rattle.uicc_data.specs.Binary.{writing}
use Rattle.uicc_data.specs.FileReference.{file_named, not_there}
use Rattle.uicc_data.specs.FileUse.{FileUse, needs_of_reading, needs_of_writing, on_file, on_named}
use Rattle.uicc_data.specs.FileUse.{where_named}
use Rattle.uicc_data.specs.Increase.{increase_file, increase_row, increasing}
use Rattle.uicc_data.specs.Record.{read_record_row, reading_record, record_place, update_record_row}
use Rattle.uicc_data.specs.Record.{writing_record}
use Rattle.uicc_data.specs.Search.{search_place, search_record_row, searching}
use Rattle.uicc_data.specs.declared.reference.FileReference.{FileReference}

module _ (rows : List FileRow) (allowed : List ℕ → Mode → Bool) (session : Session) (c : Apdu) where
  on_file_channel : (needs : Needs) (sw : Sw) (usage : FileRow → FileUse) (o : Option FileRow) → (on_file needs session allowed sw usage o).needs.channel ≡ needs.channel
  on_file_channel needs sw usage None = refl
  on_file_channel needs sw usage (Some row) = refl

  where_channel : {X : Type 0} (needs : Needs) (row : X → CommandRow) (o : Option X) → ((x : X) → (row x).needs.channel ≡ needs.channel) → (where_named needs session row o).needs.channel ≡ needs.channel
  where_channel needs row None same = refl
  where_channel needs row (Some x) same = same x

  abbrev named : Needs → FileReference → (FileRow → FileUse) → CommandRow
  named needs file usage = on_named rows allowed session c needs file usage

  named_channel : (needs : Needs) (file : FileReference) (usage : FileRow → FileUse) → (named needs file usage).needs.channel ≡ needs.channel
  named_channel needs file usage = on_file_channel needs (not_there file) usage (file_named rows (open_channel session c.channel) file)

  pub channel-read_binary : (read_binary_row rows allowed session c).needs.channel ≡ is_some (channel_at session c.channel)
  channel-read_binary =
      let needs = needs_of_reading session c in
      where_channel needs (λ place. named needs place.file (reading session c place)) (binary_place c.p1 c.p2) (λ place. named_channel needs place.file (reading session c place))

  pub channel-update_binary : (update_binary_row rows allowed session c).needs.channel ≡ is_some (channel_at session c.channel)
  channel-update_binary =
      let needs = needs_of_writing session c in
      where_channel needs (λ place. named needs place.file (writing session c place)) (binary_place c.p1 c.p2) (λ place. named_channel needs place.file (writing session c place))

  pub channel-read_record : (read_record_row rows allowed session c).needs.channel ≡ is_some (channel_at session c.channel)
  channel-read_record =
      let needs = needs_of_reading session c in
      where_channel needs (λ place. named needs place.file (reading_record session c place)) (record_place c.p1 c.p2) (λ place. named_channel needs place.file (reading_record session c place))

  pub channel-update_record : (update_record_row rows allowed session c).needs.channel ≡ is_some (channel_at session c.channel)
  channel-update_record =
      let needs = needs_of_writing session c in
      where_channel needs (λ place. named needs place.file (writing_record session c place)) (record_place c.p1 c.p2) (λ place. named_channel needs place.file (writing_record session c place))

  pub channel-search_record : (search_record_row rows allowed session c).needs.channel ≡ is_some (channel_at session c.channel)
  channel-search_record =
      let needs = needs_of_writing session c in
      where_channel needs (λ place. named needs place.file (searching session c place)) (search_place c.p1 c.p2) (λ place. named_channel needs place.file (searching session c place))

  pub channel-increase : (increase_row rows allowed session c).needs.channel ≡ is_some (channel_at session c.channel)
  channel-increase =
      let needs = needs_of_writing session c in
      where_channel needs (λ file. named needs file (increasing session c)) (increase_file c.p1 c.p2) (λ file. named_channel needs file (increasing session c))
