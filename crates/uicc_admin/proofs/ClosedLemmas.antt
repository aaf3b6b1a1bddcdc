-- Every command of administration needs an open channel.
use Rattle.std.proofs.Common.{◌≡◌, ℕ, Bool, true, false, cond, List, refl, Option, Some, None}
use Rattle.std.specs.Prelude.{◌==◌, is_some}
use Rattle.apdu_codec.specs.Command.{Apdu}
use Rattle.apdu_codec.specs.declared.status.Sw.{Sw}
use Rattle.file_rows.specs.Content.{file_at}
use Rattle.file_rows.specs.declared.head.Life.{Life}
use Rattle.file_rows.specs.declared.head.Life.TheVariants.{Active, Deactivated, Terminated}
use Rattle.file_rows.specs.declared.mode.Mode.{Mode}
use Rattle.file_rows.specs.declared.row.FileRow.{FileRow}
use Rattle.uicc_channels.specs.CommandRow.{CommandRow}
use Rattle.uicc_channels.specs.Needs.{Needs}
use Rattle.uicc_channels.specs.Session.{channel_at, open_channel}
use Rattle.uicc_channels.specs.declared.session.Session.{Session}
use Rattle.uicc_admin.specs.Administration.{admin_row}
use Rattle.uicc_admin.specs.Create.{create_row}
use Rattle.uicc_admin.specs.Delete.{delete_row, named_to_delete}
use Rattle.uicc_admin.specs.FileState.{state_row}
use Rattle.uicc_admin.specs.FileWork.{FileWork, at_file}
use Rattle.uicc_admin.specs.NamedFile.{ef_in, ef_named}
use Rattle.uicc_admin.specs.Resize.{resize_asked, resize_row, size_asked}
use Rattle.uicc_admin.specs.declared.resize.NewSize.{NewSize}

module _ (rows : List FileRow) (allowed : List ℕ → Mode → Bool) (session : Session) (c : Apdu) where
  -- the row needs the command's channel open
  abbrev NeedsChannel : CommandRow → Type 0
  NeedsChannel row = row.needs.channel ≡ is_some (channel_at session c.channel)

  at_file_channel : (needs : Needs) (not_there : Sw) (work : FileRow → FileWork) (file : Option FileRow)
      → (at_file needs session allowed not_there work file).needs.channel ≡ needs.channel
  at_file_channel needs not_there work None = refl
  at_file_channel needs not_there work (Some row) = refl

  channel-state : (life : Life) → NeedsChannel (state_row life rows allowed session c)
  channel-state life = at_file_channel _ _ _ (ef_named rows (open_channel session c.channel) c.body)

  channel-delete : NeedsChannel (delete_row rows allowed session c)
  channel-delete = at_file_channel _ _ _ (named_to_delete rows (open_channel session c.channel) c.body)

  resize_channel : (needs : Needs) (asked : Option NewSize) → (resize_asked rows allowed session c needs asked).needs.channel ≡ needs.channel
  resize_channel needs None = refl
  resize_channel needs (Some asked) = at_file_channel needs _ _ (ef_in rows (open_channel session c.channel).dir asked.id)

  channel-resize : NeedsChannel (resize_row rows allowed session c)
  channel-resize = resize_channel _ (size_asked c.body)

  channel-create : NeedsChannel (create_row rows allowed session c)
  channel-create = at_file_channel _ _ _ (file_at (open_channel session c.channel).dir rows)

  by_test : (is_its : Bool) (one other : CommandRow) → NeedsChannel one → NeedsChannel other → NeedsChannel (cond is_its one other)
  by_test true one other first second = first
  by_test false one other first second = second

  pub channel-admin : NeedsChannel (admin_row rows allowed session c)
  channel-admin =
      by_test (c.ins == 0xE0) _ _ channel-create
      (by_test (c.ins == 0xE4) _ _ channel-delete
      (by_test (c.ins == 0xD4) _ _ channel-resize
      (by_test (c.ins == 0x44) _ _ (channel-state Active)
      (by_test (c.ins == 0x04) _ _ (channel-state Deactivated) (channel-state Terminated)))))
