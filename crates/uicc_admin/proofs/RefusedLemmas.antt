-- A command of administration is accepted or changes nothing.
use Rattle.std.proofs.Common.{◌≡◌, ℕ, Bool, true, false, cond, List, refl, Option, Some, None, Ok}
use Rattle.std.proofs.Common.{Err}
use Rattle.std.specs.Prelude.{◌==◌, Result}
use Rattle.apdu_codec.specs.Command.{Apdu}
use Rattle.apdu_codec.specs.declared.status.Sw.{Sw}
use Rattle.fcp_codec.specs.Creation.{created}
use Rattle.fcp_codec.specs.declared.creation.CreationFault.{CreationFault}
use Rattle.file_rows.specs.Content.{file_at}
use Rattle.file_rows.specs.declared.head.FileHead.{FileHead}
use Rattle.file_rows.specs.declared.head.Life.{Life}
use Rattle.file_rows.specs.declared.head.Life.TheVariants.{Active, Deactivated, Terminated}
use Rattle.file_rows.specs.declared.mode.Mode.{Mode}
use Rattle.file_rows.specs.declared.row.FileRow.{FileRow}
use Rattle.uicc_channels.proofs.AcceptedLemmas.{IsDoneOrRefused-decided}
use Rattle.uicc_channels.specs.Accepted.{IsDoneOrRefused, is_accepted}
use Rattle.uicc_channels.specs.CommandRow.{CommandRow, decided}
use Rattle.uicc_channels.specs.Needs.{Needs}
use Rattle.uicc_channels.specs.Session.{open_channel}
use Rattle.uicc_channels.specs.declared.session.Session.{Session}
use Rattle.uicc_admin.specs.Administration.{admin_row}
use Rattle.uicc_admin.specs.Create.{create_row, creating, creation_done, file_asked}
use Rattle.uicc_admin.specs.Delete.{delete_row, deleting, named_to_delete}
use Rattle.uicc_admin.specs.FileState.{changing_state, state_row}
use Rattle.uicc_admin.specs.FileWork.{FileWork, at_file}
use Rattle.uicc_admin.specs.NamedFile.{ef_in, ef_named}
use Rattle.uicc_admin.specs.Resize.{resize_asked, resize_row, resizing, size_asked}
use Rattle.uicc_admin.specs.declared.create_command.NewFile.{NewFile}
use Rattle.uicc_admin.specs.declared.resize.NewSize.{NewSize}

module _ (rows : List FileRow) (allowed : List ℕ → Mode → Bool) (session : Session) (c : Apdu) where
  -- what is done where nothing refuses it is accepted
  abbrev IsAccepting : CommandRow → Type 0
  IsAccepting row = is_accepted row.done.answer.sw ≡ true

  at_file_accepting : (needs : Needs) (not_there : Sw) (work : FileRow → FileWork) (file : Option FileRow)
      → ((row : FileRow) → is_accepted (work row).done.answer.sw ≡ true) → IsAccepting (at_file needs session allowed not_there work file)
  at_file_accepting needs not_there work None accepted = refl
  at_file_accepting needs not_there work (Some row) accepted = accepted row

  accepting-state : (life : Life) → IsAccepting (state_row life rows allowed session c)
  accepting-state life = at_file_accepting _ _ (changing_state session life) (ef_named rows (open_channel session c.channel) c.body) (λ row. refl)

  accepting-delete : IsAccepting (delete_row rows allowed session c)
  accepting-delete = at_file_accepting _ _ (deleting session c) (named_to_delete rows (open_channel session c.channel) c.body) (λ row. refl)

  resize_accepting : (needs : Needs) (asked : Option NewSize) → IsAccepting (resize_asked rows allowed session c needs asked)
  resize_accepting needs None = refl
  resize_accepting needs (Some asked) =
      at_file_accepting needs _ (resizing rows session asked.size) (ef_in rows (open_channel session c.channel).dir asked.id) (λ row. refl)

  accepting-resize : IsAccepting (resize_row rows allowed session c)
  accepting-resize = resize_accepting _ (size_asked c.body)

  accepting-made : (made : Result FileHead CreationFault) → is_accepted (creation_done session c.channel made).answer.sw ≡ true
  accepting-made (Ok head) = refl
  accepting-made (Err fault) = refl

  accepting-new : (new : Option NewFile) (directory : FileRow) → is_accepted (creating rows session c new directory).done.answer.sw ≡ true
  accepting-new None directory = refl
  accepting-new (Some new) directory = accepting-made (created rows directory.head.path new.fcp)

  accepting-create : IsAccepting (create_row rows allowed session c)
  accepting-create =
      at_file_accepting _ _ (creating rows session c (file_asked c.body)) (file_at (open_channel session c.channel).dir rows) (accepting-new (file_asked c.body))

  by_test : (is_its : Bool) (one other : CommandRow) → IsAccepting one → IsAccepting other → IsAccepting (cond is_its one other)
  by_test true one other first second = first
  by_test false one other first second = second

  accepting-admin : IsAccepting (admin_row rows allowed session c)
  accepting-admin =
      by_test (c.ins == 0xE0) _ _ accepting-create
      (by_test (c.ins == 0xE4) _ _ accepting-delete
      (by_test (c.ins == 0xD4) _ _ accepting-resize
      (by_test (c.ins == 0x44) _ _ (accepting-state Active)
      (by_test (c.ins == 0x04) _ _ (accepting-state Deactivated) (accepting-state Terminated)))))

  pub refused-admin : IsDoneOrRefused session (decided session (admin_row rows allowed session c))
  refused-admin = IsDoneOrRefused-decided session (admin_row rows allowed session c) (λ none. accepting-admin)
