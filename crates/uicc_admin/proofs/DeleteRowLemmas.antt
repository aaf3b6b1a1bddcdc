-- What DELETE FILE comes to.
use Rattle.std.proofs.Common.{◌≡◌, ◌≢◌, ℕ, Bool, true, false, cond, List, refl, sym, ◌∙◌, ap, subst}
use Rattle.std.proofs.Common.{Option, Some, None, IsTrue}
use Rattle.std.proofs.lemmas.Bool.{true≢false}
use Rattle.std.specs.Prelude.{◌==◌, IsNone}
use Rattle.std.proofs.Common.{length}
use Rattle.apdu_codec.specs.Command.{Apdu}
use Rattle.apdu_codec.specs.declared.status.Sw.{Sw}
use Rattle.apdu_codec.specs.declared.status.TheConstants.Sw.{CONDITIONS_NOT_SATISFIED}
use Rattle.apdu_codec.specs.declared.status.TheConstants.Sw.{FILE_NOT_FOUND}
use Rattle.file_rows.proofs.ChangeLemmas.{gone, others}
use Rattle.file_rows.proofs.ConditionLemmas.{fits_where}
use Rattle.file_rows.proofs.EditLemmas.{system_of}
use Rattle.file_rows.specs.Content.{IsFileSystem, IsValid, file_at}
use Rattle.file_rows.specs.Path.{stands_below}
use Rattle.file_rows.specs.declared.change.Change.TheVariants.{FileGone}
use Rattle.file_rows.specs.declared.content.Content.{Content}
use Rattle.file_rows.specs.declared.mode.Mode.{Mode}
use Rattle.file_rows.specs.declared.row.FileRow.{FileRow}
use Rattle.uicc_channels.proofs.SessionLemmas.{channel_at-with_channel}
use Rattle.uicc_channels.specs.CarriesOut.{CanCarryOut, content_after}
use Rattle.uicc_channels.specs.CommandOutcome.{CommandOutcome, refused}
use Rattle.uicc_channels.specs.CommandRow.{decided, refusal_of}
use Rattle.uicc_channels.specs.Needs.{Needs, needs_of}
use Rattle.uicc_channels.specs.Session.{Suits, channel_at, open_channel}
use Rattle.uicc_channels.specs.declared.session.Session.{Session}
use Rattle.uicc_admin.proofs.DeleteLemmas.{IsDeletable, Suits-leaving, named_deletable, none_names}
use Rattle.uicc_admin.proofs.RowLemmas.{at_file-has, done_there, met_there}
use Rattle.uicc_admin.proofs.StateLemmas.{CanCarryOut-refused, is_there}
use Rattle.uicc_admin.specs.Delete.{delete_row, deleting, is_used_elsewhere, named_to_delete}
use Rattle.uicc_admin.specs.Delete.{stands_there}
use Rattle.uicc_admin.specs.NamedFile.{has_no_parameters}

abbrev needs_of_delete : Session → Apdu → Needs
needs_of_delete session c = record (needs_of session c) { parameters = has_no_parameters c; lengths = length c.body == 2 }

unused_where : (b : Bool) → cond b (Some CONDITIONS_NOT_SATISFIED) None ≡ None → b ≡ false
unused_where true e = absurd (cc)
unused_where false e = refl

module _ (content : Content) (valid : IsValid content) (session : Session) (suits : Suits session content.rows) (allowed : List ℕ → Mode → Bool) (c : Apdu) where
  abbrev named : Option FileRow
  named = named_to_delete content.rows (open_channel session c.channel) c.body

  system_with : (row : FileRow) → IsDeletable content.rows row → IsFileSystem content
  system_with row may = system_of content valid row.head.path row may.among

  pub CanCarryOut-delete : CanCarryOut content (decided session (delete_row content.rows allowed session c))
  CanCarryOut-delete =
      at_file-has (CanCarryOut content) session (CanCarryOut-refused content valid session suits allowed c) (needs_of_delete session c) allowed FILE_NOT_FOUND (deleting session c) named
      (λ row is channel kind own.
      let may : IsDeletable content.rows row = named_deletable content.rows (open_channel session c.channel) c.body row is in
      record {
        change = (fits_where content (FileGone row.head.path) valid).1 (is_there content.rows row may.among);
        session = Suits-leaving content (system_with row may) row may session suits c.channel channel (unused_where (is_used_elsewhere session c.channel row.head.path) own);
      })

  -- no channel names what is gone
  pub none_named : (row : FileRow) → named ≡ Some row → refusal_of (delete_row content.rows allowed session c) ≡ None → (number : ℕ)
      → stands_there row.head.path (channel_at (decided session (delete_row content.rows allowed session c)).session number) ≡ false
  none_named row is accepted number =
      let may : IsDeletable content.rows row = named_deletable content.rows (open_channel session c.channel) c.body row is in
      let met = met_there session (needs_of_delete session c) allowed FILE_NOT_FOUND (deleting session c) named row is accepted in
      subst (λ (outcome : CommandOutcome). stands_there row.head.path (channel_at outcome.session number) ≡ false)
      (sym (done_there session (needs_of_delete session c) allowed FILE_NOT_FOUND (deleting session c) named row is accepted))
      (none_names content (system_with row may) row may session suits c.channel met.0 (unused_where (is_used_elsewhere session c.channel row.head.path) met.1) number)

module _ (content : Content) (allowed : List ℕ → Mode → Bool) (session : Session) (c : Apdu) (row : FileRow) (is : named_to_delete content.rows (open_channel session c.channel) c.body ≡ Some row) where
  pub gone_files : (path : List ℕ) → refusal_of (delete_row content.rows allowed session c) ≡ None → IsTrue (stands_below row.head.path path)
      → IsNone (file_at path (content_after content (decided session (delete_row content.rows allowed session c)).change).rows)
  gone_files path accepted below =
      subst (λ (outcome : CommandOutcome). IsNone (file_at path (content_after content outcome.change).rows))
      (sym (done_there session (needs_of_delete session c) allowed FILE_NOT_FOUND (deleting session c) _ row is accepted))
      (gone content row.head.path path below)

  pub other_files-delete : (path : List ℕ) → stands_below row.head.path path ≡ false
      → file_at path (content_after content (decided session (delete_row content.rows allowed session c)).change).rows ≡ file_at path content.rows
  other_files-delete path outside =
      at_file-has (λ (outcome : CommandOutcome). file_at path (content_after content outcome.change).rows ≡ file_at path content.rows) session (λ sw. refl) (needs_of_delete session c) allowed
      FILE_NOT_FOUND (deleting session c) (named_to_delete content.rows (open_channel session c.channel) c.body)
      (λ found at channel kind own.
      let one : found ≡ row = cc in
      others content (FileGone found.head.path) path (λ inside.
      true≢false (sym inside ∙ ap (λ (x : FileRow). stands_below x.head.path path) one ∙ outside)))

pub other_channels-delete : (rows : List FileRow) (allowed : List ℕ → Mode → Bool) (session : Session) (c : Apdu) (number : ℕ) → number ≢ c.channel
    → channel_at (decided session (delete_row rows allowed session c)).session number ≡ channel_at session number
other_channels-delete rows allowed session c number apart =
    at_file-has (λ (outcome : CommandOutcome). channel_at outcome.session number ≡ channel_at session number) session (λ sw. refl) (needs_of_delete session c) allowed
    FILE_NOT_FOUND (deleting session c) (named_to_delete rows (open_channel session c.channel) c.body)
    (λ row at channel kind own. channel_at-with_channel session c.channel number _ apart)

-- DELETE FILE refuses, or takes the file that it names away
pub delete-has : (P : CommandOutcome → Type 0) (rows : List FileRow) (session : Session) (c : Apdu) (where_refused : (sw : Sw) → P (refused session sw)) (allowed : List ℕ → Mode → Bool)
    → ((row : FileRow) → named_to_delete rows (open_channel session c.channel) c.body ≡ Some row → P (deleting session c row).done) → P (decided session (delete_row rows allowed session c))
delete-has P rows session c where_refused allowed holds =
    at_file-has P session where_refused (needs_of_delete session c) allowed FILE_NOT_FOUND (deleting session c) (named_to_delete rows (open_channel session c.channel) c.body)
    (λ row at channel kind own. holds row at)
