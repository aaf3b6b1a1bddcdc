-- ACTIVATE FILE, DEACTIVATE FILE and TERMINATE EF.
use Rattle.std.proofs.Common.{◌≡◌, ◌≢◌, ℕ, Bool, true, false, cond, List, refl, sym, ◌∙◌, ap}
use Rattle.std.proofs.Common.{Option, Some, None, IsSome}
use Rattle.apdu_codec.specs.Answer.{status_alone}
use Rattle.apdu_codec.specs.Command.{Apdu}
use Rattle.apdu_codec.specs.declared.status.Sw.{Sw}
use Rattle.apdu_codec.specs.declared.status.TheConstants.Sw.{OK}
use Rattle.file_rows.proofs.ChangeLemmas.{others}
use Rattle.file_rows.proofs.ConditionLemmas.{fits_where}
use Rattle.file_rows.specs.Content.{IsValid, file_at}
use Rattle.file_rows.specs.declared.change.Change.{Change}
use Rattle.file_rows.specs.declared.change.Change.TheVariants.{FileState}
use Rattle.file_rows.specs.declared.content.Content.{Content}
use Rattle.file_rows.specs.declared.head.Life.{Life}
use Rattle.file_rows.specs.declared.mode.Mode.{Mode}
use Rattle.file_rows.specs.declared.row.FileRow.{FileRow}
use Rattle.uicc_channels.proofs.AmongLemmas.{IsAmong}
use Rattle.uicc_channels.specs.CarriesOut.{CanCarryOut, content_after}
use Rattle.uicc_channels.specs.CommandOutcome.{CommandOutcome, refused}
use Rattle.uicc_channels.specs.CommandRow.{decided}
use Rattle.uicc_channels.specs.Needs.{needs_of}
use Rattle.uicc_channels.specs.Session.{Suits, open_channel}
use Rattle.uicc_channels.specs.declared.session.Session.{Session}
use Rattle.uicc_admin.proofs.NamedLemmas.{ef_named_among}
use Rattle.uicc_admin.proofs.RowLemmas.{at_file-has}
use Rattle.uicc_admin.proofs.SuitsLemmas.{Suits-state}
use Rattle.uicc_admin.specs.FileState.{changing_state, same_life, state_row}
use Rattle.uicc_admin.specs.NamedFile.{ef_named, ef_not_there, has_no_parameters, may_name_ef}

module _ (P : CommandOutcome → Type 0) (life : Life) (rows : List FileRow) (allowed : List ℕ → Mode → Bool) (session : Session) (c : Apdu) (where_refused : (sw : Sw) → P (refused session sw)) where
  -- a command on a state refuses, changes nothing, or brings a file of the card into the state
  abbrev comes_to : Option Change → CommandOutcome
  comes_to change = record { answer = status_alone OK; session = session; change = change }

  by_state : (row : FileRow) (same : Bool) → (IsAmong rows row → P (comes_to (Some (FileState row.head.path life)))) → IsAmong rows row
      → P (comes_to (cond same None (Some (FileState row.head.path life))))
  by_state row true holds among = where_refused OK
  by_state row false holds among = holds among

  pub state-has : ((row : FileRow) → ef_named rows (open_channel session c.channel) c.body ≡ Some row → IsAmong rows row → P (comes_to (Some (FileState row.head.path life)))) → P (decided session (state_row life rows allowed session c))
  state-has holds =
      at_file-has P session where_refused (record (needs_of session c) { parameters = has_no_parameters c; lengths = may_name_ef c.body }) allowed (ef_not_there c.body)
      (changing_state session life) (ef_named rows (open_channel session c.channel) c.body)
      (λ row named channel kind own.
      by_state row (same_life row.head.life life) (holds row named) (ef_named_among rows (open_channel session c.channel) c.body row named))

-- a file among the files is there
pub is_there : (rows : List FileRow) (row : FileRow) → IsAmong rows row → IsSome (file_at row.head.path rows)
is_there rows row among = rw among refl

module _ (content : Content) (valid : IsValid content) (session : Session) (suits : Suits session content.rows) (allowed : List ℕ → Mode → Bool) (c : Apdu) where
  -- a refusal changes nothing
  pub CanCarryOut-refused : (sw : Sw) → CanCarryOut content (refused session sw)
  CanCarryOut-refused sw = record { change = tt; session = suits }

  pub CanCarryOut-state : (life : Life) → CanCarryOut content (decided session (state_row life content.rows allowed session c))
  CanCarryOut-state life =
      state-has (CanCarryOut content) life content.rows allowed session c CanCarryOut-refused
      (λ row named among. record {
        change = (fits_where content (FileState row.head.path life) valid).1 (is_there content.rows row among);
        session = Suits-state row.head.path life session content.rows suits;
      })

-- another file than the one that is named is as it was
pub other_files-state : (life : Life) (content : Content) (allowed : List ℕ → Mode → Bool) (session : Session) (c : Apdu) (row : FileRow) (path : List ℕ)
    → ef_named content.rows (open_channel session c.channel) c.body ≡ Some row → path ≢ row.head.path
    → file_at path (content_after content (decided session (state_row life content.rows allowed session c)).change).rows ≡ file_at path content.rows
other_files-state life content allowed session c row path named apart =
    state-has (λ (outcome : CommandOutcome). file_at path (content_after content outcome.change).rows ≡ file_at path content.rows) life content.rows allowed session c (λ sw. refl)
    (λ found is among.
    let one : found ≡ row = cc in
    others content (FileState found.head.path life) path (λ same. apart (sym same ∙ ap (λ (x : FileRow). x.head.path) one)))
