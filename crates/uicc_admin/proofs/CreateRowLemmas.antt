-- What CREATE FILE comes to.
use Rattle.std.proofs.Common.{◌≡◌, ◌≢◌, ℕ, Bool, true, false, cond, List, [], ◌∷◌, length, not}
use Rattle.std.proofs.Common.{refl, sym, ◌∙◌, ap, subst, ⊎_elim, Option, Some, None, Ok, Err}
use Rattle.std.proofs.Common.{Result, IsNone, IsSomeAnd, IsTrue}
use Rattle.std.proofs.lemmas.Bool.{true≢false}
use Rattle.std.specs.List.{Any}
use Rattle.std.specs.Option.{unwrap_or}
use Rattle.std.specs.Prelude.{◌==◌, is_some}
use Rattle.apdu_codec.specs.Command.{Apdu}
use Rattle.apdu_codec.specs.declared.status.Sw.{Sw}
use Rattle.apdu_codec.specs.declared.status.TheConstants.Sw.{FILE_NOT_FOUND, OK, WRONG_DATA}
use Rattle.fcp_codec.specs.Creation.{HoldsFilesAt, created}
use Rattle.fcp_codec.specs.declared.creation.CreationFault.{CreationFault}
use Rattle.fcp_codec.proofs.CreationFits.{made_fits}
use Rattle.file_rows.proofs.ChangeLemmas.{added, others}
use Rattle.file_rows.proofs.ListLemmas.{any_first, any_later}
use Rattle.file_rows.specs.Change.{Fits, new_file}
use Rattle.file_rows.specs.Content.{IsValid, file_at}
use Rattle.file_rows.specs.FileHead.{holds_files}
use Rattle.file_rows.specs.Path.{same_path}
use Rattle.file_rows.specs.declared.change.Change.TheVariants.{FileAdd}
use Rattle.file_rows.specs.declared.content.Content.{Content}
use Rattle.file_rows.specs.declared.head.FileHead.{FileHead}
use Rattle.file_rows.specs.declared.mode.Mode.{Mode}
use Rattle.file_rows.specs.declared.row.FileRow.{FileRow}
use Rattle.uicc_channels.proofs.AmongLemmas.{path_found}
use Rattle.uicc_channels.proofs.CarryLemmas.{stands_open}
use Rattle.uicc_channels.proofs.SessionLemmas.{channel_at-with_channel}
use Rattle.uicc_channels.proofs.SessionLemmas.{channel_at-with_channel_same}
use Rattle.uicc_channels.specs.Chan.{IsDirectoryIn, at_master}
use Rattle.uicc_channels.specs.declared.chan.Chan.{Chan}
use Rattle.uicc_channels.specs.CarriesOut.{CanCarryOut, content_after}
use Rattle.uicc_channels.specs.CommandOutcome.{CommandOutcome, refused}
use Rattle.uicc_channels.specs.CommandRow.{decided, refusal_of}
use Rattle.uicc_channels.specs.Needs.{Needs, needs_of, refused_unless}
use Rattle.uicc_channels.specs.Session.{IsOpen, Suits, channel_at, open_channel}
use Rattle.uicc_channels.specs.declared.session.Session.{Session}
use Rattle.uicc_admin.proofs.CreateLemmas.{Suits-adding}
use Rattle.uicc_admin.proofs.RowLemmas.{at_file-has, done_there, met_there}
use Rattle.uicc_admin.proofs.StateLemmas.{CanCarryOut-refused}
use Rattle.uicc_admin.proofs.SuitsLemmas.{open_within}
use Rattle.uicc_admin.specs.Create.{adding, create_row, creating, creation_done, creation_refusal}
use Rattle.uicc_admin.specs.Create.{file_asked, standing_at_new}
use Rattle.uicc_admin.specs.FileWork.{FileWork}
use Rattle.uicc_admin.specs.NamedFile.{has_no_parameters}
use Rattle.uicc_admin.specs.declared.create_command.NewFile.{NewFile}

abbrev needs_of_create : Session → Apdu → Needs
needs_of_create session c = record (needs_of session c) {
  parameters = has_no_parameters c;
  lengths = not (length c.body == 0);
  description = refused_unless (is_some (file_asked c.body)) WRONG_DATA;
}

module _ (P : CommandOutcome → Type 0) (rows : List FileRow) (session : Session) (c : Apdu) (where_refused : (sw : Sw) → P (refused session sw)) where
  made_or_not : (made : Result FileHead CreationFault) → creation_refusal made ≡ None → ((head : FileHead) → made ≡ Ok head → P (adding session c.channel head)) → P (creation_done session c.channel made)
  made_or_not (Ok head) own holds = holds head refl
  made_or_not (Err fault) own holds = where_refused OK

  by_asked : (new : Option NewFile) (row : FileRow) → (creating rows session c new row).own ≡ None
      → ((fresh : NewFile) (head : FileHead) → new ≡ Some fresh → created rows row.head.path fresh.fcp ≡ Ok head → P (adding session c.channel head)) → P (creating rows session c new row).done
  by_asked None row own holds = where_refused OK
  by_asked (Some new) row own holds = made_or_not (created rows row.head.path new.fcp) own (λ head made. holds new head refl made)

  -- CREATE FILE refuses, or adds the file that it describes to the current directory
  pub create-has : (allowed : List ℕ → Mode → Bool)
      → ((row : FileRow) (new : NewFile) (head : FileHead) → file_at (open_channel session c.channel).dir rows ≡ Some row → file_asked c.body ≡ Some new
      → created rows row.head.path new.fcp ≡ Ok head → (needs_of session c).channel ≡ true → P (adding session c.channel head))
      → P (decided session (create_row rows allowed session c))
  create-has allowed holds =
      at_file-has P session where_refused (needs_of_create session c) allowed FILE_NOT_FOUND (creating rows session c (file_asked c.body)) (file_at (open_channel session c.channel).dir rows)
      (λ row at channel kind own. by_asked (file_asked c.body) row own (λ new head asked made. holds row new head at asked made channel))

not_both : (o : Option FileRow) → IsNone o → (row : FileRow) → o ≡ Some row → ⊥
not_both None none row e = cc
not_both (Some x) none row e = true≢false none

found_any : (P : FileRow → Type 0) (path : List ℕ) (rows : List FileRow) (row : FileRow) → file_at path rows ≡ Some row → P row → Any P rows
found_any P path [] row e said = absurd (cc)
found_any P path (r ∷ rows) row e said = either (same_path r.head.path path) (λ later. found_any P path rows row later said) e
  where
    either : (b : Bool) → (file_at path rows ≡ Some row → Any P rows) → cond b (Some r) (file_at path rows) ≡ Some row → Any P (r ∷ rows)
    either true later e = let same : r ≡ row = cc in any_first P r rows (subst P (sym same) said)
    either false later e = any_later P r rows (later e)

some_files : (path : List ℕ) (rows : List FileRow) (row : FileRow) → file_at path rows ≡ Some row → rows ≢ []
some_files path [] row e none = cc
some_files path (r ∷ rows) row e none = cc

-- the current directory of a channel holds files
holds_at : (rows : List FileRow) (dir : List ℕ) (row : FileRow) → IsDirectoryIn rows dir → file_at dir rows ≡ Some row → HoldsFilesAt rows row.head.path
holds_at rows dir row is at = ⊎_elim
    (λ none. absurd (some_files dir rows row at none.0))
    (λ there.
    let holds : IsTrue (holds_files row.head.kind) = subst (λ (o : Option FileRow). IsSomeAnd o (λ r. IsTrue (holds_files r.head.kind))) at there in
    found_any (λ (r : FileRow). IsTrue (holds_files r.head.kind) × (r.head.path ≡ row.head.path)) dir rows row at (holds, refl))
    is

module _ (content : Content) (valid : IsValid content) (session : Session) (suits : Suits session content.rows) (allowed : List ℕ → Mode → Bool) (c : Apdu) where
  pub CanCarryOut-create : CanCarryOut content (decided session (create_row content.rows allowed session c))
  CanCarryOut-create =
      create-has (CanCarryOut content) content.rows session c (CanCarryOut-refused content valid session suits allowed c) allowed
      (λ row new head at asked made channel.
      let chan = stands_open session content.rows c.channel suits channel in
      let there : HoldsFilesAt content.rows row.head.path = holds_at content.rows (open_channel session c.channel).dir row chan.dir at in
      let fits : Fits content (FileAdd head) = made_fits content row.head.path new.fcp valid there head made in
      record { change = fits; session = Suits-adding content head session c.channel (some_files (open_channel session c.channel).dir content.rows row at) fits.place.0 suits channel })

  -- the directory of the channel holds files, where a file is created in it
  directory_there : (row : FileRow) → file_at (open_channel session c.channel).dir content.rows ≡ Some row → (needs_of session c).channel ≡ true → HoldsFilesAt content.rows row.head.path
  directory_there row at is_open = holds_at content.rows (open_channel session c.channel).dir row (stands_open session content.rows c.channel suits is_open).dir at

  -- what fits as a new file wasn't there
  was_absent : (row : FileRow) (new : NewFile) (head : FileHead) → file_at (open_channel session c.channel).dir content.rows ≡ Some row → created content.rows row.head.path new.fcp ≡ Ok head
      → (needs_of session c).channel ≡ true → IsNone (file_at head.path content.rows)
  was_absent row new head at made is_open = (made_fits content row.head.path new.fcp valid (directory_there row at is_open) head made).place.0

  -- a file that was there is as it was
  pub other_files-create : (path : List ℕ) (file : FileRow) → file_at path content.rows ≡ Some file
      → file_at path (content_after content (decided session (create_row content.rows allowed session c)).change).rows ≡ Some file
  other_files-create path file there =
      create-has (λ (outcome : CommandOutcome). file_at path (content_after content outcome.change).rows ≡ Some file) content.rows session c (λ sw. there) allowed
      (λ row new head at asked made is_open.
      let absent = was_absent row new head at made is_open in
      let apart : head.path ≢ path = λ same. not_both (file_at path content.rows) (subst (λ (p : List ℕ). IsNone (file_at p content.rows)) same absent) file there in
      others content (FileAdd head) path apart ∙ there)

  -- the new file is there
  pub added_file : (row : FileRow) (new : NewFile) (head : FileHead) → file_at (open_channel session c.channel).dir content.rows ≡ Some row → file_asked c.body ≡ Some new → created content.rows (open_channel session c.channel).dir new.fcp ≡ Ok head
      → refusal_of (create_row content.rows allowed session c) ≡ None
      → file_at head.path (content_after content (decided session (create_row content.rows allowed session c)).change).rows ≡ Some (new_file head)
  added_file row new head at asked made accepted =
      let dir = (open_channel session c.channel).dir in
      let work : FileRow → FileWork = creating content.rows session c (file_asked c.body) in
      let here : created content.rows row.head.path new.fcp ≡ Ok head = ap (λ (p : List ℕ). created content.rows p new.fcp) (path_found dir content.rows row at) ∙ made in
      let done = done_there session (needs_of_create session c) allowed FILE_NOT_FOUND work (file_at dir content.rows) row at accepted in
      let met = met_there session (needs_of_create session c) allowed FILE_NOT_FOUND work (file_at dir content.rows) row at accepted in
      let adds : (work row).done ≡ adding session c.channel head =
      ap (λ (o : Option NewFile). (creating content.rows session c o row).done) asked ∙ ap (creation_done session c.channel) here in
      subst (λ (outcome : CommandOutcome). file_at head.path (content_after content outcome.change).rows ≡ Some (new_file head)) (sym (done ∙ adds))
      (added content head (was_absent row new head at here met.0))

pub other_channels-create : (rows : List FileRow) (allowed : List ℕ → Mode → Bool) (session : Session) (c : Apdu) (number : ℕ) → number ≢ c.channel
    → channel_at (decided session (create_row rows allowed session c)).session number ≡ channel_at session number
other_channels-create rows allowed session c number apart =
    create-has (λ (outcome : CommandOutcome). channel_at outcome.session number ≡ channel_at session number) rows session c (λ sw. refl) allowed
    (λ row new head at asked made is_open. channel_at-with_channel session c.channel number _ apart)

same_application : (head : FileHead) (chan : Chan) → (standing_at_new head chan).app ≡ chan.app
same_application head chan = either (holds_files head.kind)
  where
    either : (b : Bool) → (cond b (record chan { dir = head.path; file = None; pointer = 0 }) (record chan { file = Some head.path; pointer = 0 })).app ≡ chan.app
    either true = refl
    either false = refl

-- the channel keeps its application
pub application_stays : (rows : List FileRow) (allowed : List ℕ → Mode → Bool) (session : Session) (c : Apdu) → Suits session rows → IsOpen session c.channel
    → (open_channel (decided session (create_row rows allowed session c)).session c.channel).app ≡ (open_channel session c.channel).app
application_stays rows allowed session c suits is_open =
    create-has (λ (outcome : CommandOutcome). (open_channel outcome.session c.channel).app ≡ (open_channel session c.channel).app) rows session c (λ sw. refl) allowed
    (λ row new head at asked made met.
    ap (λ (place : Option Chan). (unwrap_or place at_master).app)
    (channel_at-with_channel_same session c.channel (Some (standing_at_new head (open_channel session c.channel))) (open_within session c.channel is_open))
    ∙ same_application head (open_channel session c.channel))
