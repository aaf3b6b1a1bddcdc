use Rattle.std.proofs.Common.{◌≡◌, ◌≢◌, ℕ, Bool, true, false, cond, ◌&&◌, List, [], refl, sym, ◌∙◌}
use Rattle.std.proofs.Common.{ap, subst, inl, inr, ⊎_elim, Option, Some, None, IfSome, IsSomeAnd}
use Rattle.std.proofs.Common.{IsTrue}
use Rattle.std.proofs.lemmas.Bool.{true≢false}
use Rattle.std.specs.Prelude.{◌==◌}
use Rattle.std.specs.Option.{unwrap_or}
use Rattle.apdu_codec.specs.Command.{Apdu}
use Rattle.file_rows.specs.Content.{AreFiles, IsValid, file_at}
use Rattle.file_rows.specs.FileHead.{holds_files, is_application}
use Rattle.file_rows.specs.Path.{master, parent_of}
use Rattle.file_rows.specs.declared.content.Content.{Content}
use Rattle.file_rows.specs.declared.head.Kind.{Kind}
use Rattle.file_rows.specs.declared.head.Kind.TheVariants.{Master, Directory as DedicatedFile}
use Rattle.file_rows.specs.declared.head.Kind.TheVariants.{Application, Transparent, Linear, Cyclic}
use Rattle.file_rows.specs.declared.pin.PinRow.{PinRow}
use Rattle.file_rows.specs.declared.row.FileRow.{FileRow}
use Rattle.uicc_channels.proofs.AmongLemmas.{AreApart, IsAmong, found_passes}
use Rattle.uicc_channels.proofs.DirectoryLemmas.{directory_of_file}
use Rattle.uicc_channels.proofs.RowLemmas.{Suits-decided}
use Rattle.uicc_channels.proofs.SessionLemmas.{Suits-waiting, Suits-with_channel, master_is_there}
use Rattle.uicc_channels.specs.Chan.{IsDirectoryIn, StandsAmong, at_isdr, at_master}
use Rattle.uicc_channels.specs.CommandOutcome.{CommandOutcome}
use Rattle.uicc_channels.specs.CommandRow.{decided}
use Rattle.uicc_channels.specs.Delivery.{delivered}
use Rattle.uicc_channels.specs.Session.{Suits, channel_at, open_channel, with_channel}
use Rattle.uicc_channels.specs.declared.chan.Chan.{Chan}
use Rattle.uicc_channels.specs.declared.session.Session.{Session}
use Rattle.uicc_select.proofs.FoundLemmas.{IfSome-at, found_among}
use Rattle.uicc_select.specs.Find.{found}
use Rattle.uicc_select.specs.Select.{Selection, application_after, names_isdr, parameters_for}
use Rattle.uicc_select.specs.Select.{select_row, selection_of, selection_of_file, standing_at}
use Rattle.uicc_select.specs.Select.{waiting_if_some}
use Rattle.uicc_select.specs.Status.{name_of_application, parameters_of_directory, status_row}
use Rattle.uicc_select.specs.Target.{target_of}
use Rattle.uicc_select.specs.declared.naming.Target.{Target}
use Rattle.uicc_select.specs.declared.naming.Target.TheVariants.{Id, Directory, Parent, Named}
use Rattle.uicc_select.specs.declared.naming.Target.TheVariants.{FromMaster, FromCurrent}
use Rattle.uicc_tree.specs.Change.{AreRows}

-- what a card may hold are the files of one, or none
pub AreRows-valid : (content : Content) → IsValid content → AreRows content.rows
AreRows-valid content valid = ⊎_elim (λ empty. inr empty.rows) (λ system. inl system.files) valid.system

apart_rows : (rows : List FileRow) → AreRows rows → AreApart rows
apart_rows rows either = ⊎_elim (λ files. files.paths) (λ none. subst AreApart (sym none) tt) either

-- where a file is found there are files
files_with : (rows : List FileRow) (row : FileRow) → AreRows rows → IsAmong rows row → AreFiles rows
files_with rows row either among =
    ⊎_elim (λ files. files)
    (λ none. let nothing : None ≡ Some row = sym (ap (λ (rows : List FileRow). file_at row.head.path rows) none) ∙ among in absurd (cc))
    either

-- a file among them with what is said of it
is_there : (P : FileRow → Type 0) (rows : List FileRow) (row : FileRow) → IsAmong rows row → P row → IsSomeAnd (file_at row.head.path rows) P
is_there P rows row among said = subst (λ (o : Option FileRow). IsSomeAnd o P) (sym among) said

application_kind : (kind : Kind) → is_application kind ≡ true → kind ≡ Application
application_kind Master e = absurd (cc)
application_kind DedicatedFile e = absurd (cc)
application_kind Application e = refl
application_kind Transparent e = absurd (cc)
application_kind Linear e = absurd (cc)
application_kind Cyclic e = absurd (cc)

-- an EF isn't the MF
not_master : (kind : Kind) → holds_files kind ≡ false → kind ≢ Master
not_master kind bare is = true≢false (subst (λ (kind : Kind). holds_files kind ≡ false) is bare)

first_met : (one other : Bool) → (one && other) ≡ true → one ≡ true
first_met true other e = refl
first_met false other e = e

abbrev IsApplicationIn : List FileRow → List ℕ → Type 0
IsApplicationIn rows path = IsSomeAnd (file_at path rows) (λ row. row.head.kind ≡ Application)

module _ (rows : List FileRow) (either : AreRows rows) (chan : Chan) (stands : StandsAmong rows chan) (row : FileRow) where
  -- the channel's application is one of the card
  application_stands : (target : Target) → found rows chan target ≡ Some row → IsAmong rows row → IfSome (application_after chan.app target row.head.path) (IsApplicationIn rows)
  application_stands (Id id) e among = stands.app
  application_stands (Directory id) e among = stands.app
  application_stands Parent e among = stands.app
  application_stands (Named name) e among =
      is_there (λ row. row.head.kind ≡ Application) rows row among
      (application_kind row.head.kind (first_met _ _ (found_passes _ rows row e)))
  application_stands (FromMaster ids) e among = stands.app
  application_stands (FromCurrent ids) e among = stands.app

  abbrev at_directory : Option (List ℕ) → Chan
  at_directory app = record { isdr = false; app = app; dir = row.head.path; file = None; pointer = 0; pending = [] }

  abbrev at_file : Option (List ℕ) → Chan
  at_file app = record {
    isdr = false;
    app = app;
    dir = unwrap_or (parent_of row.head.path) master;
    file = Some row.head.path;
    pointer = 0;
    pending = [];
  }

  -- a directory is where it is, and the directory of an EF is one of the card
  by_kind : (app : Option (List ℕ)) (holds : Bool) → IsAmong rows row → IfSome app (IsApplicationIn rows) → holds_files row.head.kind ≡ holds → StandsAmong rows (cond holds (at_directory app) (at_file app))
  by_kind app true among there kind = record {
    app = there;
    dir = inr (is_there (λ row. IsTrue (holds_files row.head.kind)) rows row among kind);
    file = tt;
    pointer = inl refl;
  }
  by_kind app false among there kind = record {
    app = there;
    dir = directory_of_file rows row (files_with rows row either among) among (not_master row.head.kind kind);
    file = is_there (λ row. holds_files row.head.kind ≡ false) rows row among kind;
    pointer = inl refl;
  }

  -- a channel at what it found stands among the files
  pub StandsAmong-standing_at : (target : Target) → found rows chan target ≡ Some row → StandsAmong rows (standing_at chan target row.head)
  StandsAmong-standing_at target e =
      let among : IsAmong rows row = IfSome-at (IsAmong rows) (found rows chan target) row (found_among rows (apart_rows rows either) chan target) e in
      by_kind (application_after chan.app target row.head.path) (holds_files row.head.kind) among (application_stands target e among) refl

IsDirectoryIn-root : (rows : List FileRow) → AreRows rows → IsDirectoryIn rows master
IsDirectoryIn-root rows either = ⊎_elim (λ files. inr (master_is_there rows files)) (λ none. inl (none, refl)) either

module _ (rows : List FileRow) (either : AreRows rows) (session : Session) (suits : Suits session rows) where
  open_or_root : (place : Option Chan) → IfSome place (StandsAmong rows) → StandsAmong rows (unwrap_or place at_master)
  open_or_root None stands = record { app = tt; dir = IsDirectoryIn-root rows either; file = tt; pointer = inl refl }
  open_or_root (Some chan) stands = stands

  -- the channel of a command stands among the files, and a closed one as at the MF
  chan_stands : (c : Apdu) → StandsAmong rows (open_channel session c.channel)
  chan_stands c = open_or_root (channel_at session c.channel) (suits.each c.channel)

  -- a channel goes where it stands among the files
  Suits-moved : (number : ℕ) (chan : Chan) → StandsAmong rows chan → Suits (with_channel session number (Some chan)) rows
  Suits-moved number chan stands = Suits-with_channel session rows number (Some chan) suits stands (λ e. refl)

  Suits-waiting_if_some : (le : Option ℕ) (moved : Session) (number : ℕ) (body : Option (List ℕ)) → Suits moved rows → Suits (waiting_if_some le moved number body) rows
  Suits-waiting_if_some le moved number None kept = kept
  Suits-waiting_if_some le moved number (Some body) kept = Suits-waiting le moved rows number body kept

  Suits-selection_of_file : (pins : List PinRow) (c : Apdu) (target : Target) (file : Option FileRow) → found rows (open_channel session c.channel) target ≡ file
      → Suits (selection_of_file pins session c target file).done.session rows
  Suits-selection_of_file pins c target None e = suits
  Suits-selection_of_file pins c target (Some row) e =
      Suits-waiting_if_some c.le _ c.channel (parameters_for c.p2 pins row)
      (Suits-moved c.channel _ (StandsAmong-standing_at rows either (open_channel session c.channel) (chan_stands c) row target e))

  Suits-cond : (b : Bool) (one other : Selection) → Suits one.done.session rows → Suits other.done.session rows → Suits (cond b one other).done.session rows
  Suits-cond true one other first second = first
  Suits-cond false one other first second = second

  Suits-selection_of : (pins : List PinRow) (isdr_here : Bool) (c : Apdu) (target : Option Target) → Suits (selection_of rows pins session isdr_here c target).done.session rows
  Suits-selection_of pins isdr_here c None = suits
  Suits-selection_of pins isdr_here c (Some target) =
      Suits-cond (isdr_here && names_isdr target) _ _
      (Suits-moved c.channel at_isdr (record { app = tt; dir = IsDirectoryIn-root rows either; file = tt; pointer = inl refl }))
      (Suits-selection_of_file pins c target (found rows (open_channel session c.channel) target) refl)

  pub Suits-select_row : (pins : List PinRow) (isdr_here : Bool) (c : Apdu) → Suits (select_row rows pins session isdr_here c).done.session rows
  Suits-select_row pins isdr_here c = Suits-selection_of pins isdr_here c (target_of c.p1 c.body)

  -- a session goes on to suit a card's files after SELECT
  pub Suits-select : (pins : List PinRow) (isdr_here : Bool) (c : Apdu) → Suits (decided session (select_row rows pins session isdr_here c)).session rows
  Suits-select pins isdr_here c = Suits-decided rows session (select_row rows pins session isdr_here c) suits (Suits-select_row pins isdr_here c)

  Suits-either : (one other : Bool) (c : Apdu) (parameters name : List ℕ) (last : CommandOutcome) → Suits last.session rows
      → Suits (cond one (delivered session c parameters) (cond other (delivered session c name) last)).session rows
  Suits-either true other c parameters name last kept = Suits-waiting c.le session rows c.channel parameters suits
  Suits-either false true c parameters name last kept = Suits-waiting c.le session rows c.channel name suits
  Suits-either false false c parameters name last kept = kept

  pub Suits-status_row : (pins : List PinRow) (c : Apdu) → Suits (status_row rows pins session c).done.session rows
  Suits-status_row pins c =
      Suits-either (c.p2 == 0) (c.p2 == 1) c
      (unwrap_or (parameters_of_directory rows pins (open_channel session c.channel)) [])
      (unwrap_or (name_of_application rows (open_channel session c.channel)) []) _ suits

  -- and after STATUS
  pub Suits-status : (pins : List PinRow) (c : Apdu) → Suits (decided session (status_row rows pins session c)).session rows
  Suits-status pins c = Suits-decided rows session (status_row rows pins session c) suits (Suits-status_row pins c)
