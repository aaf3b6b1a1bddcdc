-- A session goes on to suit its card after a command on a file.
use Rattle.std.proofs.Common.{◌≡◌, ◌⊎◌, ℕ, Bool, true, false, cond, ◌&&◌, List, [], ◌∷◌, find, refl}
use Rattle.std.proofs.Common.{sym, ap, subst, inl, inr, ⊎_elim, Option, Some, None, IfSome}
use Rattle.std.specs.Option.{option_and_then}
use Rattle.std.specs.Prelude.{◌==◌, IsSomeAnd, IsTrue}
use Rattle.file_rows.specs.Change.{with_body, with_file}
use Rattle.file_rows.specs.Content.{file_at}
use Rattle.file_rows.specs.FileHead.{HasRecord, holds_files}
use Rattle.file_rows.specs.Find.{child_with_sfi}
use Rattle.file_rows.specs.Path.{is_in, same_path}
use Rattle.file_rows.specs.declared.head.FileHead.{FileHead}
use Rattle.file_rows.specs.declared.head.Kind.TheVariants.{Application}
use Rattle.file_rows.specs.declared.row.FileRow.{FileRow}
use Rattle.uicc_channels.proofs.AmongLemmas.{AreApart, IsAmong, among_found, path_found}
use Rattle.uicc_channels.proofs.CarryLemmas.{stands_open}
use Rattle.uicc_channels.proofs.SessionLemmas.{Suits-with_channel}
use Rattle.uicc_channels.specs.Chan.{IsDirectoryIn, StandsAmong}
use Rattle.uicc_channels.specs.Session.{IsOpen, Suits, channel_at, open_channel}
use Rattle.uicc_channels.specs.declared.chan.Chan.{Chan}
use Rattle.uicc_channels.specs.declared.session.Session.{Session}
use Rattle.uicc_data.specs.FileReference.{file_named, pointer_at, standing_on, using}
use Rattle.uicc_data.specs.declared.reference.FileReference.{FileReference}
use Rattle.uicc_data.specs.declared.reference.FileReference.TheVariants.{CurrentEf, Sfi}

child_among : (rows : List FileRow) (directory : List ℕ) (sfi : ℕ) (row : FileRow) → AreApart rows → child_with_sfi rows directory sfi ≡ Some row → IsAmong rows row
child_among rows directory sfi row apart e = either (sfi == 0) e
  where
    either : (b : Bool) → cond b None (find (λ (row : FileRow). is_in directory row.head.path && (row.head.sfi == sfi)) rows) ≡ Some row → IsAmong rows row
    either true f = absurd (cc)
    either false f = among_found _ rows row apart f

current_among : (rows : List FileRow) (path : Option (List ℕ)) (row : FileRow) → option_and_then (λ path. file_at path rows) path ≡ Some row → IsAmong rows row × (path ≡ Some row.head.path)
current_among rows None row e = absurd (cc)
current_among rows (Some path) row e =
    let at : row.head.path ≡ path = path_found path rows row e in
    (subst (λ (p : List ℕ). file_at p rows ≡ Some row) (sym at) e, ap (λ (p : List ℕ). Some p) (sym at))

-- the file that a command works on is the one of its path
pub named_among : (rows : List FileRow) (chan : Chan) (file : FileReference) (row : FileRow) → AreApart rows → file_named rows chan file ≡ Some row → IsAmong rows row
named_among rows chan CurrentEf row apart e = (current_among rows chan.file row e).0
named_among rows chan (Sfi sfi) row apart e = child_among rows chan.dir sfi row apart e

-- the record pointer with which a command begins is a record of that file
pub pointer_stands : (rows : List FileRow) (chan : Chan) (file : FileReference) (row : FileRow) → StandsAmong rows chan → file_named rows chan file ≡ Some row
    → (pointer_at chan file ≡ 0) ⊎ HasRecord row.head (pointer_at chan file)
pointer_stands rows chan CurrentEf row stands e =
    ⊎_elim (λ none. inl none) (λ there. inr (subst (λ (o : Option FileRow). IsSomeAnd o (λ row. HasRecord row.head chan.pointer)) e there)) stands.pointer
pointer_stands rows chan (Sfi sfi) row stands e = inl refl

-- a channel stands among the files on an EF of them
pub StandsAmong-standing_on : (rows : List FileRow) (row : FileRow) (chan : Chan) (pointer : ℕ) → IsAmong rows row → holds_files row.head.kind ≡ false
    → (pointer ≡ 0) ⊎ HasRecord row.head pointer → StandsAmong rows chan → StandsAmong rows (standing_on row.head.path pointer chan)
StandsAmong-standing_on rows row chan pointer among bare record_there stands = record {
  app = stands.app;
  dir = stands.dir;
  file = subst (λ (o : Option FileRow). IsSomeAnd o (λ row. holds_files row.head.kind ≡ false)) (sym among) bare;
  pointer = ⊎_elim (λ none. inl none) (λ has. inr (subst (λ (o : Option FileRow). IsSomeAnd o (λ row. HasRecord row.head pointer)) (sym among) has)) record_there;
}

pub Suits-using : (session : Session) (rows : List FileRow) (number : ℕ) (row : FileRow) (pointer : ℕ) → Suits session rows → IsOpen session number → IsAmong rows row
    → holds_files row.head.kind ≡ false → (pointer ≡ 0) ⊎ HasRecord row.head pointer → Suits (using session number row.head.path pointer) rows
Suits-using session rows number row pointer suits is_open among bare record_there =
    Suits-with_channel session rows number (Some (standing_on row.head.path pointer (open_channel session number))) suits
    (StandsAmong-standing_on rows row (open_channel session number) pointer among bare record_there (stands_open session rows number suits is_open)) (λ e. refl)

module _ (path : List ℕ) (write : List ℕ → List ℕ) where
  abbrev pub written_rows : List FileRow → List FileRow
  written_rows rows = with_file path (with_body write) rows

  pub same_head : (b : Bool) (row : FileRow) → (cond b (with_body write row) row).head ≡ row.head
  same_head true row = refl
  same_head false row = refl

  -- what is said of a file's head is said of it with another body
  said_at : (P : FileHead → Type 0) (at : List ℕ) (rows : List FileRow) → IsSomeAnd (file_at at rows) (λ row. P row.head) → IsSomeAnd (file_at at (written_rows rows)) (λ row. P row.head)
  said_at P at [] said = said
  said_at P at (row ∷ rows) said =
      let x : FileRow = cond (same_path row.head.path path) (with_body write row) row in
      let head : x.head ≡ row.head = same_head (same_path row.head.path path) row in
      let step : (b : Bool) → IsSomeAnd (cond b (Some row) (file_at at rows)) (λ row. P row.head)
      → IsSomeAnd (cond b (Some x) (file_at at (written_rows rows))) (λ row. P row.head)
      = λ b. elim b as (λ b. IsSomeAnd (cond b (Some row) (file_at at rows)) (λ row. P row.head)
      → IsSomeAnd (cond b (Some x) (file_at at (written_rows rows))) (λ row. P row.head)) [
        | true ↦ λ here. subst P (sym head) here
        | false ↦ λ later. said_at P at rows later
      ]
      in
      subst (λ (h : FileHead). IsSomeAnd (cond (same_path h.path at) (Some x) (file_at at (written_rows rows))) (λ row. P row.head)) (sym head)
      (step (same_path row.head.path at) said)

  dir_stays : (rows : List FileRow) (dir : List ℕ) → IsDirectoryIn rows dir → IsDirectoryIn (written_rows rows) dir
  dir_stays rows dir is =
      ⊎_elim (λ empty. inl (ap written_rows empty.0, empty.1)) (λ there. inr (said_at (λ head. IsTrue (holds_files head.kind)) dir rows there)) is

  app_stays : (rows : List FileRow) (app : Option (List ℕ)) → IfSome app (λ path. IsSomeAnd (file_at path rows) (λ row. row.head.kind ≡ Application))
      → IfSome app (λ path. IsSomeAnd (file_at path (written_rows rows)) (λ row. row.head.kind ≡ Application))
  app_stays rows None said = tt
  app_stays rows (Some app) said = said_at (λ head. head.kind ≡ Application) app rows said

  file_stays : (rows : List FileRow) (file : Option (List ℕ)) → IfSome file (λ path. IsSomeAnd (file_at path rows) (λ row. holds_files row.head.kind ≡ false))
      → IfSome file (λ path. IsSomeAnd (file_at path (written_rows rows)) (λ row. holds_files row.head.kind ≡ false))
  file_stays rows None said = tt
  file_stays rows (Some file) said = said_at (λ head. holds_files head.kind ≡ false) file rows said

  record_stays : (rows : List FileRow) (file : Option (List ℕ)) (pointer : ℕ) → IsSomeAnd (option_and_then (λ path. file_at path rows) file) (λ row. HasRecord row.head pointer)
      → IsSomeAnd (option_and_then (λ path. file_at path (written_rows rows)) file) (λ row. HasRecord row.head pointer)
  record_stays rows None pointer said = said
  record_stays rows (Some file) pointer said = said_at (λ head. HasRecord head pointer) file rows said

  StandsAmong-written : (rows : List FileRow) (chan : Chan) → StandsAmong rows chan → StandsAmong (written_rows rows) chan
  StandsAmong-written rows chan stands = record {
    app = app_stays rows chan.app stands.app;
    dir = dir_stays rows chan.dir stands.dir;
    file = file_stays rows chan.file stands.file;
    pointer = ⊎_elim (λ none. inl none) (λ there. inr (record_stays rows chan.file chan.pointer there)) stands.pointer;
  }

  place_stands : (rows : List FileRow) (place : Option Chan) → IfSome place (StandsAmong rows) → IfSome place (StandsAmong (written_rows rows))
  place_stands rows None stands = tt
  place_stands rows (Some chan) stands = StandsAmong-written rows chan stands

  -- a session suits the files with another body in one of them
  pub Suits-written : (session : Session) (rows : List FileRow) → Suits session rows → Suits session (written_rows rows)
  Suits-written session rows suits = record {
    places = suits.places;
    basic = suits.basic;
    each = λ number. place_stands rows (channel_at session number) (suits.each number);
  }
