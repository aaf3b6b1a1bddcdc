-- A session goes on to suit its card when one file is changed and keeps its path and its kind.
use Rattle.std.proofs.Common.{◌≡◌, ◌⊎◌, ℕ, ◌<◌, length, Bool, true, false, cond, List, [], ◌∷◌}
use Rattle.std.proofs.Common.{refl, sym, ◌∙◌, ap, subst, inl, inr, ⊎_elim, Option, Some, None}
use Rattle.std.proofs.Common.{IfSome, IsSome, IsSomeAnd, IsTrue}
use Rattle.std.proofs.lemmas.Bool.{cases_lt, true≢false}
use Rattle.std.proofs.lemmas.List.{get_or_past}
use Rattle.std.proofs.lemmas.Slice.Eq.{bytes_eq-Decides}
use Rattle.std.specs.Option.{option_and_then}
use Rattle.file_rows.proofs.EditLemmas.{is_some_and, some_is}
use Rattle.file_rows.specs.Change.{with_file, with_life}
use Rattle.file_rows.specs.Content.{file_at}
use Rattle.file_rows.specs.FileHead.{HasRecord, holds_files}
use Rattle.file_rows.specs.Path.{same_path}
use Rattle.file_rows.specs.declared.head.Kind.{Kind}
use Rattle.file_rows.specs.declared.head.Kind.TheVariants.{Application}
use Rattle.file_rows.specs.declared.head.Life.{Life}
use Rattle.file_rows.specs.declared.row.FileRow.{FileRow}
use Rattle.uicc_channels.proofs.AmongLemmas.{path_found}
use Rattle.uicc_channels.specs.Chan.{IsDirectoryIn, StandsAmong, current_file}
use Rattle.uicc_channels.specs.Session.{IsOpen, Suits, channel_at}
use Rattle.uicc_channels.specs.declared.chan.Chan.{Chan}
use Rattle.uicc_channels.specs.declared.session.Session.{Session}

module _ (path : List ℕ) (change : FileRow → FileRow) (paths : (row : FileRow) → (change row).head.path ≡ row.head.path) (kinds : (row : FileRow) → (change row).head.kind ≡ row.head.kind) where
  abbrev pub edited : List FileRow → List FileRow
  edited rows = with_file path change rows

  head_path : (b : Bool) (row : FileRow) → (cond b (change row) row).head.path ≡ row.head.path
  head_path true row = paths row
  head_path false row = refl

  module _ (P Q : FileRow → Type 0) (kept : (row : FileRow) → same_path row.head.path path ≡ false → P row → Q row) (made : (row : FileRow) → row.head.path ≡ path → P row → Q (change row)) where
    said_of : (row : FileRow) (b : Bool) → same_path row.head.path path ≡ b → P row → Q (cond b (change row) row)
    said_of row true same said = made row ((bytes_eq-Decides row.head.path path).0 same) said
    said_of row false same said = kept row same said

    said_first : (at : List ℕ) (row : FileRow) (before after : Option FileRow) → (IsSomeAnd before P → IsSomeAnd after Q) → (b : Bool) → same_path row.head.path path ≡ b
        → (here : Bool) → same_path row.head.path at ≡ here → IsSomeAnd (cond here (Some row) before) P
        → IsSomeAnd (cond (same_path (cond b (change row) row).head.path at) (Some (cond b (change row) row)) after) Q
    said_first at row before after later b same true is said = rw (head_path b row, is) (said_of row b same said)
    said_first at row before after later b same false is said = rw (head_path b row, is) (later said)

    -- what is said of a file is said of it afterwards, where it is said of the changed file
    pub said_at : (at : List ℕ) (rows : List FileRow) → IsSomeAnd (file_at at rows) P → IsSomeAnd (file_at at (edited rows)) Q
    said_at at [] said = said
    said_at at (row ∷ rows) said =
        said_first at row (file_at at rows) (file_at at (edited rows)) (said_at at rows) (same_path row.head.path path) refl (same_path row.head.path at) refl said

  by_kind : (P : Kind → Type 0) (at : List ℕ) (rows : List FileRow) → IsSomeAnd (file_at at rows) (λ row. P row.head.kind) → IsSomeAnd (file_at at (edited rows)) (λ row. P row.head.kind)
  by_kind P at rows said =
      said_at (λ row. P row.head.kind) (λ row. P row.head.kind) (λ row apart same. same) (λ row at same. subst P (sym (kinds row)) same) at rows said

  dir_stays : (rows : List FileRow) (dir : List ℕ) → IsDirectoryIn rows dir → IsDirectoryIn (edited rows) dir
  dir_stays rows dir is =
      ⊎_elim (λ empty. inl (ap edited empty.0, empty.1)) (λ there. inr (by_kind (λ kind. IsTrue (holds_files kind)) dir rows there)) is

  app_stays : (rows : List FileRow) (app : Option (List ℕ)) → IfSome app (λ path. IsSomeAnd (file_at path rows) (λ row. row.head.kind ≡ Application))
      → IfSome app (λ path. IsSomeAnd (file_at path (edited rows)) (λ row. row.head.kind ≡ Application))
  app_stays rows None said = tt
  app_stays rows (Some app) said = by_kind (λ kind. kind ≡ Application) app rows said

  file_stays : (rows : List FileRow) (file : Option (List ℕ)) → IfSome file (λ path. IsSomeAnd (file_at path rows) (λ row. holds_files row.head.kind ≡ false))
      → IfSome file (λ path. IsSomeAnd (file_at path (edited rows)) (λ row. holds_files row.head.kind ≡ false))
  file_stays rows None said = tt
  file_stays rows (Some file) said = by_kind (λ kind. holds_files kind ≡ false) file rows said

  -- a channel stands among the files afterwards, where its record pointer does
  pub StandsAmong-edited : (rows : List FileRow) (chan : Chan) → StandsAmong rows chan
      → (chan.pointer ≡ 0) ⊎ IsSomeAnd (current_file (edited rows) chan) (λ row. HasRecord row.head chan.pointer) → StandsAmong (edited rows) chan
  StandsAmong-edited rows chan stands pointer = record {
    app = app_stays rows chan.app stands.app;
    dir = dir_stays rows chan.dir stands.dir;
    file = file_stays rows chan.file stands.file;
    pointer = pointer;
  }

  -- the file at the path is the changed one
  pub edited_at : (rows : List FileRow) (row : FileRow) → file_at path rows ≡ Some row → file_at path (edited rows) ≡ Some (change row)
  edited_at rows row at =
      let is_it : FileRow → Type 0 = λ (x : FileRow). (x ≡ row) × (same_path x.head.path path ≡ true) in
      let found = said_at is_it (λ x. x ≡ change row) (λ x apart is. absurd (true≢false (sym is.1 ∙ apart))) (λ x there is. ap change is.0) path rows
      (is_some_and (file_at path rows) is_it row at (refl, (bytes_eq-Decides row.head.path path).1 (path_found path rows row at))) in
      let some = some_is (file_at path (edited rows)) (λ x. x ≡ change row) found in
      some.1 ∙ ap (λ (x : FileRow). Some x) some.2

-- an open channel has a place
pub open_within : (session : Session) (number : ℕ) → IsOpen session number → number < length session.channels
open_within session number is_open =
    elim (cases_lt number (length session.channels)) [
      | inl below ↦ below
      | inr past ↦
          let none : channel_at session number ≡ None = get_or_past session.channels number None past in
          absurd (true≢false (sym (subst (λ (place : Option Chan). IsSome place) none is_open)))
    ]

-- a record of a file is one of it in another state
same_records : (row : FileRow) (life : Life) (pointer : ℕ) → HasRecord row.head pointer → HasRecord (with_life life row).head pointer
same_records row life pointer has = record { first = has.first; record_len = has.record_len; last = has.last }

module _ (path : List ℕ) (life : Life) where
  abbrev pub in_state : List FileRow → List FileRow
  in_state rows = with_file path (with_life life) rows

  record_stays : (rows : List FileRow) (file : Option (List ℕ)) (pointer : ℕ) → IsSomeAnd (option_and_then (λ path. file_at path rows) file) (λ row. HasRecord row.head pointer)
      → IsSomeAnd (option_and_then (λ path. file_at path (in_state rows)) file) (λ row. HasRecord row.head pointer)
  record_stays rows None pointer said = said
  record_stays rows (Some file) pointer said =
      said_at path (with_life life) (λ row. refl) (λ row. refl) (λ row. HasRecord row.head pointer) (λ row. HasRecord row.head pointer) (λ row apart has. has)
      (λ row at has. same_records row life pointer has) file rows said

  StandsAmong-state : (rows : List FileRow) (chan : Chan) → StandsAmong rows chan → StandsAmong (in_state rows) chan
  StandsAmong-state rows chan stands =
      StandsAmong-edited path (with_life life) (λ row. refl) (λ row. refl) rows chan stands
      (⊎_elim (λ none. inl none) (λ there. inr (record_stays rows chan.file chan.pointer there)) stands.pointer)

  place_stands : (rows : List FileRow) (place : Option Chan) → IfSome place (StandsAmong rows) → IfSome place (StandsAmong (in_state rows))
  place_stands rows None stands = tt
  place_stands rows (Some chan) stands = StandsAmong-state rows chan stands

  -- a session suits the files with one of them in another state
  pub Suits-state : (session : Session) (rows : List FileRow) → Suits session rows → Suits session (in_state rows)
  Suits-state session rows suits = record {
    places = suits.places;
    basic = suits.basic;
    each = λ number. place_stands rows (channel_at session number) (suits.each number);
  }
