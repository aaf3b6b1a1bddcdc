-- A session goes on to suit its card when a file is added.
use Rattle.std.proofs.Common.{◌≡◌, ◌≢◌, ℕ, Bool, true, false, cond, List, [], ◌∷◌, ◌++◌, refl, inl}
use Rattle.std.proofs.Common.{inr, ⊎_elim, Option, Some, None, IfSome, IsNone, IsSomeAnd, IsTrue}
use Rattle.std.specs.Option.{option_and_then}
use Rattle.file_rows.proofs.ChangeLemmas.{added}
use Rattle.file_rows.proofs.EditLemmas.{is_some_and}
use Rattle.file_rows.specs.Change.{new_file}
use Rattle.file_rows.specs.Content.{file_at}
use Rattle.file_rows.specs.FileHead.{HasRecord, holds_files}
use Rattle.file_rows.specs.Path.{same_path}
use Rattle.file_rows.specs.declared.content.Content.{Content}
use Rattle.file_rows.specs.declared.head.FileHead.{FileHead}
use Rattle.file_rows.specs.declared.head.Kind.TheVariants.{Application}
use Rattle.file_rows.specs.declared.row.FileRow.{FileRow}
use Rattle.uicc_channels.proofs.CarryLemmas.{stands_open}
use Rattle.uicc_channels.proofs.SessionLemmas.{Suits-with_channel}
use Rattle.uicc_channels.specs.Chan.{IsDirectoryIn, StandsAmong}
use Rattle.uicc_channels.specs.Session.{IsOpen, Suits, channel_at, open_channel, with_channel}
use Rattle.uicc_channels.specs.declared.chan.Chan.{Chan}
use Rattle.uicc_channels.specs.declared.session.Session.{Session}
use Rattle.uicc_admin.specs.Create.{standing_at_new}

-- what is said of a file is said of it beside others
some_more : (P : FileRow → Type 0) (path : List ℕ) (rows more : List FileRow) → IsSomeAnd (file_at path rows) P → IsSomeAnd (file_at path (rows ++ more)) P
some_more P path [] more said = absurd said
some_more P path (row ∷ rows) more said = either (same_path row.head.path path) (some_more P path rows more) said
  where
    either : (b : Bool) → (IsSomeAnd (file_at path rows) P → IsSomeAnd (file_at path (rows ++ more)) P)
        → IsSomeAnd (cond b (Some row) (file_at path rows)) P → IsSomeAnd (cond b (Some row) (file_at path (rows ++ more))) P
    either true later said = said
    either false later said = later said

module _ (rows more : List FileRow) (some : rows ≢ []) where
  named_more : (P : FileRow → Type 0) (name : Option (List ℕ)) → IfSome name (λ path. IsSomeAnd (file_at path rows) P) → IfSome name (λ path. IsSomeAnd (file_at path (rows ++ more)) P)
  named_more P None said = tt
  named_more P (Some path) said = some_more P path rows more said

  pointer_more : (P : FileRow → Type 0) (file : Option (List ℕ)) → IsSomeAnd (option_and_then (λ path. file_at path rows) file) P → IsSomeAnd (option_and_then (λ path. file_at path (rows ++ more)) file) P
  pointer_more P None said = said
  pointer_more P (Some path) said = some_more P path rows more said

  dir_more : (dir : List ℕ) → IsDirectoryIn rows dir → IsDirectoryIn (rows ++ more) dir
  dir_more dir is = ⊎_elim (λ none. absurd (some none.0)) (λ there. inr (some_more (λ row. IsTrue (holds_files row.head.kind)) dir rows more there)) is

  -- a channel stands among more files too
  StandsAmong-more : (chan : Chan) → StandsAmong rows chan → StandsAmong (rows ++ more) chan
  StandsAmong-more chan stands = record {
    app = named_more (λ row. row.head.kind ≡ Application) chan.app stands.app;
    dir = dir_more chan.dir stands.dir;
    file = named_more (λ row. holds_files row.head.kind ≡ false) chan.file stands.file;
    pointer = ⊎_elim (λ none. inl none) (λ there. inr (pointer_more (λ row. HasRecord row.head chan.pointer) chan.file there)) stands.pointer;
  }

  place_more : (place : Option Chan) → IfSome place (StandsAmong rows) → IfSome place (StandsAmong (rows ++ more))
  place_more None stands = tt
  place_more (Some chan) stands = StandsAmong-more chan stands

  Suits-more : (session : Session) → Suits session rows → Suits session (rows ++ more)
  Suits-more session suits = record {
    places = suits.places;
    basic = suits.basic;
    each = λ number. place_more (channel_at session number) (suits.each number);
  }

-- a channel stands at the new file
StandsAmong-new : (rows : List FileRow) (head : FileHead) (chan : Chan) → rows ≢ [] → file_at head.path (rows ++ new_file head ∷ []) ≡ Some (new_file head) → StandsAmong rows chan
    → StandsAmong (rows ++ new_file head ∷ []) (standing_at_new head chan)
StandsAmong-new rows head chan some at stands = either (holds_files head.kind) refl
  where
    more : StandsAmong (rows ++ new_file head ∷ []) chan
    more = StandsAmong-more rows (new_file head ∷ []) some chan stands

    either : (b : Bool) → holds_files head.kind ≡ b
        → StandsAmong (rows ++ new_file head ∷ []) (cond b (record chan { dir = head.path; file = None; pointer = 0 }) (record chan { file = Some head.path; pointer = 0 }))
    either true is = record {
      app = more.app;
      dir = inr (is_some_and (file_at head.path (rows ++ new_file head ∷ [])) (λ row. IsTrue (holds_files row.head.kind)) (new_file head) at is);
      file = tt;
      pointer = inl refl;
    }
    either false is = record {
      app = more.app;
      dir = more.dir;
      file = is_some_and (file_at head.path (rows ++ new_file head ∷ [])) (λ row. holds_files row.head.kind ≡ false) (new_file head) at is;
      pointer = inl refl;
    }

-- the session suits the files with the new one
pub Suits-adding : (content : Content) (head : FileHead) (session : Session) (channel : ℕ) → content.rows ≢ [] → IsNone (file_at head.path content.rows) → Suits session content.rows → IsOpen session channel
    → Suits (with_channel session channel (Some (standing_at_new head (open_channel session channel)))) (content.rows ++ new_file head ∷ [])
Suits-adding content head session channel some absent suits is_open =
    Suits-with_channel session (content.rows ++ new_file head ∷ []) channel (Some (standing_at_new head (open_channel session channel)))
    (Suits-more content.rows (new_file head ∷ []) some session suits)
    (StandsAmong-new content.rows head (open_channel session channel) some (added content head absent) (stands_open session content.rows channel suits is_open))
    (λ _. refl)
