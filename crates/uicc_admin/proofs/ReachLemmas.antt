-- A command of administration leaves each file as it was that it doesn't work on.
use Rattle.std.proofs.Common.{◌≡◌, ℕ, Bool, true, false, cond, List, [], ◌∷◌, refl, sym, ◌∙◌, subst}
use Rattle.std.proofs.Common.{Option, Some, inl, inr, IsTrue}
use Rattle.std.proofs.lemmas.Bool.{eqb-true, true≢false}
use Rattle.std.specs.Prelude.{◌==◌, ◌||◌}
use Rattle.apdu_codec.specs.Command.{Apdu}
use Rattle.apdu_codec.specs.Ins.{is_one_of}
use Rattle.apdu_codec.specs.declared.status.Sw.{Sw}
use Rattle.file_rows.proofs.ChangeLemmas.{others}
use Rattle.file_rows.specs.Content.{IsValid, file_at}
use Rattle.file_rows.specs.declared.change.Change.TheVariants.{FileGone, FileSize, FileState}
use Rattle.file_rows.specs.declared.content.Content.{Content}
use Rattle.file_rows.specs.declared.head.Life.{Life}
use Rattle.file_rows.specs.declared.head.Life.TheVariants.{Active, Deactivated, Terminated}
use Rattle.file_rows.specs.declared.mode.Mode.{Mode}
use Rattle.file_rows.specs.declared.row.FileRow.{FileRow}
use Rattle.uicc_channels.specs.CarriesOut.{content_after}
use Rattle.uicc_channels.specs.CommandOutcome.{CommandOutcome, refused}
use Rattle.uicc_channels.specs.CommandRow.{CommandRow, decided}
use Rattle.uicc_channels.specs.Session.{Suits, open_channel}
use Rattle.uicc_channels.specs.declared.session.Session.{Session}
use Rattle.uicc_admin.proofs.CreateRowLemmas.{other_files-create}
use Rattle.uicc_admin.proofs.DeleteRowLemmas.{delete-has}
use Rattle.uicc_admin.proofs.ResizeRowLemmas.{resize-has}
use Rattle.uicc_admin.proofs.StateLemmas.{state-has}
use Rattle.uicc_admin.specs.Administered.{IsAdministered}
use Rattle.uicc_admin.specs.Administration.{admin_row, is_administration}
use Rattle.uicc_admin.specs.Delete.{delete_row}
use Rattle.uicc_admin.specs.FileState.{state_row}
use Rattle.uicc_admin.specs.Resize.{resize_row}

-- the instructions that ask for a state
abbrev asks_for_state : ℕ → Bool
asks_for_state ins = is_one_of (0x44 ∷ 0x04 ∷ 0xE8 ∷ []) ins

by_its : (ins n : ℕ) → (ins == n) ≡ true → IsTrue (asks_for_state n) → IsTrue (asks_for_state ins)
by_its ins n is known = subst (λ (n : ℕ). IsTrue (asks_for_state n)) (sym (eqb-true ins n is)) known

-- an instruction of administration that is none of the others terminates a file
last_one : (create delete resize activate deactivate terminate : Bool)
    → (create || (delete || (resize || (activate || (deactivate || (terminate || false)))))) ≡ true
    → create ≡ false → delete ≡ false → resize ≡ false → activate ≡ false → deactivate ≡ false → terminate ≡ true
last_one true delete resize activate deactivate terminate e a b c d f = absurd (true≢false a)
last_one false true resize activate deactivate terminate e a b c d f = absurd (true≢false b)
last_one false false true activate deactivate terminate e a b c d f = absurd (true≢false c)
last_one false false false true deactivate terminate e a b c d f = absurd (true≢false d)
last_one false false false false true terminate e a b c d f = absurd (true≢false f)
last_one false false false false false true e a b c d f = refl
last_one false false false false false false e a b c d f = absurd (true≢false (sym e))

module _ (content : Content) (valid : IsValid content) (session : Session) (suits : Suits session content.rows) (allowed : List ℕ → Mode → Bool) (c : Apdu)
    (path : List ℕ) (file : FileRow) (there : file_at path content.rows ≡ Some file)
    (elsewhere : ¬ IsAdministered content.rows (open_channel session c.channel) c path) where
  -- the file is as it was
  abbrev Spares : CommandOutcome → Type 0
  Spares outcome = file_at path (content_after content outcome.change).rows ≡ Some file

  abbrev SparesRow : CommandRow → Type 0
  SparesRow row = Spares (decided session row)

  spares-refused : (sw : Sw) → Spares (refused session sw)
  spares-refused sw = there

  spares-state : (life : Life) → IsTrue (asks_for_state c.ins) → SparesRow (state_row life content.rows allowed session c)
  spares-state life asks =
      state-has Spares life content.rows allowed session c spares-refused
      (λ row named among.
      others content (FileState row.head.path life) path (λ same. elsewhere (inl (record { instruction = asks; row = row; named = named; there = same })))
      ∙ there)

  spares-resize : c.ins ≡ 0xD4 → SparesRow (resize_row content.rows allowed session c)
  spares-resize is =
      resize-has Spares content.rows allowed session c spares-refused
      (λ asked said row named kind own.
      others content (FileSize row.head.path asked.size) path
      (λ same. elsewhere (inr (inl (record { instruction = is; asked = asked; said = said; row = row; named = named; there = same }))))
      ∙ there)

  spares-delete : c.ins ≡ 0xE4 → SparesRow (delete_row content.rows allowed session c)
  spares-delete is =
      delete-has Spares content.rows session c spares-refused allowed
      (λ row named.
      others content (FileGone row.head.path) path
      (λ below. elsewhere (inr (inr (record { instruction = is; row = row; named = named; below = below }))))
      ∙ there)

  by_test : (is_its : Bool) (one other : CommandRow) → (is_its ≡ true → SparesRow one) → (is_its ≡ false → SparesRow other) → SparesRow (cond is_its one other)
  by_test true one other first second = first refl
  by_test false one other first second = second refl

  pub spares-administration : is_administration c.ins ≡ true → SparesRow (admin_row content.rows allowed session c)
  spares-administration known =
      by_test (c.ins == 0xE0) _ _ (λ is. other_files-create content valid session suits allowed c path file there)
      (λ no_create. by_test (c.ins == 0xE4) _ _ (λ is. spares-delete (eqb-true c.ins 0xE4 is))
      (λ no_delete. by_test (c.ins == 0xD4) _ _ (λ is. spares-resize (eqb-true c.ins 0xD4 is))
      (λ no_resize. by_test (c.ins == 0x44) _ _ (λ is. spares-state Active (by_its c.ins 0x44 is refl))
      (λ no_activate. by_test (c.ins == 0x04) _ _ (λ is. spares-state Deactivated (by_its c.ins 0x04 is refl))
      (λ no_deactivate. spares-state Terminated (by_its c.ins 0xE8
      (last_one (c.ins == 0xE0) (c.ins == 0xE4) (c.ins == 0xD4) (c.ins == 0x44) (c.ins == 0x04) (c.ins == 0xE8) known no_create no_delete no_resize no_activate no_deactivate) refl))))))
