-- The row of a command by its instruction.
use Rattle.std.proofs.Common.{◌≡◌, ◌≢◌, ℕ, Bool, true, false, cond, List, refl}
use Rattle.std.proofs.lemmas.Bool.Decides.{Decides-eqb}
use Rattle.std.specs.Prelude.{◌==◌}
use Rattle.apdu_codec.specs.Command.{Apdu}
use Rattle.file_rows.proofs.PathLemmas.{is_false}
use Rattle.file_rows.specs.Content.{IsValid}
use Rattle.file_rows.specs.declared.content.Content.{Content}
use Rattle.file_rows.specs.declared.head.Life.TheVariants.{Active, Deactivated, Terminated}
use Rattle.file_rows.specs.declared.mode.Mode.{Mode}
use Rattle.file_rows.specs.declared.row.FileRow.{FileRow}
use Rattle.uicc_channels.specs.CarriesOut.{CanCarryOut}
use Rattle.uicc_channels.specs.CommandRow.{CommandRow, decided}
use Rattle.uicc_channels.specs.Session.{Suits}
use Rattle.uicc_channels.specs.declared.session.Session.{Session}
use Rattle.uicc_admin.proofs.CreateRowLemmas.{CanCarryOut-create}
use Rattle.uicc_admin.proofs.DeleteRowLemmas.{CanCarryOut-delete}
use Rattle.uicc_admin.proofs.ResizeRowLemmas.{CanCarryOut-resize}
use Rattle.uicc_admin.proofs.StateLemmas.{CanCarryOut-state}
use Rattle.uicc_admin.specs.Administration.{admin_row}
use Rattle.uicc_admin.specs.Create.{create_row}
use Rattle.uicc_admin.specs.Delete.{delete_row}
use Rattle.uicc_admin.specs.FileState.{activate_row, deactivate_row, terminate_row}
use Rattle.uicc_admin.specs.Resize.{resize_row}

is_that : (n m : ℕ) → n ≡ m → (n == m) ≡ true
is_that n m e = (Decides-eqb n m).1 e

isnt_that : (n m : ℕ) → n ≢ m → (n == m) ≡ false
isnt_that n m apart = is_false (n == m) (λ e. apart ((Decides-eqb n m).0 e))

module _ (rows : List FileRow) (allowed : List ℕ → Mode → Bool) (session : Session) (c : Apdu) where
  pub row-create : c.ins ≡ 0xE0 → create_row rows allowed session c ≡ admin_row rows allowed session c
  row-create e = rw (is_that c.ins 0xE0 e) refl

  pub row-delete : c.ins ≡ 0xE4 → delete_row rows allowed session c ≡ admin_row rows allowed session c
  row-delete e =
      let zeroth : (c.ins == 0xE0) ≡ false = rw e refl in
      rw (zeroth, is_that c.ins 0xE4 e) refl

  pub row-resize : c.ins ≡ 0xD4 → resize_row rows allowed session c ≡ admin_row rows allowed session c
  row-resize e =
      let zeroth : (c.ins == 0xE0) ≡ false = rw e refl in
      let first : (c.ins == 0xE4) ≡ false = rw e refl in
      rw (zeroth, first, is_that c.ins 0xD4 e) refl

  pub row-activate : c.ins ≡ 0x44 → activate_row rows allowed session c ≡ admin_row rows allowed session c
  row-activate e =
      let zeroth : (c.ins == 0xE0) ≡ false = rw e refl in
      let first : (c.ins == 0xE4) ≡ false = rw e refl in
      let second : (c.ins == 0xD4) ≡ false = rw e refl in
      rw (zeroth, first, second, is_that c.ins 0x44 e) refl

  pub row-deactivate : c.ins ≡ 0x04 → deactivate_row rows allowed session c ≡ admin_row rows allowed session c
  row-deactivate e =
      let zeroth : (c.ins == 0xE0) ≡ false = rw e refl in
      let first : (c.ins == 0xE4) ≡ false = rw e refl in
      let second : (c.ins == 0xD4) ≡ false = rw e refl in
      let third : (c.ins == 0x44) ≡ false = rw e refl in
      rw (zeroth, first, second, third, is_that c.ins 0x04 e) refl

  pub row-terminate : c.ins ≢ 0xE0 → c.ins ≢ 0xE4 → c.ins ≢ 0xD4 → c.ins ≢ 0x44 → c.ins ≢ 0x04 → terminate_row rows allowed session c ≡ admin_row rows allowed session c
  row-terminate z a b d e = rw (isnt_that c.ins 0xE0 z, isnt_that c.ins 0xE4 a, isnt_that c.ins 0xD4 b, isnt_that c.ins 0x44 d, isnt_that c.ins 0x04 e) refl

-- what holds of each row holds of that of an instruction
row_either : (P : CommandRow → Type 0) (b : Bool) (one other : CommandRow) → P one → P other → P (cond b one other)
row_either P true one other first second = first
row_either P false one other first second = second

pub CanCarryOut-administration : (content : Content) → IsValid content → (session : Session) → Suits session content.rows → (allowed : List ℕ → Mode → Bool) (c : Apdu)
    → CanCarryOut content (decided session (admin_row content.rows allowed session c))
CanCarryOut-administration content valid session suits allowed c =
    let P : CommandRow → Type 0 = λ row. CanCarryOut content (decided session row) in
    row_either P (c.ins == 0xE0) _ _ (CanCarryOut-create content valid session suits allowed c)
    (row_either P (c.ins == 0xE4) _ _ (CanCarryOut-delete content valid session suits allowed c)
    (row_either P (c.ins == 0xD4) _ _ (CanCarryOut-resize content valid session suits allowed c)
    (row_either P (c.ins == 0x44) _ _ (CanCarryOut-state content valid session suits allowed c Active)
    (row_either P (c.ins == 0x04) _ _ (CanCarryOut-state content valid session suits allowed c Deactivated)
    (CanCarryOut-state content valid session suits allowed c Terminated)))))
