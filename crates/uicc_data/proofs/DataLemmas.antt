-- The row of a command by its instruction.
use Rattle.std.proofs.Common.{◌≡◌, ◌≢◌, ℕ, Bool, true, false, cond, List, refl}
use Rattle.std.proofs.lemmas.Bool.Decides.{Decides-eqb}
use Rattle.std.specs.Prelude.{◌==◌}
use Rattle.apdu_codec.specs.Command.{Apdu}
use Rattle.file_rows.proofs.PathLemmas.{is_false}
use Rattle.file_rows.specs.Content.{IsValid}
use Rattle.file_rows.specs.declared.content.Content.{Content}
use Rattle.file_rows.specs.declared.mode.Mode.{Mode}
use Rattle.file_rows.specs.declared.row.FileRow.{FileRow}
use Rattle.uicc_channels.specs.CommandRow.{CommandRow, decided}
use Rattle.uicc_channels.specs.Session.{Suits}
use Rattle.uicc_channels.specs.declared.session.Session.{Session}
use Rattle.uicc_data.proofs.BinaryLemmas.{CanCarryOut-read_binary, CanCarryOut-update_binary}
use Rattle.uicc_data.proofs.RecordCarryLemmas.{CanCarryOut-read_record, CanCarryOut-update_record}
use Rattle.uicc_data.proofs.SearchCarryLemmas.{CanCarryOut-increase, CanCarryOut-search_record}
use Rattle.uicc_data.specs.Binary.{read_binary_row, update_binary_row}
use Rattle.uicc_channels.specs.CarriesOut.{CanCarryOut}
use Rattle.uicc_data.specs.Data.{data_row}
use Rattle.uicc_data.specs.Increase.{increase_row}
use Rattle.uicc_data.specs.Record.{read_record_row, update_record_row}
use Rattle.uicc_data.specs.Search.{search_record_row}

is_that : (n m : ℕ) → n ≡ m → (n == m) ≡ true
is_that n m e = (Decides-eqb n m).1 e

isnt_that : (n m : ℕ) → n ≢ m → (n == m) ≡ false
isnt_that n m apart = is_false (n == m) (λ e. apart ((Decides-eqb n m).0 e))

module _ (rows : List FileRow) (allowed : List ℕ → Mode → Bool) (session : Session) (c : Apdu) where
  pub row-read_binary : c.ins ≡ 0xB0 → read_binary_row rows allowed session c ≡ data_row rows allowed session c
  row-read_binary e = rw (is_that c.ins 0xB0 e) refl

  pub row-update_binary : c.ins ≡ 0xD6 → update_binary_row rows allowed session c ≡ data_row rows allowed session c
  row-update_binary e =
      let first : (c.ins == 0xB0) ≡ false = rw e refl in
      rw (first, is_that c.ins 0xD6 e) refl

  pub row-read_record : c.ins ≡ 0xB2 → read_record_row rows allowed session c ≡ data_row rows allowed session c
  row-read_record e =
      let first : (c.ins == 0xB0) ≡ false = rw e refl in
      let second : (c.ins == 0xD6) ≡ false = rw e refl in
      rw (first, second, is_that c.ins 0xB2 e) refl

  pub row-update_record : c.ins ≡ 0xDC → update_record_row rows allowed session c ≡ data_row rows allowed session c
  row-update_record e =
      let first : (c.ins == 0xB0) ≡ false = rw e refl in
      let second : (c.ins == 0xD6) ≡ false = rw e refl in
      let third : (c.ins == 0xB2) ≡ false = rw e refl in
      rw (first, second, third, is_that c.ins 0xDC e) refl

  pub row-search_record : c.ins ≡ 0xA2 → search_record_row rows allowed session c ≡ data_row rows allowed session c
  row-search_record e =
      let first : (c.ins == 0xB0) ≡ false = rw e refl in
      let second : (c.ins == 0xD6) ≡ false = rw e refl in
      let third : (c.ins == 0xB2) ≡ false = rw e refl in
      let fourth : (c.ins == 0xDC) ≡ false = rw e refl in
      rw (first, second, third, fourth, is_that c.ins 0xA2 e) refl

  pub row-increase : c.ins ≢ 0xB0 → c.ins ≢ 0xD6 → c.ins ≢ 0xB2 → c.ins ≢ 0xDC → c.ins ≢ 0xA2 → increase_row rows allowed session c ≡ data_row rows allowed session c
  row-increase a b d e f = rw (isnt_that c.ins 0xB0 a, isnt_that c.ins 0xD6 b, isnt_that c.ins 0xB2 d, isnt_that c.ins 0xDC e, isnt_that c.ins 0xA2 f) refl

-- what holds of each row holds of that of an instruction
row_either : (P : CommandRow → Type 0) (b : Bool) (one other : CommandRow) → P one → P other → P (cond b one other)
row_either P true one other first second = first
row_either P false one other first second = second

pub CanCarryOut-data : (content : Content) → IsValid content → (session : Session) → Suits session content.rows → (allowed : List ℕ → Mode → Bool) (c : Apdu)
    → CanCarryOut content (decided session (data_row content.rows allowed session c))
CanCarryOut-data content valid session suits allowed c =
    let P : CommandRow → Type 0 = λ row. CanCarryOut content (decided session row) in
    row_either P (c.ins == 0xB0) _ _ (CanCarryOut-read_binary content valid session suits allowed c)
    (row_either P (c.ins == 0xD6) _ _ (CanCarryOut-update_binary content valid session suits allowed c)
    (row_either P (c.ins == 0xB2) _ _ (CanCarryOut-read_record content valid session suits allowed c)
    (row_either P (c.ins == 0xDC) _ _ (CanCarryOut-update_record content valid session suits allowed c)
    (row_either P (c.ins == 0xA2) _ _ (CanCarryOut-search_record content valid session suits allowed c)
    (CanCarryOut-increase content valid session suits allowed c)))))
