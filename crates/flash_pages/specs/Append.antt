-- A row appended to a bank.
use Rattle.std.specs.Prelude.{◌≡◌, ◌⊎◌, ℕ, ◌+◌, ◌-◌, List, [], ◌∷◌, ◌++◌, length, drop, Some}
use Rattle.std.specs.Prelude.{IfSome, Result, OnOk}
use Rattle.flash_pages.specs.declared.bank.Bank.{Bank}
use Rattle.flash_pages.specs.Bank.{bank_bytes}
use Rattle.flash_pages.specs.Bytes.{blank, patch, DiffersIn}
use Rattle.flash_pages.specs.Flash.{FlashState, IsSettled, LeavesOnly, AddsOnly, Touches}
use Rattle.flash_pages.specs.Rows.{behind_gate, row_of, open_rows, IsClosed, HasRows}

-- What a cut may leave of it: length and body torn behind a gate as it was, or both in place behind
-- any gate.
abbrev pub IsTornRow : ℕ → List ℕ → List ℕ → List ℕ → Type 0
IsTornRow at body before image =
    DiffersIn (at + 1) (4 + length body) before image ⊎ DiffersIn at 1
    (patch before (at + 1) (behind_gate body)) image

-- The open rows of a bank end at this place of it, and no open row stands behind the bytes that a
-- row with a body of this length takes there.
pub record EndsAt (bytes : List ℕ) (bodies : List (List ℕ)) (place len : ℕ) : Type 0 where
  pub rows : HasRows bytes bodies
  pub end : place ≡ length (open_rows bodies)
  pub behind : IsClosed (drop (place + 5 + len) bytes)

-- the open rows are those of before, or those and this one
abbrev pub HasRowsOrOneMore : List ℕ → List (List ℕ) → List ℕ → Type 0
HasRowsOrOneMore bytes bodies body = HasRows bytes bodies ⊎ HasRows bytes (bodies ++ body ∷ [])

-- After Ok the row stands at this place, and a restart leaves it. Whatever the answer, nothing is
-- erased, and outside the row's bytes all is as it was.
pub record AppendsRow {T E : Type 0} (at : ℕ) (body : List ℕ) (old new : FlashState)
    (result : Result T E) : Type 0 where
  pub done : OnOk result
      (IfSome old.bytes (λ before. new.bytes ≡ Some (patch before at (row_of body))))
  pub settled : OnOk result (IsSettled new)
  pub erased : new.erased ≡ old.erased
  pub touches : Touches at (5 + length body) old new

-- what a cut or a failure leaves is a torn row
pub record LeavesTornRow (at : ℕ) (body : List ℕ) (old new : FlashState) : Type 0 where
  pub bytes : IfSome old.bytes (λ before. IfSome new.bytes (IsTornRow at body before))
  pub may_leave : IfSome old.bytes (λ before. AddsOnly old new (IsTornRow at body before))
  pub images : IfSome old.bytes (λ before. LeavesOnly old new (IsTornRow at body before))

-- The open rows of the bank are at each moment these, or these and the new one, and after Ok the
-- latter.
pub record KeepsRows {T E : Type 0} (bank : Bank) (bodies : List (List ℕ)) (body : List ℕ)
    (old new : FlashState)
    (result : Result T E) : Type 0 where
  pub bytes : IfSome new.bytes (λ bytes. HasRowsOrOneMore (bank_bytes bank bytes) bodies body)
  pub may_leave : AddsOnly old new
      (λ content. HasRowsOrOneMore (bank_bytes bank content) bodies body)
  pub images : LeavesOnly old new (λ image. HasRowsOrOneMore (bank_bytes bank image) bodies body)
  pub done : OnOk result
      (IfSome new.bytes (λ bytes. HasRows (bank_bytes bank bytes) (bodies ++ body ∷ [])))

-- the open rows of a bank end at this place of it, and all bytes from there on are FF
pub record EndsBlank (bytes : List ℕ) (bodies : List (List ℕ)) (place : ℕ) : Type 0 where
  pub end : place ≡ length (open_rows bodies)
  pub rows : bytes ≡ open_rows bodies ++ blank (length bytes - place)
