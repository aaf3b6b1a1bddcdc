-- The PIN commands that come to one PIN, one after another.
use Rattle.std.specs.Prelude.{ℕ, ◌≢◌, Bool, List, [], ◌∷◌, take, IfSome}
use Rattle.std.specs.List.{AllByRecursion}
use Rattle.file_rows.specs.declared.pin.PinRow.{PinRow}
use Rattle.pin_state.specs.PinOutcome.{PinOutcome, change, disable, enable, unblock, verify}

-- a PIN command, with its body
pub data PinCommand : Type 0 where
  Verify : List ℕ → PinCommand
  Change : List ℕ → PinCommand
  Disable : List ℕ → PinCommand
  Enable : List ℕ → PinCommand
  Unblock : List ℕ → PinCommand

-- what a command comes to at a PIN
abbrev pub outcome : PinRow → Bool → PinCommand → PinOutcome
outcome pin verified (Verify body) = verify pin verified body
outcome pin verified (Change body) = change pin verified body
outcome pin verified (Disable body) = disable pin verified body
outcome pin verified (Enable body) = enable pin verified body
outcome pin verified (Unblock body) = unblock pin verified body

-- the PIN after these commands, one after another
abbrev pub after : List PinCommand → PinRow → Bool → PinRow
after [] pin verified = pin
after (command ∷ commands) pin verified =
    let next = outcome pin verified command in after commands next.pin next.verified

-- the command presents neither the value of the PIN nor, to unblock it, that of its PUK
abbrev pub IsWrongAt : PinRow → PinCommand → Type 0
IsWrongAt pin (Verify body) = body ≢ pin.value
IsWrongAt pin (Change body) = take 8 body ≢ pin.value
IsWrongAt pin (Disable body) = body ≢ pin.value
IsWrongAt pin (Enable body) = body ≢ pin.value
IsWrongAt pin (Unblock body) = IfSome pin.puk (λ puk. take 8 body ≢ puk.value)

-- the command isn't UNBLOCK PIN with the right value of the PUK
abbrev pub IsNoRightUnblock : PinRow → PinCommand → Type 0
IsNoRightUnblock pin (Unblock body) = IfSome pin.puk (λ puk. take 8 body ≢ puk.value)
IsNoRightUnblock pin _ = Unit {0}

abbrev pub AllWrongAt : PinRow → List PinCommand → Type 0
AllWrongAt pin commands = AllByRecursion (IsWrongAt pin) commands

abbrev pub NoneUnblocks : PinRow → List PinCommand → Type 0
NoneUnblocks pin commands = AllByRecursion (IsNoRightUnblock pin) commands
