-- Whether two rows of PINs are the same.
use Rattle.std.specs.Bool.{beq}
use Rattle.std.specs.Option.{option_eq}
use Rattle.std.specs.Prelude.{◌==◌, ◌&&◌, Bool, if◌then◌else◌, Option, Some, None}
use Rattle.std.specs.Str.{bytes_eq}
use Rattle.file_rows.specs.Path.{same_path}
use Rattle.file_rows.specs.declared.pin.PinRow.{PinRow}
use Rattle.file_rows.specs.declared.pin.Puk.{Puk}
use Rattle.pin_state.specs.PinOutcome.{PinOutcome}
use Rattle.pin_state.specs.declared.decision.PinDecision.{PinDecision}

abbrev pub same_puk : Puk → Puk → Bool
same_puk one other = bytes_eq one.value other.value
    && ((one.max == other.max) && (one.left == other.left))

abbrev pub same_pin : PinRow → PinRow → Bool
same_pin one other =
    (one.number == other.number) && (same_path one.home other.home && ((one.key == other.key)
    && (bytes_eq one.value other.value && ((one.max == other.max) && ((one.left == other.left)
    && (beq one.enabled other.enabled && option_eq same_puk one.puk other.puk))))))

-- the row that a PIN comes to have, where a command changes it
abbrev pub set_row : PinRow → PinOutcome → Option PinRow
set_row pin outcome = if same_pin outcome.pin pin then None else Some outcome.pin

-- what is decided on a PIN: the status word, the PIN's row where it changes, and whether it is
-- verified
abbrev pub decision_of : PinRow → PinOutcome → PinDecision
decision_of pin outcome =
    record { sw = outcome.sw; row = set_row pin outcome; verified = outcome.verified }
