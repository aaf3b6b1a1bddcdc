-- What a PIN command comes to at one PIN (ETSI TS 102 221).
use Rattle.std.specs.Prelude.{ℕ, ◌-◌, Bool, true, false, not, ◌==◌, ◌&&◌, if◌then◌else◌, List}
use Rattle.std.specs.Prelude.{length, take, drop, Option, Some, None}
use Rattle.std.specs.Str.{bytes_eq}
use Rattle.apdu_codec.specs.Sw.{tries_left}
use Rattle.apdu_codec.specs.declared.status.Sw.{Sw}
use Rattle.apdu_codec.specs.declared.status.TheConstants.Sw.{DATA_BLOCKED, DATA_NOT_FOUND, OK}
use Rattle.apdu_codec.specs.declared.status.TheConstants.Sw.{PIN_BLOCKED, WRONG_LENGTH}
use Rattle.file_rows.specs.declared.pin.PinRow.{PinRow}
use Rattle.file_rows.specs.declared.pin.Puk.{Puk}

-- the status word, the PIN after the command, and whether it is verified then
pub record PinOutcome : Type 0 where
  pub sw : Sw
  pub pin : PinRow
  pub verified : Bool

-- nothing changes
abbrev pub unchanged : PinRow → Bool → Sw → PinOutcome
unchanged pin verified sw = record { sw = sw; pin = pin; verified = verified }

-- a wrong value costs a try, and the PIN isn't verified
abbrev pub wrong : PinRow → PinOutcome
wrong pin =
    record {
      sw = tries_left (pin.left - 1);
      pin = record pin { left = pin.left - 1 };
      verified = false;
    }

-- a right value brings the tries back to their maximum
abbrev pub with_all_tries : PinRow → PinRow
with_all_tries pin = record pin { left = pin.max }

-- a value of the PIN was presented
abbrev pub presented : PinRow → List ℕ → PinOutcome → PinOutcome
presented pin value right = if bytes_eq value pin.value then right else wrong pin

-- VERIFY PIN without a body: how many tries are left
abbrev pub asked : PinRow → Bool → PinOutcome
asked pin verified =
    unchanged pin verified (if pin.enabled then tries_left pin.left else DATA_BLOCKED)

-- a value is presented to a PIN that has a try left and is enabled
abbrev pub at_enabled : PinRow → Bool → List ℕ → PinOutcome → PinOutcome
at_enabled pin verified value right =
    if pin.left == 0 then unchanged pin verified PIN_BLOCKED
    else if not pin.enabled then unchanged pin verified DATA_BLOCKED
    else presented pin value right

-- VERIFY PIN: no body, or a value of 8 bytes
abbrev pub verify : PinRow → Bool → List ℕ → PinOutcome
verify pin verified body =
    if length body == 0 then asked pin verified
    else if not (length body == 8) then unchanged pin verified WRONG_LENGTH
    else at_enabled pin verified body
    (record { sw = OK; pin = with_all_tries pin; verified = true })

-- CHANGE PIN: the old value and the new one, of 8 bytes each
abbrev pub change : PinRow → Bool → List ℕ → PinOutcome
change pin verified body =
    if not (length body == 16) then unchanged pin verified WRONG_LENGTH
    else at_enabled pin verified (take 8 body)
    (record { sw = OK; pin = record (with_all_tries pin) { value = drop 8 body }; verified = true })

-- DISABLE PIN: a value of 8 bytes
abbrev pub disable : PinRow → Bool → List ℕ → PinOutcome
disable pin verified body =
    if not (length body == 8) then unchanged pin verified WRONG_LENGTH
    else at_enabled pin verified body
    (record { sw = OK; pin = record (with_all_tries pin) { enabled = false }; verified = verified })

-- ENABLE PIN: a value of 8 bytes, to a PIN that has a try left and is disabled
abbrev pub enable : PinRow → Bool → List ℕ → PinOutcome
enable pin verified body =
    if not (length body == 8) then unchanged pin verified WRONG_LENGTH
    else if pin.left == 0 then unchanged pin verified PIN_BLOCKED
    else if pin.enabled then unchanged pin verified DATA_BLOCKED
    else presented pin body (record {
      sw = OK;
      pin = record pin { enabled = true };
      verified = true;
    })

-- UNBLOCK PIN with a body, at a PIN that has this PUK: the PUK and a new value of the PIN, of 8
-- bytes each
abbrev pub unblocked : PinRow → Bool → Puk → List ℕ → PinOutcome
unblocked pin verified puk body =
    if puk.left == 0 then unchanged pin verified PIN_BLOCKED
    else if bytes_eq (take 8 body) puk.value
    then record {
      sw = OK;
      pin = record (with_all_tries pin) {
        value = drop 8 body;
        enabled = true;
        puk = Some (record puk { left = puk.max });
      };
      verified = true;
    }
    else record {
      sw = tries_left (puk.left - 1);
      pin = record pin { puk = Some (record puk { left = puk.left - 1 }) };
      verified = verified;
    }

abbrev pub unblock_with : PinRow → Bool → List ℕ → Option Puk → PinOutcome
unblock_with pin verified body None = unchanged pin verified DATA_NOT_FOUND
unblock_with pin verified body (Some puk) =
    if length body == 0 then unchanged pin verified (tries_left puk.left)
    else unblocked pin verified puk body

-- UNBLOCK PIN: no body, or the PUK and a new value of the PIN
abbrev pub unblock : PinRow → Bool → List ℕ → PinOutcome
unblock pin verified body =
    if not (length body == 0) && not (length body == 16) then unchanged pin verified WRONG_LENGTH
    else unblock_with pin verified body pin.puk
