use Rattle.std.specs.Prelude.{◌≡◌, ℕ, ◌+◌, ◌<◌, Bool, ◌||◌, ◌&&◌, nat_le, Option, Some, None}
use Rattle.std.specs.Prelude.{if◌then◌else◌}
use Rattle.apdu_codec.specs.declared.commands.Class.{Class}
use Rattle.apdu_codec.specs.declared.commands.Class.TheVariants.{Standard, Special}
use Rattle.apdu_codec.specs.declared.status.Sw.{Sw}
use Rattle.apdu_codec.specs.declared.status.TheConstants.Sw.{CHANNEL_NOT_SUPPORTED}
use Rattle.apdu_codec.specs.declared.status.TheConstants.Sw.{SECURE_MESSAGING_NOT_SUPPORTED}
use Rattle.apdu_codec.specs.declared.status.TheConstants.Sw.{WRONG_CLASS}

-- ETSI TS 102 221, coding of the class byte: this one stands for a command of this class on this
-- channel
abbrev pub HasClass : ℕ → Class → ℕ → Type 0
HasClass byte Standard channel = (byte ≡ channel) × (channel < 4)
HasClass byte Special channel = (byte ≡ 0x80 + channel) × (channel < 4)

-- the byte is one of those from first to last
abbrev pub is_within : ℕ → ℕ → ℕ → Bool
is_within first last byte = nat_le first byte && nat_le byte last

-- the class bytes that are taken
abbrev pub is_taken : ℕ → Bool
is_taken byte = is_within 0x00 0x03 byte || is_within 0x80 0x83 byte

-- those that ask for secure messaging
abbrev pub is_secured : ℕ → Bool
is_secured byte =
    is_within 0x04 0x0F byte || is_within 0x84 0x8F byte || is_within 0x60 0x6F byte
    || is_within 0xE0 0xEF byte

-- those that name one of the channels 4 to 19
abbrev pub is_of_further_channel : ℕ → Bool
is_of_further_channel byte = is_within 0x40 0x4F byte || is_within 0xC0 0xCF byte

-- the status word with which a class byte is refused, and none where it is taken
abbrev pub class_refusal : ℕ → Option Sw
class_refusal byte =
    if is_taken byte then None
    else if is_secured byte then Some SECURE_MESSAGING_NOT_SUPPORTED
    else if is_of_further_channel byte then Some CHANNEL_NOT_SUPPORTED
    else Some WRONG_CLASS
