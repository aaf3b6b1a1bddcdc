-- A profile in the reply to GetProfilesInfo (GSMA SGP.22, ProfileInfo).
use Rattle.std.specs.Prelude.{ℕ, Bool, not, ◌==◌, if◌then◌else◌, List, [], ◌∷◌, ◌++◌, length}
use Rattle.std.specs.Prelude.{Option, Some, None, bit_and}
use Rattle.ber_tlv.specs.Tlv.{shortest}
use Rattle.isdr_codec.specs.Profile.{aid_of}
use Rattle.port_table.specs.PortOf.{port_of}
use Rattle.record_codec.specs.Heads.{head_of}
use Rattle.record_codec.specs.declared.durable.Heads.{Heads}
use Rattle.record_codec.specs.declared.profile.ProfileHead.{ProfileHead}

-- whether the bit is among these
abbrev pub is_asked : ℕ → ℕ → Bool
is_asked bits bit = not (bit_and bits bit == 0)

-- a field, where it is asked for
abbrev pub field_where : ℕ → ℕ → ℕ → List ℕ → List ℕ
field_where fields bit tag value = if is_asked fields bit then shortest tag value else []

-- 01 for an enabled profile, which has a port, and 00 for a disabled one
abbrev pub state_byte : Option ℕ → ℕ
state_byte None = 0x00
state_byte (Some port) = 0x01

-- the port of an enabled profile
abbrev pub port_field : ℕ → Option ℕ → List ℕ
port_field fields None = []
port_field fields (Some port) = field_where fields 8 0x9F24 (port ∷ [])

-- a nickname that isn't empty
abbrev pub nickname_field : ℕ → List ℕ → List ℕ
nickname_field fields nickname =
    if length nickname == 0 then [] else field_where fields 16 0x90 nickname

-- the fields of a profile that are asked for, in this order
abbrev pub profile_fields : ℕ → Option ℕ → ProfileHead → List ℕ
profile_fields fields port head =
    field_where fields 1 0x5A head.iccid
    ++ field_where fields 2 0x4F (aid_of head.number)
    ++ field_where fields 4 0x9F70 (state_byte port ∷ [])
    ++ port_field fields port
    ++ nickname_field fields head.nickname
    ++ field_where fields 32 0x91 head.provider
    ++ field_where fields 64 0x92 head.name
    ++ field_where fields 128 0x95 (head.class ∷ [])

-- E3 with the fields of a profile that is held
abbrev pub entry_where : Heads → ℕ → Option ProfileHead → List ℕ
entry_where heads fields None = []
entry_where heads fields (Some head) =
    shortest 0xE3 (profile_fields fields (port_of head.number heads.ports.on) head)

abbrev pub profile_entry : Heads → ℕ → ℕ → List ℕ
profile_entry heads fields number =
    entry_where heads fields (head_of number heads.profiles)
