use Rattle.std.specs.Prelude.{ℕ, Bool, false, ◌==◌, ◌||◌, List, [], ◌∷◌}
use Rattle.apdu_codec.specs.declared.commands.Class.{Class}
use Rattle.apdu_codec.specs.declared.commands.Class.TheVariants.{Standard, Special}

-- the instructions under a class byte of ISO/IEC 7816-4 (ETSI TS 102 221 and TS 102 222, coding of
-- the class byte)
abbrev pub standard_instructions : List ℕ
standard_instructions =
    0xA4 ∷ 0xB0 ∷ 0xD6 ∷ 0xB2 ∷ 0xDC ∷ 0xA2 ∷ 0x20 ∷ 0x24 ∷ 0x26 ∷ 0x28 ∷ 0x2C
    ∷ 0x70 ∷ 0xC0 ∷ 0xE0 ∷ 0xE4 ∷ 0xE8 ∷ 0x04 ∷ 0x44 ∷ []

-- those under a class byte of the UICC's own instructions; GET RESPONSE is among both
abbrev pub special_instructions : List ℕ
special_instructions =
    0xF2 ∷ 0x32 ∷ 0xCB ∷ 0x7A ∷ 0xC0 ∷ 0x10 ∷ 0xAA ∷ 0x12 ∷ 0x14 ∷ 0xD4 ∷ 0xE2 ∷ 0xDB ∷ []

abbrev pub instructions_of : Class → List ℕ
instructions_of Standard = standard_instructions
instructions_of Special = special_instructions

-- whether a number is among these
abbrev pub is_one_of : List ℕ → ℕ → Bool
is_one_of [] number = false
is_one_of (n ∷ numbers) number = (number == n) || is_one_of numbers number

-- whether a command of this instruction may have this class
abbrev pub class_fits : ℕ → Class → Bool
class_fits ins class = is_one_of (instructions_of class) ins
