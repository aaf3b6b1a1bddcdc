use Rattle.std.specs.Prelude.{ℕ, List, [], ◌∷◌, length}

-- ETSI TS 102 223, the proactive command REFRESH: command number 1, of type 01, with the qualifier
-- 04, a reset of the UICC; from the UICC, 81, to the terminal, 82
abbrev pub refresh_command : List ℕ
refresh_command =
    0xD0 ∷ 0x09
    ∷ 0x81 ∷ 0x03 ∷ 0x01 ∷ 0x01 ∷ 0x04
    ∷ 0x82 ∷ 0x02 ∷ 0x81 ∷ 0x82
    ∷ []

-- a data object of a tag of one byte and a value of fewer than 128 bytes
abbrev pub short_object : ℕ → List ℕ → List ℕ
short_object tag value = tag ∷ length value ∷ value
