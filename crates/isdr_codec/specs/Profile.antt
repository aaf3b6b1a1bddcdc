-- A profile's security domain, the ISD-P.
use Rattle.std.specs.Prelude.{ℕ, ◌/◌, ◌%◌, List, [], ◌∷◌}

-- its AID: the prefix of the ISD-Ps, and the profile's number
abbrev pub aid_of : ℕ → List ℕ
aid_of number =
    0xA0 ∷ 0x00 ∷ 0x00 ∷ 0x05 ∷ 0x59 ∷ 0x10 ∷ 0x10 ∷ 0xFF ∷ 0xFF ∷ 0xFF ∷ 0xFF ∷ 0x89 ∷ 0x00 ∷ 0x00
    ∷ number / 256 ∷ number % 256 ∷ []
