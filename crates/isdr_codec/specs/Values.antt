-- What the values of fields say.
use Rattle.std.specs.Prelude.{ℕ, Bool, not, ◌+◌, ◌-◌, ◌*◌, ◌%◌, ◌^◌, ◌==◌, ◌&&◌, nat_le}
use Rattle.std.specs.Prelude.{if◌then◌else◌, List, [], ◌∷◌, length, Option, Some, None, option_map}
use Rattle.std.specs.Prelude.{bit_and}
use Rattle.std.specs.Str.{is_utf8}
use Rattle.isdr_codec.specs.Fields.{sole}

-- a value of this length
abbrev pub of_length : ℕ → List ℕ → Option (List ℕ)
of_length count value = if length value == count then Some value else None

-- a text of at most so many bytes
abbrev pub text_in : ℕ → List ℕ → Option (List ℕ)
text_in most value = if nat_le (length value) most && is_utf8 value then Some value else None

-- a flag is one byte, false where it is 00
abbrev pub flag_in : List ℕ → Option Bool
flag_in value = option_map (λ byte. not (byte == 0x00)) (sole value)

-- ITU-T X.690, bit string: the number of unused bits at its end, and then its bits. Of these the
-- first eight, those that aren't there being 0.
abbrev pub bits_in : List ℕ → Option ℕ
bits_in [] = None
bits_in (unused ∷ []) = if unused == 0 then Some 0 else None
bits_in (unused ∷ byte ∷ []) = if nat_le unused 7 then Some (byte - byte % 2 ^ unused) else None
bits_in (unused ∷ byte ∷ next ∷ more) = if nat_le unused 7 then Some byte else None

-- bits 0 to 3, the first four
abbrev pub bit_0 : ℕ → Bool
bit_0 bits = not (bit_and bits 0x80 == 0)

abbrev pub bit_1 : ℕ → Bool
bit_1 bits = not (bit_and bits 0x40 == 0)

abbrev pub bit_2 : ℕ → Bool
bit_2 bits = not (bit_and bits 0x20 == 0)

abbrev pub bit_3 : ℕ → Bool
bit_3 bits = not (bit_and bits 0x10 == 0)

-- the operations that a bit string names, as a byte: 1 for install, 2 enable, 4 disable, 8 delete
abbrev pub operations_in : ℕ → ℕ
operations_in bits =
    (if bit_0 bits then 1 else 0) + (if bit_1 bits then 2 else 0) + (if bit_2 bits then 4 else 0)
    + (if bit_3 bits then 8 else 0)

-- a number of one to five bytes
abbrev pub number_in : List ℕ → Option ℕ
number_in [] = None
number_in (a ∷ []) = Some a
number_in (a ∷ b ∷ []) = Some (a * 256 + b)
number_in (a ∷ b ∷ c ∷ []) = Some ((a * 256 + b) * 256 + c)
number_in (a ∷ b ∷ c ∷ d ∷ []) = Some (((a * 256 + b) * 256 + c) * 256 + d)
number_in (a ∷ b ∷ c ∷ d ∷ e ∷ []) = Some ((((a * 256 + b) * 256 + c) * 256 + d) * 256 + e)
number_in (a ∷ b ∷ c ∷ d ∷ e ∷ f ∷ more) = None
