-- What the values of fields say in the entries of a package.
use Rattle.std.specs.Prelude.{ℕ, Bool, ◌==◌, ◌&&◌, ◌/◌, ◌%◌, nat_le, if◌then◌else◌, List, [], ◌∷◌}
use Rattle.std.specs.Prelude.{length, Option, Some, None, Result, Ok, Err}
use Rattle.profile_install.specs.ElementResult.{then_with}
use Rattle.profile_install.specs.declared.fault.ElementFault.{ElementFault}
use Rattle.profile_install.specs.declared.fault.ElementFault.TheVariants.{Malformed, BadParameter}
use Rattle.profile_install.specs.declared.values.Tries.{Tries}

-- a field that wasn't there before is kept; one that stands there again is malformed
abbrev pub kept : {T : Type 0} → Option T → Result T ElementFault → Result (Option T) ElementFault
kept (Some before) found = Err Malformed
kept None (Ok value) = Ok (Some value)
kept None (Err fault) = Err fault

abbrev pub one_byte : List ℕ → Result ℕ ElementFault
one_byte [] = Err Malformed
one_byte (byte ∷ []) = Ok byte
one_byte (byte ∷ next ∷ more) = Err Malformed

-- the value of a PIN or a PUK
abbrev pub eight_bytes : List ℕ → Result (List ℕ) ElementFault
eight_bytes value = if length value == 8 then Ok value else Err Malformed

-- the most tries in the high half of a byte, and those left in the low half
abbrev pub tries_of : ℕ → Tries
tries_of byte = record { max = byte / 16; left = byte % 16 }

-- 1 to 15 tries at most, and no more left
abbrev pub are_tries : Tries → Bool
are_tries tries = nat_le 1 tries.max && nat_le tries.left tries.max

abbrev pub tries_if_good : Tries → Result Tries ElementFault
tries_if_good tries = if are_tries tries then Ok tries else Err BadParameter

abbrev pub tries_in : List ℕ → Result Tries ElementFault
tries_in value = then_with (λ byte. tries_if_good (tries_of byte)) (one_byte value)
