-- The text of bytes in hex.
use Rattle.std.proofs.Common.{◌≡◌, ℕ, ◌/◌, ◌%◌, ◌<◌, List, [], ◌∷◌, map, get_or, refl, sym, arith}
use Rattle.std.proofs.Common.{zero, suc}
use Rattle.std.specs.Char.{to_ascii_uppercase}
use Rattle.std.proofs.lemmas.Bool.{true≢false}
use Rattle.std.specs.Prelude.{slice_index, Result, Ok, Err, IsOk, OnOk}
use Rattle.hex.specs.Hex.{encode_lower, encode_upper, encode_with, lower_digits, upper_digits}

-- a digit in upper case
upper_digit : (n : ℕ) → n < 16 → to_ascii_uppercase (slice_index lower_digits n) ≡ slice_index upper_digits n
upper_digit zero h = refl
upper_digit (suc zero) h = refl
upper_digit (suc (suc zero)) h = refl
upper_digit (suc (suc (suc zero))) h = refl
upper_digit (suc (suc (suc (suc zero)))) h = refl
upper_digit (suc (suc (suc (suc (suc zero))))) h = refl
upper_digit (suc (suc (suc (suc (suc (suc zero)))))) h = refl
upper_digit (suc (suc (suc (suc (suc (suc (suc zero))))))) h = refl
upper_digit (suc (suc (suc (suc (suc (suc (suc (suc zero)))))))) h = refl
upper_digit (suc (suc (suc (suc (suc (suc (suc (suc (suc zero))))))))) h = refl
upper_digit (suc (suc (suc (suc (suc (suc (suc (suc (suc (suc zero)))))))))) h = refl
upper_digit (suc (suc (suc (suc (suc (suc (suc (suc (suc (suc (suc zero))))))))))) h = refl
upper_digit (suc (suc (suc (suc (suc (suc (suc (suc (suc (suc (suc (suc zero)))))))))))) h = refl
upper_digit (suc (suc (suc (suc (suc (suc (suc (suc (suc (suc (suc (suc (suc zero))))))))))))) h = refl
upper_digit (suc (suc (suc (suc (suc (suc (suc (suc (suc (suc (suc (suc (suc (suc zero)))))))))))))) h = refl
upper_digit (suc (suc (suc (suc (suc (suc (suc (suc (suc (suc (suc (suc (suc (suc (suc zero))))))))))))))) h = refl
upper_digit (suc (suc (suc (suc (suc (suc (suc (suc (suc (suc (suc (suc (suc (suc (suc (suc n)))))))))))))))) h = absurd (omega arith)

-- the text of bytes in lower case, in upper case
pub upper-encode_lower : (bytes : List ℕ) → ((i : ℕ) → get_or bytes i 0 < 256) → map to_ascii_uppercase (encode_lower bytes) ≡ encode_upper bytes
unfolding encode_with
upper-encode_lower [] fits = refl
upper-encode_lower (b ∷ bytes) fits =
    let small : b < 256 = fits 0 in
    rw (upper_digit (b / 16) (omega arith), upper_digit (b % 16) (omega arith), upper-encode_lower bytes (λ i. fits (suc i))) refl

-- what holds on an `Ok`
pub of_ok : {T E : Type 0} (r : Result T E) (P : Type 0) → IsOk r → OnOk r P → P
of_ok (Ok x) P ok p = p
of_ok (Err e) P ok p = absurd (true≢false (sym ok))
