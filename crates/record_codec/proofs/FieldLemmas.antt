-- What was written is read again.
use Rattle.std.proofs.Common.{◌≡◌, ℕ, suc, ◌^◌, ◌<◌, ◌≤◌, false, ltb, List, [], ◌∷◌, ◌++◌, length}
use Rattle.std.proofs.Common.{Option, Some, None, refl, ap, ◌∙◌, append_assoc, arith}
use Rattle.std.specs.Prelude.{IfSome, ⊤}
use Rattle.std.specs.Int.{Width, w16, w32, w64, byte_len, from_be_bytes, to_be_bytes}
use Rattle.std.specs.List.{AllByRecursion, flat_map}
use Rattle.std.proofs.lemmas.Bool.{le-ltb}
use Rattle.std.proofs.lemmas.List.{take_at, drop_at, length-append}
use Rattle.std.proofs.lemmas.List.Concat.{flat_map-cons}
use Rattle.std.proofs.lemmas.Nat.{from_be_bytes-to_be_bytes_2, from_be_bytes-to_be_bytes_4}
use Rattle.std.proofs.lemmas.Nat.{from_be_bytes-to_be_bytes_8}
use Rattle.record_codec.specs.Fields.{◌&◌, byte, list, number2, number4, number8, option, path}
use Rattle.record_codec.specs.Fields.{plain, string}
use Rattle.record_codec.specs.Reading.{Reader, both_at, byte_at, items_at, list_at, made_at}
use Rattle.record_codec.specs.Reading.{number_at, one_at, option_at, path_at, plain_at, string_at}
use Rattle.record_codec.specs.Sizes.{IsByte, IsList, IsNumber2, IsNumber4, IsNumber8, IsPath}
use Rattle.record_codec.specs.Sizes.{IsPlain, IsString}

-- a value that was written is read again, whatever follows
pub record Again {X : Type 0} (text : X → List ℕ) (fits : X → Type 0) (read : Reader X) : Type 0 where
  pub reads : (x : X) (rest : List ℕ) → fits x → read (text x ++ rest) ≡ Some (x, rest)

pub byte_again : Again byte IsByte byte_at
byte_again = record { reads = λ n rest fits. refl }

plain_reads : (count : ℕ) (bytes rest : List ℕ) → length bytes ≡ count → plain_at count (bytes ++ rest) ≡ Some (bytes, rest)
plain_reads count bytes rest len =
    let long : ltb (length (bytes ++ rest)) count ≡ false = le-ltb _ _ (omega (arith, len, length-append bytes rest)) in
    rw (long, take_at bytes rest count len, drop_at bytes rest count len) refl

pub plain_again : (count : ℕ) → Again plain (IsPlain count) (plain_at count)
plain_again count = record { reads = plain_reads count }

number_reads : (w : Width) (n : ℕ) (rest : List ℕ) → length (to_be_bytes w n) ≡ byte_len w → from_be_bytes w (to_be_bytes w n) ≡ n
    → number_at w (to_be_bytes w n ++ rest) ≡ Some (n, rest)
number_reads w n rest len back = rw (plain_reads (byte_len w) (to_be_bytes w n) rest len, back) refl

pub number2_again : Again number2 IsNumber2 (number_at w16)
number2_again = record { reads = λ n rest fits. number_reads w16 n rest refl (from_be_bytes-to_be_bytes_2 n fits) }

pub number4_again : Again number4 IsNumber4 (number_at w32)
number4_again = record { reads = λ n rest fits. number_reads w32 n rest refl (from_be_bytes-to_be_bytes_4 n fits) }

pub number8_again : Again number8 IsNumber8 (number_at w64)
number8_again = record { reads = λ n rest fits. number_reads w64 n rest refl (from_be_bytes-to_be_bytes_8 n fits) }

module _ {X Y : Type 0} {tx : X → List ℕ} {fx : X → Type 0} {rx : Reader X} (ax : Again tx fx rx) where
  pub both_again : {ty : Y → List ℕ} {fy : Y → Type 0} {ry : Reader Y} → Again ty fy ry
      → Again {X = X × Y} (λ p. tx p.0 & ty p.1) (λ p. fx p.0 × fy p.1) (both_at rx ry)
  both_again {ty} {fy} {ry} ay = record {
    reads = λ p rest fits.
        ap (both_at rx ry) (append_assoc (tx p.0) (ty p.1) rest)
        ∙ rw (ax.reads p.0 (ty p.1 ++ rest) fits.0, ay.reads p.1 rest fits.1) refl;
  }

  pub made_again : (make : X → Y) (parts : Y → X) → ((y : Y) → make (parts y) ≡ y)
      → Again {X = Y} (λ y. tx (parts y)) (λ y. fx (parts y)) (made_at make rx)
  made_again make parts same = record {
    reads = λ y rest fits. rw (ax.reads (parts y) rest fits) (ap (λ z. Some (z, rest)) (same y));
  }

module _ {X : Type 0} {tx : X → List ℕ} {fx : X → Type 0} {rx : Reader X} (ax : Again tx fx rx) where
  option_reads : (o : Option X) (rest : List ℕ) → IfSome o fx → option_at rx (option tx o ++ rest) ≡ Some (o, rest)
  unfolding option_at
  option_reads None rest fits = refl
  option_reads (Some x) rest fits = rw (ax.reads x rest fits) refl

  pub option_again : Again (option tx) (λ o. IfSome o fx) (option_at rx)
  option_again = record { reads = option_reads }

  items_again : (items : List X) (rest : List ℕ) → AllByRecursion fx items → items_at rx (length items) (flat_map tx items ++ rest) ≡ Some (items, rest)
  unfolding items_at
  items_again [] rest fits = refl
  items_again (x ∷ items) rest fits =
      let regrouped : flat_map tx (x ∷ items) ++ rest ≡ tx x ++ (flat_map tx items ++ rest) =
      ap (λ (bytes : List ℕ). bytes ++ rest) (flat_map-cons tx x items) ∙ append_assoc (tx x) (flat_map tx items) rest in
      ap (items_at rx (suc (length items))) regrouped ∙ rw (ax.reads x (flat_map tx items ++ rest) fits.0, items_again items rest fits.1) refl

  list_reads : (most : ℕ) → most < 2 ^ 16 → (items : List X) (rest : List ℕ) → IsList most fx items → list_at most rx (list tx items ++ rest) ≡ Some (items, rest)
  unfolding list_at
  list_reads most lt items rest fits =
      ap (list_at most rx) (append_assoc (number2 (length items)) (flat_map tx items) rest)
      ∙ rw (number2_again.reads (length items) (flat_map tx items ++ rest) (omega (arith, fits.0, lt)), le-ltb most (length items) fits.0) (items_again items rest fits.1)

  pub list_again : (most : ℕ) → most < 2 ^ 16 → Again (list tx) (IsList most fx) (list_at most rx)
  list_again most lt = record { reads = list_reads most lt }

path_reads : (ids rest : List ℕ) → IsPath ids → path_at (path ids ++ rest) ≡ Some (ids, rest)
unfolding path_at
path_reads ids rest fits = rw (le-ltb 4 (length ids) fits.0) (items_again number2_again ids rest fits.1)

pub path_again : Again path IsPath path_at
path_again = record { reads = path_reads }

string_reads : (most : ℕ) → most < 2 ^ 16 → (bytes rest : List ℕ) → length bytes ≤ most → string_at most (string bytes ++ rest) ≡ Some (bytes, rest)
unfolding string_at
string_reads most lt bytes rest fits =
    ap (string_at most) (append_assoc (number2 (length bytes)) bytes rest)
    ∙ rw (number2_again.reads (length bytes) (bytes ++ rest) (omega (arith, fits, lt)), le-ltb most (length bytes) fits) (plain_reads (length bytes) bytes rest refl)

pub string_again : (most : ℕ) → most < 2 ^ 16 → Again string (IsString most) (string_at most)
string_again most lt = record { reads = string_reads most lt }

pub one_again : {X : Type 0} (of_byte : ℕ → Option X) (code : X → ℕ) → ((x : X) → of_byte (code x) ≡ Some x)
    → Again (λ x. byte (code x)) (λ x. ⊤) (one_at of_byte)
one_again of_byte code back = record { reads = λ x rest fits. rw (back x) refl }
