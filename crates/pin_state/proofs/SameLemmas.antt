use Rattle.std.proofs.Common.{◌≡◌, ℕ, List, Bool, true, false, ◌&&◌, Option, Some, None, refl, ap}
use Rattle.std.proofs.lemmas.Bool.{and_parts, eq-eqb, eqb-true}
use Rattle.std.proofs.lemmas.Slice.Eq.{bytes_eq-Decides}
use Rattle.std.specs.Bool.{beq}
use Rattle.std.specs.Option.{option_eq}
use Rattle.std.specs.Prelude.{◌==◌}
use Rattle.std.specs.Str.{bytes_eq}
use Rattle.file_rows.proofs.ChangeLemmas.{same_path-refl}
use Rattle.file_rows.specs.declared.pin.PinRow.{PinRow}
use Rattle.file_rows.specs.declared.pin.Puk.{Puk}
use Rattle.pin_state.specs.SamePin.{same_pin, same_puk}

beq-refl : (one : Bool) → beq one one ≡ true
beq-refl true = refl
beq-refl false = refl

same_puk-refl : (puk : Option Puk) → option_eq same_puk puk puk ≡ true
same_puk-refl None = refl
same_puk-refl (Some puk) = rw (same_path-refl puk.value, eq-eqb puk.max puk.max refl, eq-eqb puk.left puk.left refl) refl

-- a row is the same as itself
pub same_pin-refl : (pin : PinRow) → same_pin pin pin ≡ true
same_pin-refl pin =
    rw (eq-eqb pin.number pin.number refl, same_path-refl pin.home, eq-eqb pin.key pin.key refl, same_path-refl pin.value, eq-eqb pin.max pin.max refl, eq-eqb pin.left pin.left refl, beq-refl pin.enabled) (same_puk-refl pin.puk)

beq-equal : (one other : Bool) → beq one other ≡ true → one ≡ other
beq-equal true true e = refl
beq-equal true false e = absurd (cc)
beq-equal false true e = absurd (cc)
beq-equal false false e = refl

record SameFields (one other : PinRow) : Type 0 where
  number : one.number ≡ other.number
  home : one.home ≡ other.home
  key : one.key ≡ other.key
  value : one.value ≡ other.value
  max : one.max ≡ other.max
  left : one.left ≡ other.left
  enabled : one.enabled ≡ other.enabled
  puk : one.puk ≡ other.puk

unfoldable row_of : ℕ → List ℕ → ℕ → List ℕ → ℕ → ℕ → Bool → Option Puk → PinRow
row_of number home key value max left enabled puk =
    record { number = number; home = home; key = key; value = value; max = max; left = left; enabled = enabled; puk = puk }

row_of-fields : (pin : PinRow) → row_of pin.number pin.home pin.key pin.value pin.max pin.left pin.enabled pin.puk ≡ pin
unfolding row_of
row_of-fields pin = refl

same_rows : (one other : PinRow) → SameFields one other → one ≡ other
same_rows one other same = cc (row_of-fields one, row_of-fields other)

unfoldable puk_of : List ℕ → ℕ → ℕ → Puk
puk_of value max left = record { value = value; max = max; left = left }

puk_of-fields : (puk : Puk) → puk_of puk.value puk.max puk.left ≡ puk
unfolding puk_of
puk_of-fields puk = refl

same_puks : (one other : Puk) → one.value ≡ other.value → one.max ≡ other.max → one.left ≡ other.left → one ≡ other
same_puks one other value max left = cc (puk_of-fields one, puk_of-fields other)

puks_same : (one other : Option Puk) → option_eq same_puk one other ≡ true → one ≡ other
puks_same None None e = refl
puks_same None (Some other) e = absurd (cc)
puks_same (Some one) None e = absurd (cc)
puks_same (Some one) (Some other) e =
    let first = and_parts (bytes_eq one.value other.value) ((one.max == other.max) && (one.left == other.left)) e in
    let last = and_parts (one.max == other.max) (one.left == other.left) first.1 in
    ap (λ (puk : Puk). Some puk)
    (same_puks one other ((bytes_eq-Decides one.value other.value).0 first.0) (eqb-true one.max other.max last.0) (eqb-true one.left other.left last.1))

-- rows that are the same are equal
pub same_pin-equal : (one other : PinRow) → same_pin one other ≡ true → one ≡ other
same_pin-equal one other e =
    let number = and_parts (one.number == other.number) _ e in
    let home = and_parts (bytes_eq one.home other.home) _ number.1 in
    let key = and_parts (one.key == other.key) _ home.1 in
    let value = and_parts (bytes_eq one.value other.value) _ key.1 in
    let max = and_parts (one.max == other.max) _ value.1 in
    let left = and_parts (one.left == other.left) _ max.1 in
    let enabled = and_parts (beq one.enabled other.enabled) (option_eq same_puk one.puk other.puk) left.1 in
    same_rows one other (record {
      number = eqb-true one.number other.number number.0;
      home = (bytes_eq-Decides one.home other.home).0 home.0;
      key = eqb-true one.key other.key key.0;
      value = (bytes_eq-Decides one.value other.value).0 value.0;
      max = eqb-true one.max other.max max.0;
      left = eqb-true one.left other.left left.0;
      enabled = beq-equal one.enabled other.enabled enabled.0;
      puk = puks_same one.puk other.puk enabled.1;
    })
