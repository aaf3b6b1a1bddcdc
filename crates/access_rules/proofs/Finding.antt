-- The PINs that are found from a directory upwards.
use Rattle.std.proofs.Common.{◌≡◌, ℕ, ◌-◌, ◌%◌, ◌^◌, ◌<◌, ◌≤◌, Bool, List, [], ◌∷◌, map, find}
use Rattle.std.proofs.Common.{Contains, Option, Some, None, IfSome, sym, ◌∙◌, ap, arith}
use Rattle.std.specs.Prelude.{◌==◌, nat_lt}
use Rattle.std.specs.Option.{option_or}
use Rattle.std.specs.Int.{bit_at}
use Rattle.std.proofs.Math.Nat.{div-eq_of_lt}
use Rattle.std.proofs.Math.Pow.{pow_mono}
use Rattle.plain_lists.specs.FirstOf.{first_of}
use Rattle.file_rows.proofs.ListLemmas.{contains_first, contains_later}
use Rattle.file_rows.specs.declared.pin.PinRow.{PinRow}
use Rattle.access_rules.specs.May.{enclosing}
use Rattle.access_rules.specs.Met.{pin_at, pin_for}
use Rattle.file_rows.specs.PinRow.{is_verified}
use Rattle.ber_tlv.proofs.ObjectLemmas.{by_test, ltb-not}

high_bit : (v b : ℕ) → v < 2 ^ 32 → 32 ≤ b → bit_at v b ≡ 0
high_bit v b h k =
    let p : 2 ^ 32 ≤ 2 ^ b = pow_mono k in
    let q : v < 2 ^ b = omega arith in
    ap (λ n. n % 2) (div-eq_of_lt q)

pub unset : (v number bit : ℕ) → v < 2 ^ 32 → bit ≡ number - 1 → 32 ≤ bit → nat_lt bit 32 ≡ is_verified v number
unset v number bit h e k =
    let z : bit_at v (number - 1) ≡ 0 = high_bit v (number - 1) h (omega arith) in
    ltb-not bit 32 k ∙ sym (ap (λ n. n == 1) z)

module _ {X : Type 0} where
  -- what a search finds is among what was searched
  Contains-find : (test : X → Bool) (xs : List X) → IfSome (find test xs) (Contains xs)
  Contains-find test [] = tt
  Contains-find test (x ∷ xs) =
      by_test (λ (o : Option X). IfSome o (Contains (x ∷ xs))) (test x) _ _
      (λ t. contains_first x xs) (λ t. IfSome-later (find test xs) (Contains-find test xs))
    where
      IfSome-later : (o : Option X) → IfSome o (Contains xs) → IfSome o (Contains (x ∷ xs))
      IfSome-later None h = tt
      IfSome-later (Some y) h = contains_later x xs y h

  -- what each of some has, the first of them has that is there
  IfSome-first_of : {Y : Type 0} (P : X → Type 0) (f : Y → Option X) (ys : List Y) → ((y : Y) → IfSome (f y) P) → IfSome (first_of (map f ys)) P
  IfSome-first_of P f [] each = tt
  IfSome-first_of P f (y ∷ ys) each = either (f y) (each y) (IfSome-first_of P f ys each)
    where
      either : (o : Option X) → IfSome o P → IfSome (first_of (map f ys)) P → IfSome (option_or o (first_of (map f ys))) P
      either None h k = k
      either (Some x) h k = h

-- the PIN that is found for a key is among the PINs
pub Contains-pin_for : (pins : List PinRow) (directory : List ℕ) (key : ℕ) → IfSome (pin_for pins directory key) (Contains pins)
Contains-pin_for pins directory key = IfSome-first_of (Contains pins) (pin_at pins key) (enclosing directory) (λ home. Contains-find _ pins)
