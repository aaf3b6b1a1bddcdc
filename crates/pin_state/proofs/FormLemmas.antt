use Rattle.std.proofs.Common.{◌≡◌, ◌≤◌, ℕ, ◌-◌, Bool, true, false, cond, not, ◌&&◌, List, length}
use Rattle.std.proofs.Common.{take, drop, Option, Some, None, IfSome, refl, subst, arith}
use Rattle.std.proofs.Math.Nat.{le_refl}
use Rattle.std.specs.Prelude.{◌==◌}
use Rattle.std.specs.Str.{bytes_eq}
use Rattle.file_rows.specs.Change.{KeepsPin}
use Rattle.file_rows.specs.PinRow.{AreTries, IsPin}
use Rattle.file_rows.specs.declared.pin.PinRow.{PinRow}
use Rattle.file_rows.specs.declared.pin.Puk.{Puk}
use Rattle.pin_state.specs.PinCommand.{PinCommand, outcome}
use Rattle.pin_state.specs.PinCommand.PinCommand.{Verify, Change, Disable, Enable, Unblock}
use Rattle.pin_state.specs.PinOutcome.{PinOutcome, at_enabled, presented, unblock_with, unblocked}

-- a PIN of the same number, home and key, in the form of one where the first is
record Keeps (pin next : PinRow) : Type 0 where
  form : IsPin pin → IsPin next
  same : KeepsPin pin next

itself : (pin : PinRow) → Keeps pin pin
itself pin = record { form = λ form. form; same = record { number = refl; home = refl; key = refl } }

-- another value, other tries of the PIN and its PUK within their maxima, enabled or not
with_tries : (pin : PinRow) (value : List ℕ) (left : ℕ) (enabled : Bool) (puk : Option Puk)
    → (IsPin pin → left ≤ pin.max) → (IsPin pin → IfSome puk (λ puk. AreTries puk.max puk.left))
    → Keeps pin (record pin { value = value; left = left; enabled = enabled; puk = puk })
with_tries pin value left enabled puk within of_puk = record {
  form = λ form. record {
    smallest = form.smallest;
    largest = form.largest;
    key = form.key;
    tries = record { some = form.tries.some; few = form.tries.few; left = within form };
    puk = of_puk form;
  };
  same = record { number = refl; home = refl; key = refl };
}

-- all tries, or one less
all_tries : (pin : PinRow) (value : List ℕ) (enabled : Bool) → Keeps pin (record pin { value = value; left = pin.max; enabled = enabled })
all_tries pin value enabled = with_tries pin value pin.max enabled pin.puk (λ form. le_refl pin.max) (λ form. form.puk)

Keeps-cond : (pin : PinRow) (b : Bool) (one other : PinOutcome) → Keeps pin one.pin → Keeps pin other.pin → Keeps pin (cond b one other).pin
Keeps-cond pin true one other first second = first
Keeps-cond pin false one other first second = second

Keeps-presented : (pin : PinRow) (value : List ℕ) (right : PinOutcome) → Keeps pin right.pin → Keeps pin (presented pin value right).pin
Keeps-presented pin value right kept =
    Keeps-cond pin (bytes_eq value pin.value) _ _ kept
    (with_tries pin pin.value (pin.left - 1) pin.enabled pin.puk (λ form. let left : pin.left ≤ pin.max = form.tries.left in omega arith) (λ form. form.puk))

Keeps-at_enabled : (pin : PinRow) (verified : Bool) (value : List ℕ) (right : PinOutcome) → Keeps pin right.pin → Keeps pin (at_enabled pin verified value right).pin
Keeps-at_enabled pin verified value right kept =
    Keeps-cond pin (pin.left == 0) _ _ (itself pin) (Keeps-cond pin (not pin.enabled) _ _ (itself pin) (Keeps-presented pin value right kept))

at_puk : (pin : PinRow) (puk : Puk) → pin.puk ≡ Some puk → IsPin pin → AreTries puk.max puk.left
at_puk pin puk has form = subst (λ (o : Option Puk). IfSome o (λ puk. AreTries puk.max puk.left)) has form.puk

Keeps-unblocked : (pin : PinRow) (verified : Bool) (puk : Puk) (body : List ℕ) → pin.puk ≡ Some puk → Keeps pin (unblocked pin verified puk body).pin
Keeps-unblocked pin verified puk body has =
    Keeps-cond pin (puk.left == 0) _ _ (itself pin)
    (Keeps-cond pin (bytes_eq (take 8 body) puk.value) _ _
    (with_tries pin (drop 8 body) pin.max true (Some (record puk { left = puk.max })) (λ form. le_refl pin.max)
    (λ form. let tries : AreTries puk.max puk.left = at_puk pin puk has form in record { some = tries.some; few = tries.few; left = le_refl puk.max }))
    (with_tries pin pin.value pin.left pin.enabled (Some (record puk { left = puk.left - 1 })) (λ form. form.tries.left)
    (λ form. let tries : AreTries puk.max puk.left = at_puk pin puk has form in
    record { some = tries.some; few = tries.few; left = let left : puk.left ≤ puk.max = tries.left in omega arith })))

Keeps-unblock_with : (pin : PinRow) (verified : Bool) (body : List ℕ) (puk : Option Puk) → pin.puk ≡ puk → Keeps pin (unblock_with pin verified body puk).pin
Keeps-unblock_with pin verified body None has = itself pin
Keeps-unblock_with pin verified body (Some puk) has = Keeps-cond pin (length body == 0) _ _ (itself pin) (Keeps-unblocked pin verified puk body has)

Keeps-outcome : (pin : PinRow) (verified : Bool) (command : PinCommand) → Keeps pin (outcome pin verified command).pin
Keeps-outcome pin verified (Verify body) =
    Keeps-cond pin (length body == 0) _ _ (itself pin)
    (Keeps-cond pin (not (length body == 8)) _ _ (itself pin) (Keeps-at_enabled pin verified body _ (all_tries pin pin.value pin.enabled)))
Keeps-outcome pin verified (Change body) =
    Keeps-cond pin (not (length body == 16)) _ _ (itself pin) (Keeps-at_enabled pin verified (take 8 body) _ (all_tries pin (drop 8 body) pin.enabled))
Keeps-outcome pin verified (Disable body) =
    Keeps-cond pin (not (length body == 8)) _ _ (itself pin) (Keeps-at_enabled pin verified body _ (all_tries pin pin.value false))
Keeps-outcome pin verified (Enable body) =
    Keeps-cond pin (not (length body == 8)) _ _ (itself pin)
    (Keeps-cond pin (pin.left == 0) _ _ (itself pin)
    (Keeps-cond pin pin.enabled _ _ (itself pin)
    (Keeps-presented pin body _ (with_tries pin pin.value pin.left true pin.puk (λ form. form.tries.left) (λ form. form.puk)))))
Keeps-outcome pin verified (Unblock body) =
    Keeps-cond pin (not (length body == 0) && not (length body == 16)) _ _ (itself pin) (Keeps-unblock_with pin verified body pin.puk refl)

pub IsPin-outcome : (pin : PinRow) (verified : Bool) (command : PinCommand) → IsPin pin → IsPin (outcome pin verified command).pin
IsPin-outcome pin verified command form = (Keeps-outcome pin verified command).form form

pub KeepsPin-outcome : (pin : PinRow) (verified : Bool) (command : PinCommand) → KeepsPin pin (outcome pin verified command).pin
KeepsPin-outcome pin verified command = (Keeps-outcome pin verified command).same
