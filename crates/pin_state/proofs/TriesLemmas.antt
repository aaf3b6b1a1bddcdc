-- A PIN command that isn't accepted changes at most the tries left.
use Rattle.std.proofs.Common.{◌≡◌, ◌≢◌, ℕ, ◌-◌, Bool, true, false, cond, not, ◌&&◌, List, length}
use Rattle.std.proofs.Common.{take, drop, Option, Some, None, refl, sym, subst}
use Rattle.std.specs.Prelude.{◌==◌}
use Rattle.std.specs.Str.{bytes_eq}
use Rattle.apdu_codec.specs.declared.status.TheConstants.Sw.{OK}
use Rattle.file_rows.specs.declared.pin.PinRow.{PinRow}
use Rattle.file_rows.specs.declared.pin.Puk.{Puk}
use Rattle.pin_state.specs.PinCommand.{PinCommand, outcome}
use Rattle.pin_state.specs.PinCommand.PinCommand.{Verify, Change, Disable, Enable, Unblock}
use Rattle.pin_state.specs.PinOutcome.{PinOutcome, at_enabled, presented, unblock_with, unblocked}
use Rattle.pin_state.specs.PinOutcome.{wrong}
use Rattle.pin_state.specs.Tries.{KeepsAllButTries, KeepsPuk}

-- another status word than 9000 leaves all but the tries
abbrev Spares : PinRow → PinOutcome → Type 0
Spares pin outcome = outcome.sw ≢ OK → KeepsAllButTries pin outcome.pin

puk-itself : (puk : Option Puk) → KeepsPuk puk puk
puk-itself None = tt
puk-itself (Some puk) = refl

itself : (pin : PinRow) → KeepsAllButTries pin pin
itself pin = record { same = refl; puk = puk-itself pin.puk }

Spares-cond : (pin : PinRow) (b : Bool) (one other : PinOutcome) → Spares pin one → Spares pin other → Spares pin (cond b one other)
Spares-cond pin true one other first second = first
Spares-cond pin false one other first second = second

Spares-presented : (pin : PinRow) (value : List ℕ) (right : PinOutcome) → Spares pin right → Spares pin (presented pin value right)
Spares-presented pin value right spares =
    Spares-cond pin (bytes_eq value pin.value) right (wrong pin) spares (λ other. record { same = refl; puk = puk-itself pin.puk })

Spares-at_enabled : (pin : PinRow) (verified : Bool) (value : List ℕ) (right : PinOutcome) → Spares pin right → Spares pin (at_enabled pin verified value right)
Spares-at_enabled pin verified value right spares =
    Spares-cond pin (pin.left == 0) _ _ (λ other. itself pin) (Spares-cond pin (not pin.enabled) _ _ (λ other. itself pin) (Spares-presented pin value right spares))

-- of a PIN that has a PUK another number of its tries left is kept
other_tries : (pin : PinRow) (puk : Puk) (left : ℕ) → pin.puk ≡ Some puk → KeepsAllButTries pin (record pin { puk = Some (record puk { left = left }) })
other_tries pin puk left has = record { same = refl; puk = subst (λ (o : Option Puk). KeepsPuk o (Some (record puk { left = left }))) (sym has) refl }

Spares-unblocked : (pin : PinRow) (verified : Bool) (puk : Puk) (body : List ℕ) → pin.puk ≡ Some puk → Spares pin (unblocked pin verified puk body)
Spares-unblocked pin verified puk body has =
    Spares-cond pin (puk.left == 0) _ _ (λ other. itself pin)
    (Spares-cond pin (bytes_eq (take 8 body) puk.value) _ _ (λ other. absurd (other refl)) (λ other. other_tries pin puk (puk.left - 1) has))

Spares-unblock_with : (pin : PinRow) (verified : Bool) (body : List ℕ) (puk : Option Puk) → pin.puk ≡ puk → Spares pin (unblock_with pin verified body puk)
Spares-unblock_with pin verified body None has = λ other. itself pin
Spares-unblock_with pin verified body (Some puk) has =
    Spares-cond pin (length body == 0) _ _ (λ other. itself pin) (Spares-unblocked pin verified puk body has)

pub Spares-outcome : (pin : PinRow) (verified : Bool) (command : PinCommand) → Spares pin (outcome pin verified command)
Spares-outcome pin verified (Verify body) =
    Spares-cond pin (length body == 0) _ _ (λ other. itself pin)
    (Spares-cond pin (not (length body == 8)) _ _ (λ other. itself pin) (Spares-at_enabled pin verified body _ (λ other. absurd (other refl))))
Spares-outcome pin verified (Change body) =
    Spares-cond pin (not (length body == 16)) _ _ (λ other. itself pin) (Spares-at_enabled pin verified (take 8 body) _ (λ other. absurd (other refl)))
Spares-outcome pin verified (Disable body) =
    Spares-cond pin (not (length body == 8)) _ _ (λ other. itself pin) (Spares-at_enabled pin verified body _ (λ other. absurd (other refl)))
Spares-outcome pin verified (Enable body) =
    Spares-cond pin (not (length body == 8)) _ _ (λ other. itself pin)
    (Spares-cond pin (pin.left == 0) _ _ (λ other. itself pin)
    (Spares-cond pin pin.enabled _ _ (λ other. itself pin) (Spares-presented pin body _ (λ other. absurd (other refl)))))
Spares-outcome pin verified (Unblock body) =
    Spares-cond pin (not (length body == 0) && not (length body == 16)) _ _ (λ other. itself pin) (Spares-unblock_with pin verified body pin.puk refl)
