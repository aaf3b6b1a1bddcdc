use Rattle.std.proofs.Common.{◌≡◌, ◌≢◌, ◌≤◌, ℕ, Bool, true, false, cond, not, ◌&&◌, List, [], ◌∷◌}
use Rattle.std.proofs.Common.{length, take, Option, Some, None, IfSome, refl, sym, ◌∙◌, ap, subst}
use Rattle.std.proofs.Common.{arith}
use Rattle.std.proofs.Math.Nat.{le_refl, le_trans}
use Rattle.std.proofs.lemmas.Bool.{eq-eqb}
use Rattle.std.specs.Prelude.{◌==◌}
use Rattle.std.specs.Str.{bytes_eq}
use Rattle.file_rows.proofs.ChangeLemmas.{same_path-other}
use Rattle.file_rows.specs.declared.pin.PinRow.{PinRow}
use Rattle.file_rows.specs.declared.pin.Puk.{Puk}
use Rattle.pin_state.specs.PinCommand.{AllWrongAt, IsNoRightUnblock, IsWrongAt, NoneUnblocks}
use Rattle.pin_state.specs.PinCommand.{PinCommand, after, outcome}
use Rattle.pin_state.specs.PinCommand.PinCommand.{Verify, Change, Disable, Enable, Unblock}
use Rattle.pin_state.specs.PinOutcome.{PinOutcome, at_enabled, presented, unblock, unblock_with}
use Rattle.pin_state.specs.PinOutcome.{unblocked, wrong}

-- the value of a PIN's PUK, where it has one
abbrev puk_value : Option Puk → Option (List ℕ)
puk_value None = None
puk_value (Some puk) = Some puk.value

-- the PIN has no more tries left, and the values with which the next ones are compared are as they were
record Lowers (pin next : PinRow) : Type 0 where
  left : next.left ≤ pin.left
  value : next.value ≡ pin.value
  puk : puk_value next.puk ≡ puk_value pin.puk

stays : (pin : PinRow) → Lowers pin pin
stays pin = record { left = le_refl pin.left; value = refl; puk = refl }

Lowers-cond : (pin : PinRow) (b : Bool) (one other : PinOutcome) → Lowers pin one.pin → Lowers pin other.pin → Lowers pin (cond b one other).pin
Lowers-cond pin true one other first second = first
Lowers-cond pin false one other first second = second

Lowers-wrong : (pin : PinRow) → Lowers pin (wrong pin).pin
Lowers-wrong pin = record { left = omega arith; value = refl; puk = refl }

-- a value that isn't the right one
Lowers-presented : (pin : PinRow) (value : List ℕ) (right : PinOutcome) → value ≢ pin.value → Lowers pin (presented pin value right).pin
Lowers-presented pin value right apart =
    let differ : bytes_eq value pin.value ≡ false = same_path-other value pin.value apart in
    rw differ (Lowers-wrong pin)

Lowers-at_enabled : (pin : PinRow) (verified : Bool) (value : List ℕ) (right : PinOutcome) → value ≢ pin.value → Lowers pin (at_enabled pin verified value right).pin
Lowers-at_enabled pin verified value right apart =
    Lowers-cond pin (pin.left == 0) _ _ (stays pin) (Lowers-cond pin (not pin.enabled) _ _ (stays pin) (Lowers-presented pin value right apart))

Lowers-unblocked : (pin : PinRow) (verified : Bool) (puk : Puk) (body : List ℕ) → pin.puk ≡ Some puk → take 8 body ≢ puk.value → Lowers pin (unblocked pin verified puk body).pin
Lowers-unblocked pin verified puk body has apart =
    let differ : bytes_eq (take 8 body) puk.value ≡ false = same_path-other (take 8 body) puk.value apart in
    Lowers-cond pin (puk.left == 0) _ _ (stays pin)
    (rw differ (record { left = le_refl pin.left; value = refl; puk = sym (ap puk_value has) }))

Lowers-unblock_with : (pin : PinRow) (verified : Bool) (body : List ℕ) (puk : Option Puk) → pin.puk ≡ puk → IfSome puk (λ puk. take 8 body ≢ puk.value) → Lowers pin (unblock_with pin verified body puk).pin
Lowers-unblock_with pin verified body None has apart = stays pin
Lowers-unblock_with pin verified body (Some puk) has apart =
    Lowers-cond pin (length body == 0) _ _ (stays pin) (Lowers-unblocked pin verified puk body has apart)

Lowers-unblock : (pin : PinRow) (verified : Bool) (body : List ℕ) → IfSome pin.puk (λ puk. take 8 body ≢ puk.value) → Lowers pin (unblock pin verified body).pin
Lowers-unblock pin verified body apart =
    Lowers-cond pin (not (length body == 0) && not (length body == 16)) _ _ (stays pin) (Lowers-unblock_with pin verified body pin.puk refl apart)

-- a command without a right value
Lowers-outcome : (pin : PinRow) (verified : Bool) (command : PinCommand) → IsWrongAt pin command → Lowers pin (outcome pin verified command).pin
Lowers-outcome pin verified (Verify body) apart =
    Lowers-cond pin (length body == 0) _ _ (stays pin) (Lowers-cond pin (not (length body == 8)) _ _ (stays pin) (Lowers-at_enabled pin verified body _ apart))
Lowers-outcome pin verified (Change body) apart =
    Lowers-cond pin (not (length body == 16)) _ _ (stays pin) (Lowers-at_enabled pin verified (take 8 body) _ apart)
Lowers-outcome pin verified (Disable body) apart =
    Lowers-cond pin (not (length body == 8)) _ _ (stays pin) (Lowers-at_enabled pin verified body _ apart)
Lowers-outcome pin verified (Enable body) apart =
    Lowers-cond pin (not (length body == 8)) _ _ (stays pin)
    (Lowers-cond pin (pin.left == 0) _ _ (stays pin) (Lowers-cond pin pin.enabled _ _ (stays pin) (Lowers-presented pin body _ apart)))
Lowers-outcome pin verified (Unblock body) apart = Lowers-unblock pin verified body apart

-- no value is the PUK's
abbrev NotPuk : List ℕ → Option (List ℕ) → Type 0
NotPuk value puk = IfSome puk (λ right. value ≢ right)

to_value : (value : List ℕ) (puk : Option Puk) → IfSome puk (λ puk. value ≢ puk.value) → NotPuk value (puk_value puk)
to_value value None apart = tt
to_value value (Some puk) apart = apart

from_value : (value : List ℕ) (puk : Option Puk) → NotPuk value (puk_value puk) → IfSome puk (λ puk. value ≢ puk.value)
from_value value None apart = tt
from_value value (Some puk) apart = apart

other_puk : (value : List ℕ) (one other : Option Puk) → puk_value other ≡ puk_value one → IfSome one (λ puk. value ≢ puk.value) → IfSome other (λ puk. value ≢ puk.value)
other_puk value one other e apart = from_value value other (subst (NotPuk value) (sym e) (to_value value one apart))

-- what is wrong at a PIN is wrong at one with the same values
still_wrong : (pin next : PinRow) (command : PinCommand) → Lowers pin next → IsWrongAt pin command → IsWrongAt next command
still_wrong pin next (Verify body) lowers apart = λ e. apart (e ∙ lowers.value)
still_wrong pin next (Change body) lowers apart = λ e. apart (e ∙ lowers.value)
still_wrong pin next (Disable body) lowers apart = λ e. apart (e ∙ lowers.value)
still_wrong pin next (Enable body) lowers apart = λ e. apart (e ∙ lowers.value)
still_wrong pin next (Unblock body) lowers apart = other_puk (take 8 body) pin.puk next.puk lowers.puk apart

all_still_wrong : (pin next : PinRow) (commands : List PinCommand) → Lowers pin next → AllWrongAt pin commands → AllWrongAt next commands
all_still_wrong pin next [] lowers all = tt
all_still_wrong pin next (command ∷ commands) lowers all =
    (still_wrong pin next command lowers all.0, all_still_wrong pin next commands lowers all.1)

pub left-after : (commands : List PinCommand) (pin : PinRow) (verified : Bool) → AllWrongAt pin commands → (after commands pin verified).left ≤ pin.left
left-after [] pin verified all = le_refl pin.left
left-after (command ∷ commands) pin verified all =
    let next : PinOutcome = outcome pin verified command in
    let lowers : Lowers pin next.pin = Lowers-outcome pin verified command all.0 in
    le_trans (left-after commands next.pin next.verified (all_still_wrong pin next.pin commands lowers all.1)) lowers.left

-- a PIN without a try left that stays so, with its PUK's value
record StaysBlocked (pin next : PinRow) : Type 0 where
  left : next.left ≡ 0
  puk : puk_value next.puk ≡ puk_value pin.puk

blocked_as_it_is : (pin : PinRow) → pin.left ≡ 0 → StaysBlocked pin pin
blocked_as_it_is pin none = record { left = none; puk = refl }

Blocked-cond : (pin : PinRow) (b : Bool) (one other : PinOutcome) → StaysBlocked pin one.pin → StaysBlocked pin other.pin → StaysBlocked pin (cond b one other).pin
Blocked-cond pin true one other first second = first
Blocked-cond pin false one other first second = second

Blocked-first : (pin : PinRow) (b : Bool) (one other : PinOutcome) → b ≡ true → StaysBlocked pin one.pin → StaysBlocked pin (cond b one other).pin
Blocked-first pin b one other e first = rw e first

module _ (pin : PinRow) (none : pin.left ≡ 0) where
  is_blocked : (pin.left == 0) ≡ true
  is_blocked = eq-eqb pin.left 0 none

  itself : StaysBlocked pin pin
  itself = blocked_as_it_is pin none

  Blocked-at_enabled : (verified : Bool) (value : List ℕ) (right : PinOutcome) → StaysBlocked pin (at_enabled pin verified value right).pin
  Blocked-at_enabled verified value right = Blocked-first pin (pin.left == 0) _ _ is_blocked itself

  Blocked-unblocked : (verified : Bool) (puk : Puk) (body : List ℕ) → pin.puk ≡ Some puk → take 8 body ≢ puk.value → StaysBlocked pin (unblocked pin verified puk body).pin
  Blocked-unblocked verified puk body has apart =
      let differ : bytes_eq (take 8 body) puk.value ≡ false = same_path-other (take 8 body) puk.value apart in
      Blocked-cond pin (puk.left == 0) _ _ itself (rw differ (record { left = none; puk = sym (ap puk_value has) }))

  Blocked-unblock_with : (verified : Bool) (body : List ℕ) (puk : Option Puk) → pin.puk ≡ puk → IfSome puk (λ puk. take 8 body ≢ puk.value) → StaysBlocked pin (unblock_with pin verified body puk).pin
  Blocked-unblock_with verified body None has apart = itself
  Blocked-unblock_with verified body (Some puk) has apart =
      Blocked-cond pin (length body == 0) _ _ itself (Blocked-unblocked verified puk body has apart)

  Blocked-outcome : (verified : Bool) (command : PinCommand) → IsNoRightUnblock pin command → StaysBlocked pin (outcome pin verified command).pin
  Blocked-outcome verified (Verify body) other =
      Blocked-cond pin (length body == 0) _ _ itself (Blocked-cond pin (not (length body == 8)) _ _ itself (Blocked-at_enabled verified body _))
  Blocked-outcome verified (Change body) other =
      Blocked-cond pin (not (length body == 16)) _ _ itself (Blocked-at_enabled verified (take 8 body) _)
  Blocked-outcome verified (Disable body) other =
      Blocked-cond pin (not (length body == 8)) _ _ itself (Blocked-at_enabled verified body _)
  Blocked-outcome verified (Enable body) other =
      Blocked-cond pin (not (length body == 8)) _ _ itself (Blocked-first pin (pin.left == 0) _ _ is_blocked itself)
  Blocked-outcome verified (Unblock body) other =
      Blocked-cond pin (not (length body == 0) && not (length body == 16)) _ _ itself (Blocked-unblock_with verified body pin.puk refl other)

-- a command that isn't a right UNBLOCK PIN at a PIN isn't one at a PIN with the same value of its PUK
none_unblocks : (pin next : PinRow) (commands : List PinCommand) → puk_value next.puk ≡ puk_value pin.puk → NoneUnblocks pin commands → NoneUnblocks next commands
none_unblocks pin next [] e all = tt
none_unblocks pin next (Verify body ∷ commands) e all = (tt, none_unblocks pin next commands e all.1)
none_unblocks pin next (Change body ∷ commands) e all = (tt, none_unblocks pin next commands e all.1)
none_unblocks pin next (Disable body ∷ commands) e all = (tt, none_unblocks pin next commands e all.1)
none_unblocks pin next (Enable body ∷ commands) e all = (tt, none_unblocks pin next commands e all.1)
none_unblocks pin next (Unblock body ∷ commands) e all =
    (other_puk (take 8 body) pin.puk next.puk e all.0, none_unblocks pin next commands e all.1)

pub blocked-after : (commands : List PinCommand) (pin : PinRow) (verified : Bool) → pin.left ≡ 0 → NoneUnblocks pin commands → (after commands pin verified).left ≡ 0
blocked-after [] pin verified none all = none
blocked-after (command ∷ commands) pin verified none all =
    let next : PinOutcome = outcome pin verified command in
    let blocked : StaysBlocked pin next.pin = Blocked-outcome pin none verified command all.0 in
    blocked-after commands next.pin next.verified blocked.left (none_unblocks pin next.pin commands blocked.puk all.1)
