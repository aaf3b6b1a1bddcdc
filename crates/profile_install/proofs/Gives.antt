-- What holds of the value that a step gives, where it gives one.
use Rattle.std.proofs.Common.{◌≡◌, Bool, true, false, cond, refl, Result, Ok, Err}
use Rattle.std.specs.Bool.{⊤}
use Rattle.profile_install.specs.ElementResult.{then_with}
use Rattle.profile_install.specs.declared.fault.ElementFault.{ElementFault}

abbrev pub Gives : {T : Type 0} → (T → Type 0) → Result T ElementFault → Type 0
Gives P (Ok value) = P value
Gives P (Err fault) = ⊤

pub gives_of : {T : Type 0} (P : T → Type 0) (r : Result T ElementFault)
    → ((t : T) → r ≡ Ok t → P t) → Gives P r
gives_of P (Ok t) holds = holds t refl
gives_of P (Err fault) holds = tt

pub gives_then : {S T : Type 0} (P : S → Type 0) (Q : T → Type 0)
    (step : S → Result T ElementFault) (r : Result S ElementFault) → Gives P r
    → ((s : S) → P s → Gives Q (step s)) → Gives Q (then_with step r)
gives_then P Q step (Ok s) given next = next s given
gives_then P Q step (Err fault) given next = tt

-- whatever the first step gives
pub gives_always : {S T : Type 0} (Q : T → Type 0) (step : S → Result T ElementFault)
    (r : Result S ElementFault) → ((s : S) → Gives Q (step s)) → Gives Q (then_with step r)
gives_always Q step (Ok s) next = next s
gives_always Q step (Err fault) next = tt

pub gives_if : {T : Type 0} (Q : T → Type 0) (b : Bool) (x y : Result T ElementFault)
    → Gives Q x → Gives Q y → Gives Q (cond b x y)
gives_if Q true x y one other = one
gives_if Q false x y one other = other
