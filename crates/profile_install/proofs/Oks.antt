-- Steps that come to something.
use Rattle.std.proofs.Common.{◌≡◌, Bool, true, false, cond, refl, Result, Ok, Err}
use Rattle.profile_install.specs.ElementResult.{then_with}
use Rattle.profile_install.specs.declared.fault.ElementFault.{ElementFault}

pub ok_is : {T : Type 0} (a b : T) → (let r : Result T ElementFault = Ok a in r) ≡ Ok b → a ≡ b
ok_is a b e = cc

pub not_ok : {T : Type 0} (fault : ElementFault) (t : T)
    → (let r : Result T ElementFault = Err fault in r) ≡ Ok t → ⊥
not_ok fault t e = cc

-- what a step after another comes to, both came to something
pub then_ok : {S T : Type 0} (step : S → Result T ElementFault) (r : Result S ElementFault) (t : T)
    → then_with step r ≡ Ok t → (s : S) × (r ≡ Ok s) × (step s ≡ Ok t)
then_ok step (Ok s) t e = (s, refl, e)
then_ok step (Err fault) t e = absurd (not_ok fault t e)

-- by the test
pub if_ok : {T P : Type 0} (b : Bool) (x y : Result T ElementFault) (t : T) → cond b x y ≡ Ok t
    → (b ≡ true → x ≡ Ok t → P) → (b ≡ false → y ≡ Ok t → P) → P
if_ok true x y t e f g = f refl e
if_ok false x y t e f g = g refl e
