-- The results of a package that is refused (TCA eUICC Profile Package).
use Rattle.std.specs.Prelude.{◌≡◌, ℕ, ⊤, Result, Ok, Err}
use Rattle.profile_install.specs.declared.fault.ElementFault.{ElementFault}
use Rattle.profile_install.specs.declared.fault.ElementFault.TheVariants.{NoRoom, Malformed}
use Rattle.profile_install.specs.declared.fault.ElementFault.TheVariants.{BadParameter}
use Rattle.profile_install.specs.declared.fault.ElementFault.TheVariants.{WrongTemplate}
use Rattle.profile_install.specs.declared.fault.ElementFault.TheVariants.{WrongVersion}
use Rattle.profile_install.specs.declared.fault.StepFault.{StepFault}
use Rattle.profile_install.specs.declared.fault.StepFault.TheVariants.{Refused, OutOfMemory}

abbrev pub result_number : ElementFault → ℕ
result_number NoRoom = 4
result_number Malformed = 5
result_number BadParameter = 6
result_number WrongTemplate = 9
result_number WrongVersion = 31

-- what comes of a value, unless it was refused
abbrev pub then_with : {S T : Type 0} → (S → Result T ElementFault) → Result S ElementFault
    → Result T ElementFault
then_with step (Ok value) = step value
then_with step (Err fault) = Err fault

-- what a step answers, where it is meant to come to this
abbrev pub ComesTo : {S : Type 0} → Result S StepFault → Result S ElementFault → Type 0
ComesTo (Ok value) meant = meant ≡ Ok value
ComesTo (Err (Refused fault)) meant = meant ≡ Err fault
ComesTo (Err OutOfMemory) meant = ⊤
