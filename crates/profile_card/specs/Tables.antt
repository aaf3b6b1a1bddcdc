use Rattle.std.specs.Prelude.{ℕ, Bool, true, false, Option, Some, None}
use Rattle.apdu_codec.specs.Ins.{class_fits}
use Rattle.apdu_codec.specs.declared.commands.Class.TheVariants.{Standard, Special}

-- what stands for an instruction in the table of instructions: 0 where a class byte of ISO/IEC
-- 7816-4 alone fits it, 1 where one of the UICC's own instructions alone does, 2 where both do,
-- and no row where neither does
abbrev pub fitting_classes : Bool → Bool → Option ℕ
fitting_classes true false = Some 0
fitting_classes false true = Some 1
fitting_classes true true = Some 2
fitting_classes false false = None

abbrev pub classes_of : ℕ → Option ℕ
classes_of ins = fitting_classes (class_fits ins Standard) (class_fits ins Special)
