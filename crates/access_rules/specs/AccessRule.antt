-- An access rule: the ways of using a file that it covers, and the condition under which they are
-- allowed.
use Rattle.std.specs.Prelude.{ℕ, Bool, false, not, ◌==◌, bit_and, List, [], ◌∷◌, Option, Some, None}
use Rattle.std.specs.Prelude.{if◌then◌else◌}
use Rattle.std.specs.List.{list_any}
use Rattle.file_rows.specs.declared.mode.Mode.{Mode}
use Rattle.file_rows.specs.declared.mode.Mode.TheVariants.{Bit, Ins}
use Rattle.access_rules.specs.Condition.{Condition, holds}

-- the bits of an access mode byte, or instruction codes
pub data Modes : Type 0 where
  Bits : ℕ → Modes
  Instructions : List ℕ → Modes

pub record AccessRule : Type 0 where
  pub modes : Modes
  pub condition : Condition

abbrev pub covers : Modes → Mode → Bool
covers (Bits bits) (Bit bit) = not (bit_and bits bit == 0)
covers (Bits bits) (Ins ins) = false
covers (Instructions codes) (Bit bit) = false
covers (Instructions codes) (Ins ins) = list_any (λ code. code == ins) codes

-- what a rule answers, where it covers the mode
abbrev pub answer_of : Mode → (ℕ → Bool) → AccessRule → Option Bool
answer_of mode met rule =
    if covers rule.modes mode then Some (holds met rule.condition) else None

-- the first rule that covers a mode decides, and without one nothing is allowed
abbrev pub allows : List AccessRule → Mode → (ℕ → Bool) → Bool
allows [] mode met = false
allows (rule ∷ rules) mode met =
    if covers rule.modes mode then holds met rule.condition else allows rules mode met
