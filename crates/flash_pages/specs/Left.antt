-- What a program or an erase of a flash in memory leaves.
use Rattle.std.specs.Prelude.{ℕ, List, length, Option, Some, None}
use Rattle.flash_pages.specs.declared.plan.Outcome.{Outcome}
use Rattle.flash_pages.specs.declared.plan.Outcome.TheVariants.{Done, Torn, Off}
use Rattle.flash_pages.specs.Bytes.{patch, repeated}

-- in its range: these bytes, or the torn ones, or none where it does nothing
abbrev pub left_by : Outcome → List ℕ → List ℕ → Option (List ℕ)
left_by Done torn bytes = Some bytes
left_by Torn torn bytes = Some (repeated torn (length bytes))
left_by Off torn bytes = None

-- in the whole
abbrev pub with_left : List ℕ → ℕ → Option (List ℕ) → List ℕ
with_left old at (Some left) = patch old at left
with_left old at None = old
