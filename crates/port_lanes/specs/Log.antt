-- The log of a lane.
use Rattle.std.specs.Prelude.{ℕ, List}
use Rattle.card_core.specs.declared.entry.Entry.{Entry}

-- what contracts see of a log: its lines, and for how many more there is memory
pub record LogState : Type 0 where
  pub entries : List Entry
  pub room : ℕ
