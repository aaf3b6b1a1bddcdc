-- What the lines of a script say.
use Rattle.card_core.specs.declared.script.Statement.{Statement}

-- a statement at a port, `phase`, which ends a phase, or `power`, which ends a section
pub data Item : Type 0 where
  Stated : Statement → Item
  PhaseEnd : Item
  SectionEnd : Item
