-- A builder, as contracts see it.
use Rattle.std.specs.Prelude.{ℕ, List, Option}

-- the ICCID, and the bytes that came, joined; there are none after want of memory
pub record BuilderState : Type 0 where
  pub iccid : List ℕ
  pub bytes : Option (List ℕ)
