-- What a contract sees of a sink in memory.
use Rattle.std.specs.Prelude.{◌≡◌, ℕ, ◌-◌, min, List, ◌++◌, length, take}
use Rattle.port_io.specs.Calls.{Calls}

pub record Store : Type 0 where
  pub written : List ℕ
  -- how many bytes it holds at most
  pub room : ℕ
  pub calls : Calls

-- as much of the piece as there was room for was written
pub record TakesAll (before after : Store) (piece : List ℕ) (n : ℕ) : Type 0 where
  pub count : n ≡ min (length piece) (before.room - length before.written)
  pub written : after.written ≡ before.written ++ take n piece
