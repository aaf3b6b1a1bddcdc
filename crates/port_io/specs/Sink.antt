-- What is written to a sink.
use Rattle.std.specs.Prelude.{ℕ, ◌<◌, ◌≤◌, List, Option, length, take}
use Rattle.std.specs.Io.KnownBytes.{Appends}

-- the first n bytes of the piece were written, behind what was.
-- A sink that reports what was written goes on reporting it.
pub record Takes (written_before written_after : Option (List ℕ)) (piece : List ℕ)
    (n : ℕ) : Type 0 where
  pub within : n ≤ length piece
  pub bytes : Appends written_before written_after (take n piece)

-- a prefix of the piece was written, behind what was, and not the whole piece
pub record TakesPart (written_before written_after : Option (List ℕ))
    (piece : List ℕ) : Type 0 where
  pub count : ℕ
  pub within : count < length piece
  pub bytes : Appends written_before written_after (take count piece)
