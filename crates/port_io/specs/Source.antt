-- What is read from a source.
use Rattle.std.specs.Prelude.{◌≡◌, ℕ, ◌<◌, ◌≤◌, List, Option, length, take}
use Rattle.std.specs.Io.KnownBytes.{Consumes, IsAtEnd}

-- n bytes came: they stand at the start of the buffer, and were the next of those left.
-- A source that reports what is left goes on reporting it.
pub record TakesNext (left_before left_after : Option (List ℕ)) (buf_before buf_after : List ℕ)
    (n : ℕ) : Type 0 where
  pub within : n ≤ length buf_before
  pub bytes : Consumes left_before left_after (take n buf_after)
  -- no byte into a buffer with room is the end
  pub end : n ≡ 0 → 0 < length buf_before → IsAtEnd left_after

-- the next bytes were taken, whichever they are
abbrev pub TakesSome : Option (List ℕ) → Option (List ℕ) → Type 0
TakesSome left_before left_after = (bytes : List ℕ) × Consumes left_before left_after bytes
