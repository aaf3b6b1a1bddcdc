-- Bytes put into a buffer from a place in them on.
use Rattle.std.specs.Prelude.{ℕ, ◌≡◌, ◌-◌, List, ◌++◌, length, take, drop}
use Rattle.record_codec.specs.declared.window.Place.{Place}

-- what a buffer of this length shows of the bytes, from place at on
abbrev pub shown : ℕ → ℕ → List ℕ → List ℕ
shown at len bytes = take len (drop at bytes)

-- these bytes have gone by, and the buffer, at first this one, has what it shows of them
pub record Shows (at : ℕ) (bytes first : List ℕ) (place : Place) (out : List ℕ) : Type 0 where
  pub skip : place.skip ≡ at - length bytes
  pub filled : place.filled ≡ length (shown at (length first) bytes)
  pub buffer : out ≡ shown at (length first) bytes ++ drop place.filled first

-- these bytes go by too
pub record Puts (text : List ℕ) (old : Place) (out : List ℕ) (new : Place)
    (after : List ℕ) : Type 0 where
  pub more : (at : ℕ) (bytes first : List ℕ) → Shows at bytes first old out
      → Shows at (bytes ++ text) first new after
