-- What a contract sees of a source in memory.
use Rattle.std.specs.Prelude.{◌≡◌, ℕ, min, List, ◌++◌, length, take, drop}
use Rattle.port_io.specs.Calls.{Calls}

pub record Unread : Type 0 where
  pub left : List ℕ
  pub calls : Calls

-- as much as the buffer holds came, and the rest of the buffer is as it was
pub record GivesAll (before after : Unread) (buf_before buf_after : List ℕ) (n : ℕ) : Type 0 where
  pub count : n ≡ min (length buf_before) (length before.left)
  pub buffer : buf_after ≡ take n before.left ++ drop n buf_before
  pub left : after.left ≡ drop n before.left
