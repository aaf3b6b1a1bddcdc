-- A load, as contracts see it.
use Rattle.std.specs.Prelude.{ℕ, List, Option}
use Rattle.record_codec.specs.declared.profile.ProfileHead.{ProfileHead}

-- the head that its metadata give, and the bytes of its package that came, joined; there are none
-- where memory was wanting for some, and then it is spoiled
pub record LoadState : Type 0 where
  pub head : ProfileHead
  pub received : Option (List ℕ)
