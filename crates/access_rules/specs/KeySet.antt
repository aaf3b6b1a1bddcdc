-- A set of key references.
use Rattle.std.specs.Prelude.{ℕ, Bool, false, slice_index_or}
use Rattle.access_rules.specs.declared.key_set.KeySet.{KeySet}

unfoldable pub has : KeySet → ℕ → Bool
has set key = slice_index_or set.keys key false
