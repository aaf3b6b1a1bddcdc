use Rattle.std.proofs.Common.{◌≡◌, ℕ, take}
use Rattle.access_rules.specs.KeySet.{has}
use Rattle.access_rules.specs.Met.{met}
use Rattle.file_rows.specs.PinRow.{is_verified}
use Rattle.access_rules.proofs.met.met_keys.Given as goal

abbrev pub invariant-loop-depth : goal.invariant-loop-depth
invariant-loop-depth l = (key : ℕ) → has l.keys key ≡ met l.pins (is_verified l.verified) (take l.depth l.directory) key
