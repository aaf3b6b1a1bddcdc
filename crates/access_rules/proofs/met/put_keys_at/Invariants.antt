use Rattle.std.proofs.Common.{◌≡◌, ◌≤◌, ℕ, length, drop}
use Rattle.std.specs.Prelude.{option_map, unwrap_or}
use Rattle.access_rules.specs.KeySet.{has}
use Rattle.access_rules.specs.Met.{counts, pin_at}
use Rattle.file_rows.specs.PinRow.{is_verified}
use Rattle.access_rules.proofs.met.put_keys_at.Given as goal

abbrev pub invariant-loop-left : goal.invariant-loop-left
invariant-loop-left l = (l.left ≤ length l.pins)
    × ((key : ℕ) → has l.keys key ≡ unwrap_or (option_map (counts (is_verified l.verified)) (pin_at (drop l.left l.pins) key l.home)) (has l.initial.keys key))

abbrev pub decreases-loop-left : goal.decreases-loop-left
decreases-loop-left l = l.left
