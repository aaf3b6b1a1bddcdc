use Rattle.std.proofs.Common.{◌≡◌, ◌≤◌, ◌++◌, length, drop}
use Rattle.std.specs.List.{filter_map}
use Rattle.fcp_codec.specs.PinStatus.{status_of}
use Rattle.fcp_codec.proofs.pin_status.statuses_at.Given as goal

-- the statuses at the keys so far, at most one each
abbrev pub invariant-loop-key : goal.invariant-loop-key
invariant-loop-key l =
    (l.statuses ++ filter_map (status_of l.path l.pins) (drop l.key-index l.keys) ≡ filter_map (status_of l.path l.pins) l.keys) × (length l.statuses ≤ l.key-index)
