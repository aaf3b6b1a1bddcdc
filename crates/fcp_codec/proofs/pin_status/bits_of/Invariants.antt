use Rattle.std.proofs.Common.{◌≡◌, ◌+◌, ◌*◌, ◌≤◌, ◌^◌, drop}
use Rattle.fcp_codec.specs.PinStatus.{bits_of}
use Rattle.fcp_codec.proofs.pin_status.bits_of.Given as goal

-- the bits so far, and those to come, which lie below
abbrev pub invariant-loop-status : goal.invariant-loop-status
invariant-loop-status l =
    (l.bits + bits_of l.bit (drop l.status-index l.statuses) ≡ bits_of (2 ^ 31) l.statuses) × (l.bits + 2 * l.bit ≤ 2 ^ 32)
