use Rattle.std.proofs.Common.{◌≡◌, ◌+◌, ◌*◌, ◌≤◌, ◌++◌, length, map, drop}
use Rattle.ber_tlv.specs.Walk.{spelled}
use Rattle.fcp_codec.specs.PinStatus.{key_object}
use Rattle.fcp_codec.proofs.pin_status.push_keys.Given as goal

-- the keys so far, and room for those to come
abbrev pub invariant-loop-status : goal.invariant-loop-status
invariant-loop-status l =
    (l.template.items ++ spelled (map key_object (drop l.status-index l.statuses)) ≡ l.fn.template.items ++ spelled (map key_object l.statuses))
    × (length l.template.items + 3 * length (drop l.status-index l.statuses) ≤ 71)
