use Rattle.std.proofs.Common.{◌≡◌, ◌+◌, take}
use Rattle.std.specs.List.{sum_by}
use Rattle.card_core.specs.Run.{package_bytes}
use Rattle.card_core.proofs.event_check.bring_few_bytes.Given as goal

abbrev pub invariant-loop-event : goal.invariant-loop-event
invariant-loop-event l =
    l.left + sum_by package_bytes (take l.event-index l.events) ≡ 4294967295
