use Rattle.std.proofs.Common.{◌≡◌, drop}
use Rattle.record_codec.specs.Gone.{unbound_each}
use Rattle.record_codec.proofs.effect.unbind_each.Given as goal

abbrev pub invariant-loop-number : goal.invariant-loop-number
invariant-loop-number l = unbound_each (drop l.number-index l.number-items) l.ports ≡ unbound_each l.numbers l.initial.ports
