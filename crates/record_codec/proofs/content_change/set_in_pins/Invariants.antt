use Rattle.std.proofs.Common.{◌≡◌, cond, nat_eq}
use Rattle.plain_lists.proofs.MappedLemmas.{mapped_to}
use Rattle.record_codec.proofs.content_change.set_in_pins.Given as goal

abbrev pub invariant-loop-pin : goal.invariant-loop-pin
invariant-loop-pin l = l.pins ≡ mapped_to (λ pin. cond (nat_eq pin.number l.set.number) l.set pin) l.pin-index l.initial.pins
