use Rattle.std.proofs.Common.{◌↔◌, drop}
use Rattle.std.specs.Prelude.{Any}
use Rattle.file_rows.specs.Change.{KeepsPin}
use Rattle.card_journal.proofs.pool.fits.has_pin.Given as goal

abbrev pub invariant-loop-pin : goal.invariant-loop-pin
invariant-loop-pin l =
    Any (λ pin. KeepsPin pin l.set) (drop l.pin-index l.pins)
    ↔ Any (λ pin. KeepsPin pin l.set) l.pins
