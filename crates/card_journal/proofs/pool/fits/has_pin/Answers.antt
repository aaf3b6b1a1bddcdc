use Rattle.std.proofs.Common.{sym, ◌∙◌}
use Rattle.std.proofs.lemmas.Bool.{false≢true}
use Rattle.file_rows.specs.Change.{KeepsPin}
use Rattle.file_rows.proofs.ListLemmas.{any_rest}
use Rattle.card_journal.proofs.pool.fits.has_pin.Goals as goal

pub loop-pin-preserved : goal.loop-pin-preserved
loop-pin-preserved c =
    any_rest (λ pin. KeepsPin pin c.args.set.now) c.args.pins.now c.loop-pin.pin-index
    c.pin-item.result c.loop-pin-test.true c.pin-item.is c.loop-pin.invariant
    (λ keeps. false≢true (sym c.if-keeps_pin.false ∙ c.keeps_pin.ensures.1 keeps))
