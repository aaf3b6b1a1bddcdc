use Rattle.std.proofs.Common.{Bool, true, false, sym, ap, ◌∙◌}
use Rattle.std.specs.Bool.{OnTrue}
use Rattle.flash_pages.specs.Bytes.{blank}
use Rattle.flash_pages.proofs.Patches.{blank_from_each}
use Rattle.flash_pages.proofs.Touched.{at_some, from_each}
use Rattle.flash_pages.proofs.tests.is_blank.Goals as goal

on_true : (b : Bool) (P Q : Type 0) → OnTrue b P → (P → Q) → OnTrue b Q
on_true true P Q holds from = from holds
on_true false P Q holds from = tt

pub returns-in-Ok : goal.returns-in-Ok
returns-in-Ok g c =
    on_true c.all_erased.result _ _ c.all_erased.ensures (λ each. from_each _ _ (λ bytes is.
    let read = at_some _ _ bytes (sym c.read.ensures.reads.bytes ∙ is) c.in-Ok.ensures.bytes in
    sym read ∙ blank_from_each c.read.new.buf each ∙ ap blank c.read.auto.buf))
