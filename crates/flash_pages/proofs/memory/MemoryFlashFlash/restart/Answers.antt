use Rattle.std.proofs.Common.{ℕ, Ok, sym, ap, subst}
use Rattle.port_io.specs.declared.source.Failed.{Failed}
use Rattle.flash_pages.specs.Flash.{Restarts}
use Rattle.flash_pages.specs.Past.{memory_state}
use Rattle.flash_pages.specs.Plan.{Plan}
use Rattle.flash_pages.proofs.MemoryCalls.{Restarts-memory}
use Rattle.flash_pages.proofs.memory.MemoryFlashFlash.restart.Goals as goal

pub returns-clause-restarts : goal.returns-clause-restarts
returns-clause-restarts c =
    let old = c.args.self.now in
    let past = old.history.past in
    let bytes = old.bytes.items in
    let before = memory_state past bytes old.programmed old.erased old.power.faults in
    subst
    (λ (faults : ℕ). Restarts {E = Failed} before
    (memory_state c.keep.new.self.past bytes old.programmed old.erased faults) (Ok tt))
    (sym (ap (λ (p : Plan). p.faults) c.restart.ensures))
    (Restarts-memory {E = Failed} past c.keep.new.self.past bytes old.programmed old.erased
    old.power.faults (Ok tt)
    c.keep.ensures.past old.replays)
