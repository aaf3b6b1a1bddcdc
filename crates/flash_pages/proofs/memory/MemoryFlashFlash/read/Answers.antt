use Rattle.flash_pages.proofs.MemoryCalls.{Reads-memory}
use Rattle.flash_pages.proofs.memory.MemoryFlashFlash.read.Goals as goal

pub returns-then-begin_read-clause-reads : goal.returns-then-begin_read-clause-reads
returns-then-begin_read-clause-reads c =
    let old = c.args.self.now in
    Reads-memory old.history.past old.bytes.items _ _ _ _ old.replays c.begin_read.ensures.count

pub returns-else-begin_read-clause-reads : goal.returns-else-begin_read-clause-reads
returns-else-begin_read-clause-reads c =
    let old = c.args.self.now in
    Reads-memory old.history.past old.bytes.items _ _ _ _ old.replays c.begin_read.ensures.count
