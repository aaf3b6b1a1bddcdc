use Rattle.std.proofs.Common.{length, ap, ◌∙◌}
use Rattle.flash_pages.proofs.Patches.{length-blank}
use Rattle.flash_pages.proofs.memory.MemoryFlash.new.Goals as goal

pub starting-requires-clause-size : goal.starting-requires-clause-size
starting-requires-clause-size c = ap length c.in_ok-bytes.ensures ∙ length-blank 9965568
