use Rattle.std.proofs.Common.{◌≡◌, ◌<◌, ℕ, get_or}
use Rattle.flash_pages.specs.Bytes.{torn_byte}
use Rattle.flash_pages.proofs.fills.repeat.Given as goal

abbrev pub invariant-bytes : goal.invariant-bytes
invariant-bytes l = (k : ℕ) → k < l.place → get_or l.range k 0 ≡ torn_byte l.torn k
