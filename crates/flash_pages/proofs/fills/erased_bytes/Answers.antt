use Rattle.std.proofs.Common.{rules}
use Rattle.flash_pages.specs.Bytes.{blank}
use Rattle.flash_pages.proofs.fills.erased_bytes.Goals as goal

pub returns : goal.returns
unfolding blank
returns c = search rules
