use Rattle.flash_pages.proofs.Unique.{unique}
use Rattle.flash_pages.proofs.laws.rows_are_unique.Goals as goal

pub returns : goal.returns
returns c = unique
