use Rattle.flash_pages.proofs.Patches.{part_outside}
use Rattle.flash_pages.proofs.laws.parts_outside_stay.Goals as goal

pub returns : goal.returns
returns c = part_outside
