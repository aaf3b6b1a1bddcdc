use Rattle.package_reader.proofs.MoreComes.{stays}
use Rattle.package_reader.proofs.laws.parts_stay_as_more_comes.Goals as goal

pub returns : goal.returns
returns c = stays
