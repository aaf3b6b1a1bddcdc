use Rattle.flash_pages.proofs.Throughout.{restart_settled}
use Rattle.flash_pages.proofs.laws.settled_stays.Goals as goal

pub returns : goal.returns
returns g c = λ result restarts settled. restart_settled _ _ result restarts settled
