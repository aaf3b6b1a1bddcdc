use Rattle.profile_install.proofs.OneIccid.{one_iccid}
use Rattle.profile_install.proofs.laws.packages_are_for_one_iccid.Goals as goal

pub returns : goal.returns
returns c = one_iccid
