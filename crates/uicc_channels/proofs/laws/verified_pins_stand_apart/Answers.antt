use Rattle.uicc_channels.proofs.VerifiedLemmas.{is_verified-with_pin_other}
use Rattle.uicc_channels.proofs.VerifiedLemmas.{is_verified-with_pin_same}
use Rattle.uicc_channels.proofs.laws.verified_pins_stand_apart.Goals as goal

pub returns-clause-same : goal.returns-clause-same
returns-clause-same c = is_verified-with_pin_same

pub returns-clause-others : goal.returns-clause-others
returns-clause-others c = is_verified-with_pin_other
