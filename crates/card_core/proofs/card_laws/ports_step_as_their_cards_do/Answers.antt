use Rattle.card_core.proofs.CardStepLemmas.{foreign_steps, own_steps, power_steps, reset_steps}
use Rattle.card_core.proofs.card_laws.ports_step_as_their_cards_do.Goals as goal

pub returns-clause-own : goal.returns-clause-own
returns-clause-own c state port bytes command below sound spelled =
    own_steps state port below bytes command sound spelled

pub returns-clause-reset : goal.returns-clause-reset
returns-clause-reset c state port below = reset_steps state port below

pub returns-clause-foreign : goal.returns-clause-foreign
returns-clause-foreign c state came port below = foreign_steps state port below came

pub returns-clause-power : goal.returns-clause-power
returns-clause-power c state port = power_steps state port
