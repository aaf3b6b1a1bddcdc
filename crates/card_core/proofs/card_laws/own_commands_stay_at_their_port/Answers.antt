use Rattle.profile_card.specs.Commands.{decision}
use Rattle.card_core.proofs.CardStepLemmas.{own_elsewhere}
use Rattle.card_core.proofs.StayLemmas.{held_elsewhere, other_port}
use Rattle.card_core.specs.OwnCommand.{port_after}
use Rattle.card_core.specs.World.{card_in, port_in}
use Rattle.card_core.proofs.card_laws.own_commands_stay_at_their_port.Goals as goal

pub returns-clause-ports : goal.returns-clause-ports
returns-clause-ports c state port other command apart =
    other_port state.ports port other
    (port_after (port_in state port) command (decision (card_in state port) command)) apart

pub returns-clause-cards : goal.returns-clause-cards
returns-clause-cards c state port other command are apart =
    own_elsewhere state port other command are apart

pub returns-clause-profiles : goal.returns-clause-profiles
returns-clause-profiles c state port profile command are apart =
    held_elsewhere state.durable are port (decision (card_in state port) command).change profile
    apart
