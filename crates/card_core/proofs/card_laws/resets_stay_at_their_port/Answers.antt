use Rattle.std.proofs.Common.{◌∙◌, ap, refl}
use Rattle.card_core.proofs.SeenLemmas.{seen_alike}
use Rattle.card_core.proofs.StayLemmas.{other_port}
use Rattle.card_core.specs.ManageLsi.{counted_at}
use Rattle.card_core.specs.PortState.{PortState, counted}
use Rattle.card_core.specs.World.{card_on, port_in}
use Rattle.card_core.proofs.card_laws.resets_stay_at_their_port.Goals as goal

pub returns-clause-own : goal.returns-clause-own
returns-clause-own c state port other apart =
    ap (λ (its : PortState). card_on state.durable other its.session)
    (other_port state.ports port other _ apart)

pub returns-clause-foreign : goal.returns-clause-foreign
returns-clause-foreign c state came port other apart =
    ap (λ (its : PortState). card_on state.durable other its.session)
    (other_port (counted_at state came).ports port other _ apart)
    ∙ ap (card_on state.durable other) (seen_alike (λ its. its.session) state.ports came other
    (counted (port_in state came)) refl)
