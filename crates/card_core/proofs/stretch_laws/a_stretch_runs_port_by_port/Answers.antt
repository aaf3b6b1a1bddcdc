use Rattle.std.proofs.Common.{◌≡◌, ◌<◌, length, refl, arith}
use Rattle.card_core.proofs.StretchRunLemmas.{stretch_goes}
use Rattle.card_core.proofs.stretch_laws.a_stretch_runs_port_by_port.Goals as goal

pub returns-clause-here : goal.returns-clause-here
returns-clause-here c port start events steps after sound below on are stretch =
    let same : length start.ports ≡ start.durable.heads.ports.count = sound.count in
    let within : port < length start.ports = omega (arith, below, same) in
    stretch_goes port events start start steps after sound on are stretch within within refl

pub returns-clause-anywhere : goal.returns-clause-anywhere
returns-clause-anywhere c port start other events steps after sound below within same on are
    stretch =
    (stretch_goes port events start other steps after sound on are stretch below within same).0
