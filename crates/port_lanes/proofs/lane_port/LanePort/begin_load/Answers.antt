use Rattle.std.proofs.Common.{◌≤◌, ◌∙◌, ap, subst, sym, Option}
use Rattle.isdr_codec.specs.Metadata.{metadata_of}
use Rattle.card_core.specs.LoadState.{LoadState}
use Rattle.card_core.specs.PortState.{PortState}
use Rattle.port_lanes.proofs.ComingLemmas.{begun_bytes}
use Rattle.port_lanes.specs.Lane.{bytes_of_load}
use Rattle.port_lanes.specs.declared.lane_port.LanePort.{LanePort}
use Rattle.port_lanes.proofs.lane_port.LanePort.begin_load.Goals as goal

pub returns-clause-load : goal.returns-clause-load
returns-clause-load c =
    subst (λ (its : Option LoadState). bytes_of_load its
    ≤ bytes_of_load c.args.self.now.port.load)
    (sym (ap (λ (one : LanePort). one.port.load) c.tell.ensures.rest
    ∙ ap (λ (one : PortState). one.load) c.begin_load-outcome.ensures.state))
    (begun_bytes c.args.self.now.port.load (metadata_of c.args.metadata.now))
