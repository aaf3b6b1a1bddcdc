use Rattle.card_core.proofs.AloneRunLemmas.{steps_durable}
use Rattle.card_core.proofs.MergeRunLemmas.{opened_loads, runs_as_merged}
use Rattle.card_core.proofs.SoundLemmas.{opened_sound}
use Rattle.card_core.proofs.merge_laws.runs_may_be_made_in_the_order_of_their_merge.Goals as goal
use Rattle.card_core.specs.World.{opened}

pub returns : goal.returns
returns c phases start events steps after are on small come made =
    runs_as_merged phases start events steps after are on come made
    (steps_durable events (opened start) steps after (opened_sound start are) (opened_loads start)
    on small made)
