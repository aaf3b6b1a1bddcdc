use Rattle.std.proofs.Common.{ap, sym}
use Rattle.profile_install.specs.BuilderState.{BuilderState}
use Rattle.card_core.proofs.MetadataLemmas.{good_metadata}
use Rattle.card_core.proofs.load.Load.begin.Goals as goal

pub invariant_of-result : goal.invariant_of-result
invariant_of-result c = (
  good_metadata c.args.metadata.now c.in_ok-head.head (sym c.in_ok-head.ensures),
  ap (λ (its : BuilderState). its.iccid) c.new-builder.ensures,
)
