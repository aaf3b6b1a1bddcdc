use Rattle.apdu_codec.proofs.MeaningLemmas.{Spells-decided, Spells-once}
use Rattle.apdu_codec.proofs.laws.bytes_have_one_meaning.Goals as goal

pub returns-clause-once : goal.returns-clause-once
returns-clause-once c = Spells-once

pub returns-clause-decided : goal.returns-clause-decided
returns-clause-decided c = Spells-decided
