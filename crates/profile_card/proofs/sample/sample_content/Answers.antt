use Rattle.profile_card.proofs.SampleLemmas.{use_of-sample}
use Rattle.profile_card.proofs.sample.sample_content.Goals as goal

pub returns-clause-quota : goal.returns-clause-quota
returns-clause-quota c = rw (c.from.ensures, c.in_ok-rows.ensures) use_of-sample
