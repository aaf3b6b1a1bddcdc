use Rattle.std.proofs.Common.{sym, subst}
use Rattle.std.specs.Prelude.{false, None}
use Rattle.file_rows.specs.Content.{IsValid}
use Rattle.uicc_channels.proofs.SessionLemmas.{Suits-fresh_session}
use Rattle.profile_card.proofs.SampleLemmas.{IsValid-sample}
use Rattle.profile_card.specs.Sample.{sample}
use Rattle.profile_card.proofs.sample.sample_card.Goals as goal

pub start-requires-clause-valid : goal.start-requires-clause-valid
start-requires-clause-valid c = subst IsValid (sym c.in_ok-content.ensures.content) IsValid-sample

pub start-requires-clause-suits : goal.start-requires-clause-suits
start-requires-clause-suits c =
    rw (c.fresh.ensures, c.in_ok-content.ensures.content) (Suits-fresh_session sample false None IsValid-sample)
