use Rattle.std.specs.Prelude.{false, None}
use Rattle.uicc_channels.proofs.SessionLemmas.{Suits-fresh_session}
use Rattle.profile_card.proofs.tests.start.Goals as goal

pub start-requires-clause-suits : goal.start-requires-clause-suits
start-requires-clause-suits c = rw c.fresh.ensures (Suits-fresh_session c.args.content.now false None c.requires)
