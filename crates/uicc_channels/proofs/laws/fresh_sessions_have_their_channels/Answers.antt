use Rattle.uicc_channels.proofs.SessionLemmas.{channel_at-fresh_basic, channel_at-fresh_closed}
use Rattle.uicc_channels.proofs.SessionLemmas.{channel_at-fresh_kept}
use Rattle.uicc_channels.proofs.laws.fresh_sessions_have_their_channels.Goals as goal

pub returns-clause-kept : goal.returns-clause-kept
returns-clause-kept c = channel_at-fresh_kept

pub returns-clause-basic : goal.returns-clause-basic
returns-clause-basic c = channel_at-fresh_basic

pub returns-clause-closed : goal.returns-clause-closed
returns-clause-closed c = channel_at-fresh_closed
