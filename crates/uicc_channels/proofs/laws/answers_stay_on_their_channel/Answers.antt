use Rattle.uicc_channels.proofs.SessionLemmas.{channel_at-waiting, channel_at-waiting_same}
use Rattle.uicc_channels.proofs.SessionLemmas.{refresh-waiting, session-waiting, verified-waiting}
use Rattle.uicc_channels.proofs.laws.answers_stay_on_their_channel.Goals as goal

pub returns-clause-waits : goal.returns-clause-waits
returns-clause-waits c session command body chan e found = channel_at-waiting_same command.le session command.channel body chan e found

pub returns-clause-given : goal.returns-clause-given
returns-clause-given c session command body given = session-waiting command.le session command.channel body given

pub returns-clause-others : goal.returns-clause-others
returns-clause-others c session command body number apart = channel_at-waiting command.le session command.channel number body apart

pub returns-clause-verified : goal.returns-clause-verified
returns-clause-verified c session command body = verified-waiting command.le session command.channel body

pub returns-clause-refresh : goal.returns-clause-refresh
returns-clause-refresh c session command body = refresh-waiting command.le session command.channel body
