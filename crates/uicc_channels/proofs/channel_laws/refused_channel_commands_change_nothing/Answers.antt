use Rattle.std.proofs.Common.{◌≡◌, drop, refl}
use Rattle.uicc_channels.proofs.ChannelLemmas.{answered-accepted, rest_status-accepted}
use Rattle.uicc_channels.proofs.ManageLemmas.{manage-has}
use Rattle.uicc_channels.proofs.ResponseLemmas.{response-has}
use Rattle.uicc_channels.specs.ChannelLaws.{IsRefusal}
use Rattle.uicc_channels.specs.CommandOutcome.{CommandOutcome, refused}
use Rattle.uicc_channels.specs.Session.{open_channel}
use Rattle.uicc_channels.proofs.channel_laws.refused_channel_commands_change_nothing.Goals as goal

pub returns-clause-manage_channel : goal.returns-clause-manage_channel
returns-clause-manage_channel c session command =
    manage-has (λ (outcome : CommandOutcome). IsRefusal outcome.answer.sw → outcome ≡ refused session outcome.answer.sw) session command
    (λ sw refuses. refl)
    (λ number opens refuses. absurd (answered-accepted command.le _ opens.le refuses))
    (λ closes refuses. absurd (refuses.0 refl))

pub returns-clause-get_response : goal.returns-clause-get_response
returns-clause-get_response c session command =
    response-has (λ (outcome : CommandOutcome). IsRefusal outcome.answer.sw → outcome ≡ refused session outcome.answer.sw) session command
    (λ sw refuses. refl)
    (λ le is_open refuses. absurd (rest_status-accepted (drop le (open_channel session command.channel).pending) refuses))
