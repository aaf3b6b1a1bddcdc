use Rattle.std.proofs.Common.{refl}
use Rattle.uicc_channels.proofs.ChannelLemmas.{opening-alone}
use Rattle.uicc_channels.proofs.ManageLemmas.{manage-has}
use Rattle.uicc_channels.proofs.ResponseLemmas.{response-has}
use Rattle.uicc_channels.specs.ChannelLaws.{ChangesChannelsAlone}
use Rattle.uicc_channels.proofs.channel_laws.channel_commands_change_channels_alone.Goals as goal

pub returns-clause-manage_channel : goal.returns-clause-manage_channel
returns-clause-manage_channel c session command =
    manage-has (ChangesChannelsAlone session) session command (λ sw. (refl, refl)) (λ number opens. opening-alone session command number) (λ closes. (refl, refl))

pub returns-clause-get_response : goal.returns-clause-get_response
returns-clause-get_response c session command =
    response-has (ChangesChannelsAlone session) session command (λ sw. (refl, refl)) (λ le is_open. (refl, refl))
