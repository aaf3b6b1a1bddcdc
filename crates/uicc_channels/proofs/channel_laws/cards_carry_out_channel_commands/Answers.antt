use Rattle.uicc_channels.proofs.CarryLemmas.{CanCarryOut-get_response, CanCarryOut-manage_channel}
use Rattle.uicc_channels.proofs.channel_laws.cards_carry_out_channel_commands.Goals as goal

pub returns-clause-manage_channel : goal.returns-clause-manage_channel
returns-clause-manage_channel c content session command valid suits = CanCarryOut-manage_channel content session command valid suits

pub returns-clause-get_response : goal.returns-clause-get_response
returns-clause-get_response c content session command suits = CanCarryOut-get_response content session command suits
