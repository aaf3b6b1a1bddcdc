use Rattle.apdu_codec.specs.Command.{apdu_of}
use Rattle.uicc_channels.specs.ManageChannel.{manage_channel_row}
use Rattle.uicc_channels.proofs.manage_channel_command.manage_channel.Goals as goal

pub returns : goal.returns
returns c = c.conclude.ensures c.args.session.now (manage_channel_row c.args.session.now (apdu_of c.args.command.now)) c.try_manage-outcome.ensures
