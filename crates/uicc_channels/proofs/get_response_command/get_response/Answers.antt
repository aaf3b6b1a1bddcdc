use Rattle.apdu_codec.specs.Command.{apdu_of}
use Rattle.uicc_channels.specs.GetResponse.{get_response_row}
use Rattle.uicc_channels.proofs.get_response_command.get_response.Goals as goal

pub returns : goal.returns
returns c = c.conclude.ensures c.args.session.now (get_response_row c.args.session.now (apdu_of c.args.command.now)) c.try_give-outcome.ensures
