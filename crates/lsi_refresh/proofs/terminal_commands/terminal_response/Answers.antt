use Rattle.apdu_codec.specs.Command.{apdu_of}
use Rattle.lsi_refresh.specs.TerminalResponse.{terminal_response_row}
use Rattle.lsi_refresh.proofs.terminal_commands.terminal_response.Goals as goal

pub returns : goal.returns
returns c = c.conclude.ensures c.args.session.now (terminal_response_row c.args.session.now (apdu_of c.args.command.now)) c.try_respond-outcome.ensures
