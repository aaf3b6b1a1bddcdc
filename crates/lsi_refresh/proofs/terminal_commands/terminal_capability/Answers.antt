use Rattle.apdu_codec.specs.Command.{apdu_of}
use Rattle.lsi_refresh.specs.TerminalCapability.{terminal_capability_row}
use Rattle.lsi_refresh.proofs.terminal_commands.terminal_capability.Goals as goal

pub returns : goal.returns
returns c = c.conclude.ensures c.args.session.now (terminal_capability_row c.args.session.now (apdu_of c.args.command.now)) c.try_take-outcome.ensures
