use Rattle.apdu_codec.specs.Command.{apdu_of}
use Rattle.lsi_refresh.specs.Fetch.{fetch_row}
use Rattle.lsi_refresh.proofs.fetch_command.fetch.Goals as goal

pub returns : goal.returns
returns c = c.conclude.ensures c.args.session.now (fetch_row c.args.session.now (apdu_of c.args.command.now)) c.try_fetch-outcome.ensures
