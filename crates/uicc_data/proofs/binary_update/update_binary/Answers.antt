use Rattle.apdu_codec.specs.Command.{apdu_of}
use Rattle.uicc_tree.specs.Files.{rows_of}
use Rattle.uicc_data.specs.Binary.{update_binary_row}
use Rattle.uicc_data.proofs.binary_update.update_binary.Goals as goal

pub returns : goal.returns
returns g c allowed answers =
    c.conclude.ensures c.args.session.now (update_binary_row (rows_of c.args.tree.now) allowed c.args.session.now (apdu_of c.args.command.now)) (c.try_update_binary-outcome.ensures allowed answers)
