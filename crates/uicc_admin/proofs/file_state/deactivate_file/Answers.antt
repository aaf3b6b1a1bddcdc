use Rattle.apdu_codec.specs.Command.{apdu_of}
use Rattle.uicc_tree.specs.Files.{rows_of}
use Rattle.uicc_admin.specs.FileState.{deactivate_row}
use Rattle.uicc_admin.proofs.file_state.deactivate_file.Goals as goal

pub returns : goal.returns
returns g c allowed answers =
    c.conclude.ensures c.args.session.now (deactivate_row (rows_of c.args.tree.now) allowed c.args.session.now (apdu_of c.args.command.now)) (c.try_change-outcome.ensures allowed answers)
