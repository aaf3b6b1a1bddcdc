use Rattle.apdu_codec.specs.Command.{apdu_of}
use Rattle.uicc_tree.specs.Files.{rows_of}
use Rattle.uicc_data.specs.Record.{read_record_row}
use Rattle.uicc_data.proofs.record_read.read_record.Goals as goal

pub returns : goal.returns
returns g c allowed answers =
    c.conclude.ensures c.args.session.now (read_record_row (rows_of c.args.tree.now) allowed c.args.session.now (apdu_of c.args.command.now)) (c.try_read_record-outcome.ensures allowed answers)
