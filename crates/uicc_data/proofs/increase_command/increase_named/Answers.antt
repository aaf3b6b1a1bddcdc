use Rattle.uicc_tree.specs.Files.{file_of}
use Rattle.uicc_data.proofs.RecordLemmas.{first_record, live_is_row}
use Rattle.uicc_data.proofs.increase_command.increase_named.Goals as goal

pub record_bytes-number-requires-clause-there : goal.record_bytes-number-requires-clause-there
record_bytes-number-requires-clause-there c =
    (first_record (file_of c.args.tree.now c.args.node) (live_is_row c.args.tree.now c.args.node c.requires.files c.requires.live) c.requires.kind).1
