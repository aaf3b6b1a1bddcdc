use Rattle.uicc_tree.specs.Change.{IsRow}
use Rattle.uicc_tree.specs.Files.{file_of}
use Rattle.uicc_data.proofs.RecordLemmas.{live_is_row}
use Rattle.uicc_data.proofs.walk.record_bytes.Goals as goal

pub record_of-requires-clause-last : goal.record_of-requires-clause-last
record_of-requires-clause-last c =
    let is : IsRow (file_of c.args.tree.now c.args.node) = live_is_row c.args.tree.now c.args.node c.requires.files c.requires.live in
    rw (c.head.ensures, c.bytes.ensures, is.body) c.requires.there.last
