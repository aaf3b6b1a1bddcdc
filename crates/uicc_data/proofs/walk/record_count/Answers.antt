use Rattle.uicc_tree.specs.Files.{file_of}
use Rattle.uicc_data.proofs.RecordLemmas.{live_is_row, whole_records}
use Rattle.uicc_data.specs.RecordWalk.{HoldsWholeRecords}
use Rattle.uicc_data.proofs.walk.record_count.Goals as goal

pub count-requires-clause-some : goal.count-requires-clause-some
count-requires-clause-some c =
    let whole : HoldsWholeRecords (file_of c.args.tree.now c.args.node) =
    whole_records (file_of c.args.tree.now c.args.node) (live_is_row c.args.tree.now c.args.node c.requires.files c.requires.live) c.requires.kind in
    rw c.head-head.ensures whole.some

pub count-requires-clause-few : goal.count-requires-clause-few
count-requires-clause-few c =
    let whole : HoldsWholeRecords (file_of c.args.tree.now c.args.node) =
    whole_records (file_of c.args.tree.now c.args.node) (live_is_row c.args.tree.now c.args.node c.requires.files c.requires.live) c.requires.kind in
    rw c.head-head.ensures whole.last

pub returns-clause-whole : goal.returns-clause-whole
returns-clause-whole c =
    whole_records (file_of c.args.tree.now c.args.node) (live_is_row c.args.tree.now c.args.node c.requires.files c.requires.live) c.requires.kind
