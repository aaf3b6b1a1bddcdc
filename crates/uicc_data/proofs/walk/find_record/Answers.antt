use Rattle.uicc_tree.specs.Files.{file_of}
use Rattle.uicc_data.proofs.RecordLemmas.{record_there}
use Rattle.uicc_data.proofs.walk.find_record.Goals as goal

pub returns-clause-there : goal.returns-clause-there
returns-clause-there c =
    rw (c.number_named.ensures, c.is_cyclic-goes_round.ensures, c.record_count.ensures.value, c.head.ensures)
    (record_there (file_of c.args.tree.now c.args.node) c.args.pointer c.args.name c.record_count.ensures.whole c.requires.pointer)
