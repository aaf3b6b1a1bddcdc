use Rattle.std.proofs.Common.{subst}
use Rattle.file_rows.specs.declared.change.Change.{Change}
use Rattle.uicc_tree.specs.Change.{FitsFiles}
use Rattle.uicc_tree.proofs.ApplyLemmas.{fits_directory}
use Rattle.uicc_tree.proofs.tree.Tree.reserve.Goals as goal

pub reserve_file-requires : goal.reserve_file-requires
reserve_file-requires c =
    fits_directory c.args.self.now c.in-FileAdd.head (subst (λ (change : Change). FitsFiles c.args.self.now change) c.in-FileAdd.is c.requires)
