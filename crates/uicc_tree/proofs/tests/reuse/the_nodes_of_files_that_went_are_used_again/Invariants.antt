use Rattle.std.proofs.Common.{◌≡◌}
use Rattle.file_rows.specs.Content.{IsValid}
use Rattle.uicc_tree.specs.Files.{rows_of}
use Rattle.uicc_tree.proofs.tests.reuse.the_nodes_of_files_that_went_are_used_again.Given as goal

abbrev pub invariant-loop-round : goal.invariant-loop-round
invariant-loop-round g l = (rows_of l.tree ≡ l.content.rows) × IsValid l.content
