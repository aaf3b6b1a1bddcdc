use Rattle.std.proofs.Common.{◌≡◌}
use Rattle.file_rows.specs.Content.{IsValid}
use Rattle.uicc_tree.specs.Files.{rows_of}
use Rattle.uicc_tree.proofs.tests.reuse.go_and_come.Given as goal

abbrev pub invariant-loop-entry : goal.invariant-loop-entry
invariant-loop-entry g l = (rows_of l.tree ≡ l.content.rows) × IsValid l.content
