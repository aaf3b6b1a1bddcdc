use Rattle.std.proofs.Common.{◌≡◌}
use Rattle.file_rows.specs.Content.{IsValid}
use Rattle.uicc_tree.specs.Files.{rows_of}
use Rattle.uicc_tree.proofs.tests.random.a_tree_and_a_plain_content_change_alike.Given as goal

abbrev pub invariant-changes : goal.invariant-changes
invariant-changes g l = (rows_of l.tree ≡ l.content.rows) × IsValid l.content
