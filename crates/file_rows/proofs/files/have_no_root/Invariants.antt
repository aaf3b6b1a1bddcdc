use Rattle.std.proofs.Common.{◌≢◌, ◌↔◌, drop}
use Rattle.std.specs.List.{AllByRecursion}
use Rattle.file_rows.specs.declared.head.Kind.TheVariants.{Master}
use Rattle.file_rows.proofs.files.have_no_root.Given as goal

abbrev pub invariant-loop-row : goal.invariant-loop-row
invariant-loop-row l =
    AllByRecursion (λ row. row.head.kind ≢ Master) (drop l.row-index l.rows) ↔ AllByRecursion (λ row. row.head.kind ≢ Master) l.rows
