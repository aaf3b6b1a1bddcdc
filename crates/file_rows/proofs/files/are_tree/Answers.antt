use Rattle.std.proofs.Common.{◌≢◌, List, sym, ◌∙◌, subst}
use Rattle.std.proofs.lemmas.Bool.{false≢true}
use Rattle.std.specs.List.{AllByRecursion}
use Rattle.file_rows.specs.declared.head.Kind.TheVariants.{Master}
use Rattle.file_rows.specs.declared.row.FileRow.{FileRow}
use Rattle.file_rows.proofs.EachLemmas.{fails, take_rest}
use Rattle.file_rows.proofs.FilesLemmas.{root_and_rest, root_of}
use Rattle.file_rows.proofs.files.are_tree.Goals as goal
use Rattle.file_rows.proofs.files.are_tree.Goals.{then-is_root, else-is_root}

abbrev HaveNoRoot : List FileRow → Type 0
HaveNoRoot rows = AllByRecursion (λ row. row.head.kind ≢ Master) rows

pub returns-then-have_no_root : goal.returns-then-have_no_root
returns-then-have_no_root c =
    elim c.if-is_root.branch [
      | then-is_root w ↦
          root_and_rest c.args.rows.now c.first-item.result c.stand_in_earlier.result c.in-len1-up.len_at_least c.first-item.is (c.is_root.ensures.0 w.if-is_root.true)
          (subst HaveNoRoot (take_rest c.args.rows.now 1) (w.have_no_root.ensures.0 (sym w.value-is ∙ c.if-have_no_root.true))) c.stand_in_earlier.ensures
      | else-is_root w ↦ absurd (false≢true (sym w.if-is_root.false ∙ sym w.value-is ∙ c.if-have_no_root.true))
    ]

pub returns-else-have_no_root : goal.returns-else-have_no_root
returns-else-have_no_root c =
    elim c.if-is_root.branch [
      | then-is_root w ↦ fails c.if-is_root.value c.if-have_no_root.false
          (λ tree. false≢true (sym (sym w.value-is ∙ c.if-have_no_root.false)
          ∙ w.have_no_root.ensures.1 (subst HaveNoRoot (sym (take_rest c.args.rows.now 1)) (root_of c.args.rows.now c.first-item.result c.first-item.is tree).1)))
      | else-is_root w ↦ fails c.if-is_root.value c.if-have_no_root.false
          (λ tree. false≢true (sym w.if-is_root.false ∙ c.is_root.ensures.1 (root_of c.args.rows.now c.first-item.result c.first-item.is tree).0))
    ]
