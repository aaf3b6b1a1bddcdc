use Rattle.std.proofs.Common.{sym, ◌∙◌}
use Rattle.std.proofs.lemmas.Bool.{false≢true}
use Rattle.file_rows.proofs.EachLemmas.{fails}
use Rattle.file_rows.proofs.FilesLemmas.{apart_of, files_of_parts, formed_of}
use Rattle.file_rows.proofs.files.are_files.Goals as goal
use Rattle.file_rows.proofs.files.are_files.Goals.{then-are_tree, else-are_tree}

pub returns-then-are_formed : goal.returns-then-are_formed
returns-then-are_formed c =
    elim c.if-are_tree.branch [
      | then-are_tree w ↦ (
        λ e. files_of_parts c.args.rows.now (c.are_tree.ensures.0 w.if-are_tree.true) (w.are_formed.ensures.0 (sym w.value-is ∙ c.if-are_formed.true)) (c.are_apart.ensures.0 e),
        λ files. c.are_apart.ensures.1 (apart_of c.args.rows.now files),
      )
      | else-are_tree w ↦ absurd (false≢true (sym w.if-are_tree.false ∙ sym w.value-is ∙ c.if-are_formed.true))
    ]

pub returns-else-are_formed : goal.returns-else-are_formed
returns-else-are_formed c =
    elim c.if-are_tree.branch [
      | then-are_tree w ↦ fails c.if-are_tree.value c.if-are_formed.false
          (λ files. false≢true (sym (sym w.value-is ∙ c.if-are_formed.false) ∙ w.are_formed.ensures.1 (formed_of c.args.rows.now files)))
      | else-are_tree w ↦ fails c.if-are_tree.value c.if-are_formed.false
          (λ files. false≢true (sym w.if-are_tree.false ∙ c.are_tree.ensures.1 files.tree))
    ]
