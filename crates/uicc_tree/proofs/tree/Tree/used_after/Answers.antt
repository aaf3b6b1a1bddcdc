use Rattle.std.proofs.Common.{sym, ◌∙◌, ap, subst}
use Rattle.file_rows.specs.Content.{use_of}
use Rattle.uicc_tree.specs.Change.{FitsFiles, rows_after}
use Rattle.uicc_tree.specs.Arena.{files_of}
use Rattle.uicc_tree.specs.Files.{Files, rows_of}
use Rattle.uicc_tree.proofs.UsedLemmas.{keeps_sizes, used_kept}
use Rattle.uicc_tree.proofs.tree.Tree.used_after.Goals as goal

pub returns-in_default : goal.returns-in_default
returns-in_default c =
    let change = c.args.change.now in
    let fits = subst (λ (t : Files). FitsFiles t change) (sym c.self.view_is) c.requires in
    c.self.invariant.used
    ∙ sym (used_kept (files_of c.self.inside.arena) change c.self.invariant.kept.rows fits (keeps_sizes change c.in_default.not-FileAdd c.in_default.not-FileGone c.in_default.not-FileSize))
    ∙ ap (λ (t : Files). use_of (rows_after (rows_of t) change)) c.self.view_is
