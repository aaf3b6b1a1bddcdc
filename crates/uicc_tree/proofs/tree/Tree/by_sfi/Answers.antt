use Rattle.std.proofs.Common.{subst}
use Rattle.file_rows.specs.Find.{child_with_sfi}
use Rattle.uicc_tree.specs.Arena.{files_of}
use Rattle.uicc_tree.specs.Files.{Files, Gives, path_of, rows_of}
use Rattle.uicc_tree.proofs.GivesLemmas.{gives_sfi}
use Rattle.uicc_tree.proofs.tree.Tree.by_sfi.Goals as goal

pub returns : goal.returns
returns c =
    subst (λ (t : Files). Gives t c.child_with_sfi.result (child_with_sfi (rows_of t) (path_of t c.args.node) c.args.sfi)) c.self.view_is
    (gives_sfi (files_of c.self.inside.arena) _ c.args.sfi c.child_with_sfi.result c.self.invariant.kept.rows c.child_with_sfi.ensures.found c.child_with_sfi.ensures.none)
