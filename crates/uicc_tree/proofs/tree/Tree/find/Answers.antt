use Rattle.std.proofs.Common.{subst}
use Rattle.file_rows.specs.Content.{file_at}
use Rattle.uicc_tree.specs.Arena.{files_of}
use Rattle.uicc_tree.specs.Files.{Files, Gives, rows_of}
use Rattle.uicc_tree.proofs.GivesLemmas.{gives_parts}
use Rattle.uicc_tree.proofs.tree.Tree.find.Goals as goal

pub returns : goal.returns
returns c =
    subst (λ (t : Files). Gives t c.find.result (file_at c.args.path.now (rows_of t))) c.self.view_is
    (gives_parts (files_of c.self.inside.arena) c.find.result _ c.find.ensures.node c.find.ensures.no_file)
