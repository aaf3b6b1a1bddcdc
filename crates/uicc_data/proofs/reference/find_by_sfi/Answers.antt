use Rattle.std.proofs.Common.{◌≡◌, ℕ, List, ◌∙◌, subst}
use Rattle.file_rows.specs.Find.{child_with_sfi}
use Rattle.uicc_channels.proofs.AmongLemmas.{path_found}
use Rattle.uicc_tree.specs.Files.{Gives, file_of, path_of, rows_of}
use Rattle.uicc_data.proofs.reference.find_by_sfi.Goals as goal

pub returns : goal.returns
returns c =
    let path : path_of c.args.tree.now c.in_ok-directory.directory ≡ c.args.directory.now =
    path_found c.as_slice.result.now (rows_of c.args.tree.now) (file_of c.args.tree.now c.in_ok-directory.directory) c.in_ok-directory.ensures.1 ∙ c.as_slice.ensures.value in
    subst (λ (d : List ℕ). Gives c.args.tree.now c.by_sfi.result (child_with_sfi (rows_of c.args.tree.now) d c.args.sfi)) path c.by_sfi.ensures
