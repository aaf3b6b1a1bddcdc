use Rattle.std.proofs.Common.{List, ℕ, ◌∙◌, ap}
use Rattle.std.specs.Prelude.{is_some}
use Rattle.std.specs.BTreeSet.{contains_by}
use Rattle.file_rows.specs.declared.row.FileRow.{FileRow}
use Rattle.profile_install.specs.Draft.{with_sfi}
use Rattle.profile_install.specs.FileKeys.{to_sfi}
use Rattle.profile_install.proofs.draft_files.DraftFiles.has_sfi.Goals as goal

pub returns : goal.returns
returns c =
    c.contains.ensures
    ∙ ap (λ (path : List ℕ). contains_by (to_sfi path c.args.sfi) c.self.inside.sfis)
    (c.path_key.ensures ∙ c.as_slice.ensures.value)
    ∙ c.self.invariant.sfis c.args.directory.now c.args.sfi
    ∙ ap (λ (rows : List FileRow). is_some (with_sfi c.args.directory.now c.args.sfi rows))
    c.self.view_is
