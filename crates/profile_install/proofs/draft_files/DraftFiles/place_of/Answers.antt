use Rattle.std.proofs.Common.{List, ℕ, ◌∙◌, ap}
use Rattle.std.specs.Prelude.{position}
use Rattle.std.specs.BTreeMap.{get_by}
use Rattle.file_rows.specs.Path.{same_path}
use Rattle.file_rows.specs.declared.row.FileRow.{FileRow}
use Rattle.profile_install.specs.FileKeys.{to_path}
use Rattle.profile_install.proofs.draft_files.DraftFiles.place_of.Goals as goal

pub returns : goal.returns
returns c =
    c.copied.ensures ∙ c.get.ensures.value
    ∙ ap (λ (path : List ℕ). get_by (to_path path) c.self.inside.places) c.path_key.ensures
    ∙ c.self.invariant.places c.args.path.now
    ∙ ap (λ (rows : List FileRow). position
    (λ (row : FileRow). same_path row.head.path c.args.path.now) rows) c.self.view_is
