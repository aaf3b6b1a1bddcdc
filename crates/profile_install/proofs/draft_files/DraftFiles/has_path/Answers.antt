use Rattle.std.proofs.Common.{ℕ, ◌∙◌, ap, Option}
use Rattle.std.specs.Prelude.{is_some}
use Rattle.file_rows.specs.Path.{same_path}
use Rattle.file_rows.specs.declared.row.FileRow.{FileRow}
use Rattle.profile_install.proofs.FilesFound.{place_found}
use Rattle.profile_install.proofs.draft_files.DraftFiles.has_path.Goals as goal

pub returns : goal.returns
returns c =
    c.is_some.ensures ∙ ap (λ (o : Option ℕ). is_some o) c.place_of.ensures
    ∙ place_found (λ (row : FileRow). same_path row.head.path c.args.path.now) c.args.self.now
