use Rattle.std.proofs.Common.{List, subst}
use Rattle.std.specs.Prelude.{slice_get, slice_set, IsSomeAnd, ◌≡◌}
use Rattle.file_rows.specs.Change.{with_body, written}
use Rattle.file_rows.specs.declared.row.FileRow.{FileRow}
use Rattle.profile_install.proofs.FilesStay.{found_after_write}
use Rattle.profile_install.proofs.draft_files.DraftFiles.write.Goals as goal

pub invariant_of-self : goal.invariant_of-self
invariant_of-self c =
    found_after_write c.self.inside c.args.index c.args.place c.args.bytes.now
    c.with_content.result c.self.invariant
    (subst (λ (rows : List FileRow). IsSomeAnd (slice_get rows c.args.index)
    (λ row. c.with_content.result ≡ slice_set rows c.args.index
    (with_body (written c.args.place c.args.bytes.now) row))) c.replace-rows.ensures.value
    c.with_content.ensures)
