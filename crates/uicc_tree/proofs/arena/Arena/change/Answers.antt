use Rattle.std.proofs.Common.{ℕ, List, sym, subst}
use Rattle.std.specs.Prelude.{IsSomeAnd}
use Rattle.file_rows.specs.Change.{IsRecordFor}
use Rattle.file_rows.specs.Content.{file_at}
use Rattle.file_rows.specs.declared.change.Change.{Change}
use Rattle.uicc_tree.specs.Arena.{files_of}
use Rattle.uicc_tree.specs.Change.{FitsFiles, IsRow}
use Rattle.uicc_tree.specs.Files.{rows_of}
use Rattle.uicc_tree.proofs.ApplyLemmas.{row_is, some_and}
use Rattle.uicc_tree.proofs.arena.Arena.change.Goals as goal

pub write_record-requires-clause-there : goal.write_record-requires-clause-there
write_record-requires-clause-there c =
    let rows = rows_of (files_of c.args.self.now) in
    let number : ℕ = c.in-WriteRecord.number in
    let fits = subst (λ (change : Change). FitsFiles (files_of c.args.self.now) change) c.in-WriteRecord.is c.requires.fits in
    let there = some_and (file_at c.in-WriteRecord.path rows) (λ row. IsRecordFor row number c.in-WriteRecord.bytes) IsRow fits.1.place (row_is rows c.requires.kept.rows c.in-WriteRecord.path) in
    subst (λ (path : List ℕ). IsSomeAnd (file_at path rows) (λ row. IsRecordFor row number c.as_slice-in-WriteRecord-2.result.now × IsRow row)) (sym c.as_slice-in-WriteRecord.ensures.value)
    (subst (λ (bytes : List ℕ). IsSomeAnd (file_at c.in-WriteRecord.path rows) (λ row. IsRecordFor row number bytes × IsRow row)) (sym c.as_slice-in-WriteRecord-2.ensures.value) there)

pub returns-in-FileAdd-clause-stay : goal.returns-in-FileAdd-clause-stay
returns-in-FileAdd-clause-stay c node live outlives = c.add_file.ensures.stay node live
