use Rattle.std.proofs.Common.{sym, subst}
use Rattle.std.specs.Prelude.{IsSomeAnd}
use Rattle.file_rows.specs.Change.{Fits}
use Rattle.file_rows.specs.Content.{file_at}
use Rattle.file_rows.specs.declared.change.Change.{Change}
use Rattle.record_codec.specs.InPlace.{CanChange}
use Rattle.record_codec.proofs.RowLemmas.{record_can}
use Rattle.record_codec.proofs.content_change.change_content.Goals as goal

pub change_rows-requires-in-WriteRecord-clause-can : goal.change_rows-requires-in-WriteRecord-clause-can
change_rows-requires-in-WriteRecord-clause-can c =
    let content = c.args.content.now in
    let it = c.in-WriteRecord in
    subst (λ (change : Change). IsSomeAnd (file_at it.path content.rows) (λ row. CanChange change row c.args.kept)) (sym it.is)
    (record_can content it.path it.number it.bytes c.requires.valid (subst (λ (change : Change). Fits content change) it.is c.requires.fits))
