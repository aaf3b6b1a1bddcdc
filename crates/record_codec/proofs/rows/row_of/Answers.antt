use Rattle.std.proofs.Common.{◌∙◌, length, refl, sym}
use Rattle.std.specs.Prelude.{slice_get}
use Rattle.std.proofs.lemmas.Option.{slice_get_read}
use Rattle.std.proofs.lemmas.Slice.Eq.{bytes_eq-Decides}
use Rattle.file_rows.proofs.EditLemmas.{is_some_and}
use Rattle.record_codec.proofs.RowLemmas.{IsAt}
use Rattle.record_codec.proofs.rows.row_of.Goals as goal

pub returns-then-is_at-clause-found : goal.returns-then-is_at-clause-found
returns-then-is_at-clause-found c =
    let rows = c.args.rows.now in
    let row = c.index-rows-place.result in
    is_some_and (slice_get rows c.loop-place.place) (IsAt c.args.path.now) row
    (slice_get_read rows (length rows) c.loop-place.place row refl c.loop-place-test.true c.index-rows-place.is)
    ((bytes_eq-Decides row.head.path c.args.path.now).0 (sym c.is_at.ensures ∙ c.if-is_at.true))
